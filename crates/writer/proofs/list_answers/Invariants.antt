-- The invariant: the first j answers are listed. Assumes nothing.
use mathlib.Core.Path.{◌≡◌}
use Prim.Native.Nat.{◌-◌, ◌^◌}
use lib.ListN.{length}
use Rattle.writer.proofs.Monomials.{Answering}
use Rattle.writer.proofs.list_answers.Given as goal

abbrev pub invariant-loop-j : goal.invariant-loop-j
invariant-loop-j l = Answering l.letters.unknowns l.letters.n l.answers l.initial.codes l.from l.j l.at l.codes × (length l.own ≡ 2 ^ (l.letters.n - 6))
