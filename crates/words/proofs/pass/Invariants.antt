-- `words::pass` meets its contract. Assumes nothing.
use mathlib.Core.Path.{◌≡◌}
use Prim.Native.Nat.{◌+◌, ◌^◌}
use Rattle.ring.proofs.Transform.{stage}
use Rattle.words.specs.Inner.Words.{words_of, bit_at}
use Rattle.words.proofs.pass.Given as goal

abbrev pub invariant-loop-j : goal.invariant-loop-j
invariant-loop-j l = l.t ≡ words_of (2 ^ l.c) (stage (6 + l.c) (bit_at l.initial.t) (6 + l.j))
