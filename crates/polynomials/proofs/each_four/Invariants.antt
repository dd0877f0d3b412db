-- `polynomials::each_four` meets its contract. Assumes nothing.
use mathlib.Core.Path.{◌≡◌}
use Prim.Native.Nat.{◌≤◌}
use lib.ListN.{length}
use Rattle.ring.specs.Letters.{bit}
use Rattle.tables.proofs.Filled.{filled}
use Rattle.words.specs.Inner.Words.{word_of}
use Rattle.polynomials.specs.Inner.LookUp.{place_of}
use Rattle.polynomials.proofs.each_four.Given as goal

abbrev pub invariant-loop-x : goal.invariant-loop-x
invariant-loop-x l = (l.x ≤ 16) × (l.s ≡ filled l.x (λ x. word_of (λ i. bit x (place_of l.a l.b i))) l.initial.s) × (length l.s ≡ length l.initial.s)
