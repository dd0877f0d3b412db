-- `words::unpack_each` meets its contract. Assumes nothing.
use mathlib.Core.Path.{◌≡◌}
use Prim.Native.Nat.{◌≤◌}
use lib.ListN.{length}
use Rattle.ring.specs.Letters.{digit}
use Rattle.tables.proofs.Filled.{filled}
use Rattle.words.specs.Inner.Words.{bit_at}
use Rattle.words.proofs.unpack_each.Given as goal

abbrev pub invariant-loop-p : goal.invariant-loop-p
invariant-loop-p l = (l.p ≤ length l.initial.out) × (l.out ≡ filled l.p (λ m. digit (bit_at l.words m)) l.initial.out) × (length l.out ≡ length l.initial.out)
