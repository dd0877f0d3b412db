-- `words::unpack_all` meets its contract. Assumes nothing.
use mathlib.Core.Path.{◌≡◌}
use Prim.Native.Nat.{◌≤◌, ◌*◌}
use Rattle.ring.specs.Letters.{digit}
use Rattle.ring.specs.Polynomial.{count}
use Rattle.tables.proofs.Filled.{filled}
use Rattle.words.specs.Inner.Words.{bit_at, crossed}
use Rattle.words.proofs.unpack_all.Given as goal

abbrev pub invariant-loop-w : goal.invariant-loop-w
invariant-loop-w l = (l.out ≡ filled (l.w * 64) (λ p. digit (bit_at l.words (crossed p))) l.initial.out)
    × (l.found ≡ count (64 * l.w) (bit_at l.words)) × (l.found ≤ 64 * l.w)
