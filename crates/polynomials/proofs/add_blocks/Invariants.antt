-- `polynomials::add_blocks` meets its contract: the blocks below w are made, and counted. Assumes nothing.
use mathlib.Core.Path.{◌≡◌}
use Prim.Native.Nat.{◌≤◌, ◌*◌}
use lib.ListN.{length}
use Rattle.ring.specs.Letters.{digit}
use Rattle.ring.specs.Polynomial.{count, sum}
use Rattle.ring.specs.Table.{present}
use Rattle.tables.proofs.Filled.{filled}
use Rattle.polynomials.proofs.add_blocks.Given as goal

abbrev pub invariant-loop-w : goal.invariant-loop-w
invariant-loop-w l = (l.w * 128 ≤ length l.initial.out) × (l.out ≡ filled (l.w * 128) (λ m. digit (sum (present l.a) (present l.b) m)) l.initial.out) × (length l.out ≡ length l.initial.out)
    × (l.ones ≡ count (l.w * 128) (sum (present l.a) (present l.b)))
