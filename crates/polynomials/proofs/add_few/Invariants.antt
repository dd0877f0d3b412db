-- `polynomials::add_few` meets its contract: the bytes below i are made, and counted. Assumes nothing.
use mathlib.Core.Path.{◌≡◌}
use Prim.Native.Nat.{◌≤◌}
use lib.ListN.{length}
use Rattle.ring.specs.Letters.{digit}
use Rattle.ring.specs.Polynomial.{count, sum}
use Rattle.ring.specs.Table.{present}
use Rattle.tables.proofs.Filled.{filled}
use Rattle.polynomials.proofs.add_few.Given as goal

abbrev pub invariant-loop-i : goal.invariant-loop-i
invariant-loop-i l = (l.i ≤ length l.initial.out) × (l.out ≡ filled l.i (λ m. digit (sum (present l.a) (present l.b) m)) l.initial.out) × (length l.out ≡ length l.initial.out)
    × (l.ones ≡ count l.i (sum (present l.a) (present l.b)))
