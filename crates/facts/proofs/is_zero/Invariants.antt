-- `facts::is_zero` meets its contract. The loop's invariant: the union so far is 0 exactly if no monomial so far is present.
-- Assumes nothing.
use mathlib.Core.Path.{◌≡◌}
use mathlib.Core.Bool.{not}
use lib.Dec.{eqb}
use Rattle.ring.specs.Polynomial.{every_below}
use Rattle.ring.specs.Table.{present}
use Rattle.facts.proofs.is_zero.Given as goal

abbrev pub invariant-loop-byte : goal.invariant-loop-byte
invariant-loop-byte l = eqb l.union 0 ≡ every_below l.byte-index (λ i. not (present l.fact i))
