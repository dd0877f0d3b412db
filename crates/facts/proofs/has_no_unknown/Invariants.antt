-- `facts::has_no_unknown` meets its contract. The loop's invariant: the union so far is 0 exactly if no monomial so far that has an unknown
-- is present.
-- Assumes nothing.
use mathlib.Core.Path.{◌≡◌}
use lib.Dec.{eqb}
use Rattle.ring.specs.Polynomial.{every_below}
use Rattle.ring.specs.Table.{present}
use Rattle.facts.proofs.Unions.{monomial_fits}
use Rattle.facts.proofs.has_no_unknown.Given as goal

abbrev pub invariant-loop-m : goal.invariant-loop-m
invariant-loop-m l = eqb l.union 0 ≡ every_below l.m (monomial_fits l.u (present l.fact))
