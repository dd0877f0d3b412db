-- `polynomials::four` meets its contract. Assumes nothing.
use native.Mathlib.Omega.{arith}
use Rattle.polynomials.specs.Inner.LookUp.{chosen}
use Rattle.polynomials.proofs.LookUp.{four_chosen}
use Rattle.polynomials.proofs.four.Goals as goal

pub returns : goal.returns
unfolding chosen
returns c = four_chosen c.args.bits
    c.args.a
    c.args.b _ _ _ _ _ _ _
    (omega (arith, c.ranges.a))
    (omega (arith, c.ranges.b))
    c.full.ensures c.full-2.ensures
    c.full-3.ensures c.full-4.ensures c.pick-clear.ensures
    c.pick-set.ensures c.pick.ensures
