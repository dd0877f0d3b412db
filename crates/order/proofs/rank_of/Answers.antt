-- `order::rank_of` meets its contract. Assumes nothing.
use native.Mathlib.Omega.{arith}
use Rattle.order.specs.Inner.Place.{rank}
use Rattle.order.proofs.rank_of.Goals as goal

pub returns : goal.returns
unfolding rank
returns c = omega arith
