-- `operations::counts` meets its contract, by computation.
-- Assumes nothing.
use mathlib.Core.Path.{refl}
use Rattle.ring.specs.Polynomial.{within}
use Rattle.operations.proofs.counts.Goals as goal

pub returns : goal.returns
unfolding within
returns c = refl
