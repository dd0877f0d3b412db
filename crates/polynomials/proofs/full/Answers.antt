-- `polynomials::full` meets its contract. Assumes nothing.
use Rattle.polynomials.proofs.LookUp.{point_word}
use Rattle.polynomials.proofs.full.Goals as goal

pub returns : goal.returns
returns c = point_word _ _
