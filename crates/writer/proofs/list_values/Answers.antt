-- The coefficients, listed. Assumes nothing.
use Rattle.writer.proofs.Monomials.{listed-values}
use Rattle.writer.proofs.list_values.Goals as goal

pub returns : goal.returns
returns c = search listed-values
