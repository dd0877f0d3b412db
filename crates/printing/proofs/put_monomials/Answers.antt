-- The line of one more number. Assumes nothing.
use Rattle.printing.proofs.Records.{printing_start, line_fits, printing_more, printing_end}
use Rattle.printing.proofs.put_monomials.Goals as goal

pub loop-code-init : goal.loop-code-init
loop-code-init c = search printing_start

pub put_monomial-at-requires : goal.put_monomial-at-requires
put_monomial-at-requires c = search line_fits

pub loop-code-preserved : goal.loop-code-preserved
loop-code-preserved c = search printing_more

pub returns : goal.returns
returns c = search printing_end
