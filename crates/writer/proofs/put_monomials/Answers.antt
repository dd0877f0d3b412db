-- The invariant: the records of the numbers so far are put. Assumes nothing.
use native.Mathlib.Omega.{arith}
use mathlib.Core.Path.{refl}
use Rattle.writer.proofs.Parts.{writing_start, record_fits, writing_more, writing_end}
use Rattle.writer.proofs.put_monomials.Goals as goal

pub loop-code-init : goal.loop-code-init
loop-code-init c = search writing_start

pub put_monomial-at-requires : goal.put_monomial-at-requires
put_monomial-at-requires c = record_fits c.loop-code.invariant c.loop-code-test.true refl

pub loop-code-preserved : goal.loop-code-preserved
loop-code-preserved c = writing_more c.loop-code.invariant c.loop-code-test.true refl c.put_monomial-at.ensures

pub returns : goal.returns
returns c = writing_end c.loop-code.invariant (omega arith)
