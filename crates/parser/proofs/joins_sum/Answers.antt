-- `parser::joins_sum` meets its contract. Assumes nothing.
use mathlib.Core.Path.{sym, ◌∙◌}
use borrow.Author.Tests.{eq-eqb, ne_eqb}
use Rattle.parser.proofs.Codes.{sum_sign}
use Rattle.parser.proofs.joins_sum.Goals as goal

pub returns-then-c-eq43 : goal.returns-then-c-eq43
returns-then-c-eq43 c = sym (sum_sign _ ∙ rw (eq-eqb _ _ c.if-c-eq43.true))

pub returns-else-c-eq43 : goal.returns-else-c-eq43
returns-else-c-eq43 c = sym (sum_sign _ ∙ rw (ne_eqb _ _ c.if-c-eq43.false))
