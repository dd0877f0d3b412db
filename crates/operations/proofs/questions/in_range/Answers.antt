-- `operations::questions::in_range` meets its contract, test by test.
-- Assumes nothing.
use borrow.Author.Tests.{le-ltb, lt-ltb}
use Rattle.tables.specs.Questions.{in_range}
use Rattle.operations.proofs.questions.in_range.Goals as goal

pub returns-then-pow2-state : goal.returns-then-pow2-state
unfolding in_range
returns-then-pow2-state c = rw (← c.pow2.ensures, le-ltb _ _ c.if-pow2-state.true)

pub returns : goal.returns
unfolding in_range
returns c = rw (← c.pow2.ensures, lt-ltb _ _ c.if-pow2-state.false, ← c.pow2-2.ensures)
