-- The first record, if it is of a kind that says something. Assumes nothing.
use mathlib.Core.Path.{sym}
use Rattle.records.proofs.Answers.{start_says, end_says, nothing_said}
use Rattle.records.proofs.start_of.Goals as goal

pub returns-then-is_there : goal.returns-then-is_there
returns-then-is_there c = start_says _ c.if-is_there.ensures.there.stands c.from.ensures c.from-then-is_there.ensures

pub returns-then-is_there-2 : goal.returns-then-is_there-2
returns-then-is_there-2 c = end_says _ (sym c.if-is_there.ensures.value) c.if-is_there-2.ensures.there.stands

pub returns : goal.returns
returns c = nothing_said _ (sym c.if-is_there.ensures.value) (sym c.if-is_there-2.ensures.value)
