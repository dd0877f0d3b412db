-- `session::ask_marks` meets its contract: the first name that does not pass is the first no.
-- Assumes nothing.
use mathlib.Core.Path.{refl}
use Rattle.std.proofs.lemmas.Result.{err_from_is_err_and}
use Rattle.tables.specs.Questions.{first_no, bit_questions}
use Rattle.session.specs.Session.{marked_tables}
use Rattle.session.specs.Inner.Asking.{marked_questions}
use Rattle.session.proofs.Asked.{marks_more, marks_no}
use Rattle.session.proofs.ask_marks.Goals as goal

pub loop-mark-init : goal.loop-mark-init
unfolding marked_questions marked_tables bit_questions first_no
loop-mark-init c = refl

pub returns-in_err-ask_mark : goal.returns-in_err-ask_mark
returns-in_err-ask_mark c =
    let no = err_from_is_err_and c.from_residual.result c.from_residual.ensures.1 in
    rw (no.1, no.2) (marks_no _ _ c.loop-mark.mark-index _ c.loop-mark-test.true c.loop-mark.invariant _ c.in_err-ask_mark.ensures)

pub loop-mark-preserved : goal.loop-mark-preserved
loop-mark-preserved c =
    marks_more _ _ c.loop-mark.mark-index _ c.loop-mark-test.true c.loop-mark.invariant c.in_ok-ask_mark.ensures
