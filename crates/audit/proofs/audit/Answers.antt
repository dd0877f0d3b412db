-- Refused by one of the questions that reading asks too, refused by 13, or passed. Assumes nothing.
use Rattle.std.proofs.lemmas.Result.{err_from_is_err_and}
use Rattle.audit.proofs.Passing.{refused_before, refused_afresh, passed_all}
use Rattle.audit.proofs.audit.Goals as goal

pub returns-in_err-survey : goal.returns-in_err-survey
returns-in_err-survey c =
    let no = err_from_is_err_and c.from_residual.result c.from_residual.ensures.1 in
    rw (no.1, no.2) (refused_before _ _ c.in_err-survey.ensures.question)

pub returns-in_err-require : goal.returns-in_err-require
returns-in_err-require c =
    let no = err_from_is_err_and c.from_residual-in_err-require.result c.from_residual-in_err-require.ensures.1 in
    rw (no.1, no.2) (refused_afresh _ c.in_ok-survey.ensures c.holds_afresh.ensures _ c.in_err-require.ensures)

pub returns : goal.returns
returns c = passed_all _ c.in_ok-survey.ensures c.holds_afresh.ensures c.in_ok-require.ensures
