-- `session::Session::ask_name` meets its contract: the session's own questions, then 18.
-- Assumes nothing.
use mathlib.Core.Path.{sym, ◌∙◌}
use Rattle.std.proofs.lemmas.Result.{err_from_is_err_and}
use Rattle.calls.specs.Questions.{mark_questions}
use Rattle.session.proofs.Asked.{own_no, name_low, name_no, name_passed}
use Rattle.session.proofs.Session.ask_name.Goals as goal

pub returns-in_err-ask : goal.returns-in_err-ask
unfolding mark_questions
returns-in_err-ask c =
    let no = err_from_is_err_and c.from_residual.result c.from_residual.ensures.1 in
    rw (no.1, no.2) (own_no _ _ _ c.in_err-ask.ensures)

pub returns-in_err-require : goal.returns-in_err-require
returns-in_err-require c =
    let no = err_from_is_err_and c.from_residual-in_err-require.result c.from_residual-in_err-require.ensures.1 in
    rw (no.1, no.2, c.in_err-require.ensures.0)
    (name_no _ _ c.in_ok-ask.ensures.none_no (sym c.is_name.ensures ∙ c.in_err-require.ensures.1))

pub overflow_sub-result : goal.overflow_sub-result
overflow_sub-result c = name_low _ (sym c.is_name.ensures ∙ c.in_ok-require.ensures)

pub returns : goal.returns
returns c = name_passed _ _ c.in_ok-ask.ensures.none_no (sym c.is_name.ensures ∙ c.in_ok-require.ensures)
