-- `session::Session::ask` meets its contract: question 1, then 8 of the present table and of the marked names.
-- Assumes nothing.
use mathlib.Core.Path.{sym, ◌∙◌}
use Rattle.std.proofs.lemmas.Result.{err_from_is_err_and}
use Rattle.session.proofs.Asked.{own_passed, own_marks_no}
use Rattle.session.proofs.Session.ask.Goals as goal

pub returns-in_err-ask_marks : goal.returns-in_err-ask_marks
returns-in_err-ask_marks c =
    let letters = c.in_ok-letters.ensures in
    let no = err_from_is_err_and c.from_residual-in_err-ask_marks.result c.from_residual-in_err-ask_marks.ensures.1 in
    rw (no.1, no.2)
    (own_marks_no _ c.in_ok-letters.letters _ (record { unknowns = letters.0; givens = letters.1 }) letters.2 (sym c.holds_bits.ensures ∙ c.in_ok-require.ensures)
    c.in_err-ask_marks.ensures)

pub returns : goal.returns
returns c =
    let letters = c.in_ok-letters.ensures in
    own_passed _ _ (record { unknowns = letters.0; givens = letters.1 }) letters.2 (sym c.holds_bits.ensures ∙ c.in_ok-require.ensures)
    c.in_ok-ask_marks.ensures
