-- `operations::derivative` meets its contract: refused with nothing changed, or the derivative of the part that counts.
-- Assumes nothing.
use mathlib.Core.Path.{◌∙◌}
use Rattle.std.proofs.lemmas.Result.{err_from_is_err_and}
use Rattle.tables.proofs.Answered.{call_no, call_done}
use Rattle.operations.proofs.Calls.{derivative_plain, derivative_whole, length-derivative}
use Rattle.operations.proofs.derivative.Goals as goal

pub returns-in_err-letters : goal.returns-in_err-letters
returns-in_err-letters c =
    let no = err_from_is_err_and c.from_residual.result c.from_residual.ensures.1 in
    rw (no.1, no.2) (call_no _ _ _ _ (derivative_plain _ _ _ _ _) c.in_err-letters.ensures)

pub returns : goal.returns
returns c =
    let passed = c.in_ok-letters.ensures in
    call_done _ _ _ _ _ _ passed.none_no (c.derive.ensures ∙ derivative_whole _ _ _ passed.letters _ _) (length-derivative _ _ _ passed.letters _ _)
