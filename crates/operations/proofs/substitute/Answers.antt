-- `operations::substitute` meets its contract: refused with nothing changed, or the handed polynomials put into the part that counts.
-- Assumes nothing.
use mathlib.Core.Path.{◌∙◌}
use Rattle.std.proofs.lemmas.Result.{err_from_is_err_and}
use Rattle.tables.proofs.Answered.{call_no, call_done_giving}
use Rattle.operations.proofs.Calls.{substitute_plain, counted_whole, substitute_whole, length-substitute}
use Rattle.operations.proofs.substitute.Goals as goal

pub returns-in_err-letters : goal.returns-in_err-letters
returns-in_err-letters c =
    let no = err_from_is_err_and c.from_residual.result c.from_residual.ensures.1 in
    rw (no.1, no.2) (call_no _ _ _ _ (substitute_plain _ _ _ _ _) c.in_err-letters.ensures)

pub returns : goal.returns
returns c =
    let passed = c.in_ok-letters.ensures in
    let made = c.substitute.ensures.0 ∙ substitute_whole _ _ _ passed.letters _ _ in
    call_done_giving _ _ _ _ _ _ _ (counted_whole _ _ _ passed.letters _ _ _ made c.substitute.ensures.1) passed.none_no made
    (length-substitute _ _ _ passed.letters _ _)
