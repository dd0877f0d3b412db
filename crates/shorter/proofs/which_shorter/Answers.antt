-- `shorter::which_shorter` meets its contract: refused, or said by the two totals.
-- Assumes nothing.
use Rattle.std.proofs.lemmas.Result.{err_from_is_err_and}
use Rattle.tables.proofs.Answered.{call_no}
use Rattle.shorter.proofs.Calls.{plain, which_said}
use Rattle.shorter.proofs.which_shorter.Goals as goal

pub returns-in_err-parts : goal.returns-in_err-parts
returns-in_err-parts c =
    let no = err_from_is_err_and c.from_residual.result c.from_residual.ensures.1 in
    rw (no.1, no.2) (call_no _ _ _ _ (plain _ _ _ _) c.in_err-parts.ensures)

pub returns : goal.returns
returns c = which_said _ _ _ _ _ _ c.in_ok-parts.ensures.0 _ c.shorter.ensures
