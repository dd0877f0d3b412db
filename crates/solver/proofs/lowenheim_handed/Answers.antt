-- `solver::lowenheim_handed` meets its contract: refused with nothing changed, or the answers at the front of the buffer.
-- Assumes nothing.
use native.Mathlib.Omega.{arith}
use Rattle.std.proofs.lemmas.Result.{err_from_is_err_and}
use Rattle.solver.proofs.Calls.{all_small}
use Rattle.solver.proofs.Handed.{handed_refused, handed_done}
use Rattle.solver.proofs.lowenheim_handed.Goals as goal

pub overflow_mul-all : goal.overflow_mul-all
overflow_mul-all c = omega (arith, all_small c.in_ok-letters.letters)

pub returns-in_err-letters : goal.returns-in_err-letters
returns-in_err-letters c =
    let no = err_from_is_err_and c.from_residual.result c.from_residual.ensures.1 in
    rw (no.1, no.2) (handed_refused _ _ _ _ _ _ _ c.in_err-letters.ensures)

pub returns : goal.returns
returns c = handed_done _ _ _ _ _ _ _ c.in_ok-letters.ensures c.test_and_mix.ensures
