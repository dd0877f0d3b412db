-- `solver::ask_and_solve` meets its contract: refused by 1, 17, 4 or 8, else solving answers 22, 23 and 9.
-- Assumes nothing.
use native.Mathlib.Omega.{arith}
use Rattle.std.proofs.lemmas.Result.{err_from_is_err_and}
use Rattle.solver.proofs.Calls.{all_small, solving_refused, solving_done}
use Rattle.solver.proofs.ask_and_solve.Goals as goal

pub overflow_mul-all : goal.overflow_mul-all
overflow_mul-all c = omega (arith, all_small c.in_ok-ordered.ordered.letters)

pub returns-in_err-ordered : goal.returns-in_err-ordered
returns-in_err-ordered c =
    let no = err_from_is_err_and c.from_residual.result c.from_residual.ensures.1 in
    rw (no.1, no.2) (solving_refused _ _ _ _ _ _ _ _ c.in_err-ordered.ensures)

pub returns : goal.returns
returns c = solving_done _ _ _ _ _ _ _ _ c.in_ok-ordered.ensures c.solve_by.ensures
