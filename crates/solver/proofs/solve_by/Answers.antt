-- `solver::solve_by` meets its contract: 22 and 23, then the verdict by the values of f*(1 + g), and a method's tables if there is a
-- solution.
-- Assumes nothing.
use Rattle.std.proofs.lemmas.Result.{err_from_is_err_and}
use Rattle.solver.proofs.OnWords.{fact_refused, none_by, solved_by}
use Rattle.solver.proofs.solve_by.Goals as goal

pub returns-in_err-take_where_zero : goal.returns-in_err-take_where_zero
returns-in_err-take_where_zero c =
    let no = err_from_is_err_and c.from_residual.result c.from_residual.ensures.1 in
    rw (no.1, no.2) (fact_refused _ c.args.ordered _ _ _ _ c.in_err-take_where_zero.ensures.value)

pub returns-in-Solved : goal.returns-in-Solved
returns-in-Solved c =
    solved_by _ c.args.ordered _ _ _ c.in_ok-take_where_zero.ensures.value _ _ c.copy.ensures c.in_ok-take_where_zero.ensures.values_after
    (c.solve_values.ensures _ _) c.in-Solved.is (c.write_by.ensures.0 _ _ _) c.write_by.ensures.1 c.requires.2

pub returns-in-None : goal.returns-in-None
returns-in-None c =
    none_by _ c.args.ordered _ _ _ c.in_ok-take_where_zero.ensures.value _ _ c.copy.ensures c.in_ok-take_where_zero.ensures.values_after
    (c.solve_values.ensures _ _) c.in-None.is
