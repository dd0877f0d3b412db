-- `solver::solve_values` meets its contract: the state that elimination answers, or 2 ^ g for none, tells whether there is a solution.
-- Assumes nothing.
use lib.ListN.{take}
use Rattle.solution.specs.Condition.{ListsEach}
use Rattle.solution.proofs.Order.{fits_each, fits_order}
use Rattle.solver.proofs.OnWords.{none_said, solved_said}
use Rattle.solver.proofs.solve_values.Goals as goal

pub solve_words-state-requires : goal.solve_words-state-requires
solve_words-state-requires c =
    let u = c.args.ordered.letters.unknowns in
    let each : ListsEach u (take u c.widened-order.result) = rw c.widened-order.ensures (fits_each _ _ c.args.ordered.in_order) in
    (each, c.requires.0, c.requires.1)

pub returns-then-state-pow2 : goal.returns-then-state-pow2
returns-then-state-pow2 c fact t e =
    none_said _ (fits_order _ _ c.args.ordered.in_order) _ e _ _ (rw c.widened-order.ensures at c.solve_words-state.ensures.value)
    c.pow2.ensures c.if-state-pow2.true

pub returns : goal.returns
returns c fact t e =
    solved_said _ (fits_order _ _ c.args.ordered.in_order) _ e _ _ (rw c.widened-order.ensures at c.solve_words-state.ensures.value)
    c.pow2.ensures _ c.if-state-pow2.false (rw (c.args.ordered.letters.n_is, c.widened-order.ensures) at c.solve_words-state.ensures.answers_after)
