-- `solution::order_fits` meets its contract, test by test. Assumes nothing.
use mathlib.Core.Path.{sym, ◌∙◌}
use native.Mathlib.Omega.{arith}
use Rattle.std.proofs.lemmas.Bool.Decides.{nat_tests}
use Rattle.solution.proofs.OrderAsked.{many_refused, each_refused, rest_asked}
use Rattle.solution.proofs.order_fits.Goals as goal
use Rattle.solution.proofs.order_fits.Goals.{then-u-le6, else-u-le6}

pub returns-then-holds_each : goal.returns-then-holds_each
returns-then-holds_each c = elim c.if-u-le6.branch [
  | then-u-le6 w ↦ rest_asked _ _ (omega arith) w.holds_each.ensures (omega arith) (sym w.value-is ∙ c.if-holds_each.true) c.all_unused.ensures
  | else-u-le6 w ↦ absurd (grind (arith, nat_tests))
]

pub returns-else-holds_each : goal.returns-else-holds_each
returns-else-holds_each c = elim c.if-u-le6.branch [
  | then-u-le6 w ↦ rw c.if-holds_each.false (each_refused _ _ (omega arith) w.holds_each.ensures (sym w.value-is ∙ c.if-holds_each.false))
  | else-u-le6 w ↦ rw c.if-holds_each.false (many_refused _ _ w.if-u-le6.false)
]
