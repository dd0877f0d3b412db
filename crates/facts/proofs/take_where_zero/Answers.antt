-- `facts::take_where_zero` meets its contract: a condition's values multiplied by what `keep` leaves are those of f*(1 + g).
-- Assumes nothing.
use Rattle.facts.proofs.Kept.{values_where}
use Rattle.facts.proofs.take_where_zero.Goals as goal

pub returns-clause-values_after : goal.returns-clause-values_after
returns-clause-values_after c =
    values_where _ c.args.condition.now c.args.fact.now _ _ _ c.in_ok-keep.ensures.kept_after c.take_values.ensures c.multiply_into.ensures
