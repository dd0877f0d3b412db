-- Multiplied by the values of 1 + g; without a fact every point counts. 22 and 23 have been answered yes. Assumes nothing.
use Rattle.facts.proofs.Kept.{values_where}
use Rattle.audit.proofs.Same.{all_count}
use Rattle.audit.proofs.take_counted.Goals as goal

pub returns-in-Ok : goal.returns-in-Ok
returns-in-Ok c = values_where _ _ _ _ _ _ c.in-Ok.ensures.kept_after c.take_values.ensures c.multiply_into.ensures

pub returns-else-has_fact : goal.returns-else-has_fact
returns-else-has_fact c =
    all_count _ c.requires.passed _ _ c.requires.is-table (c.has_fact.ensures c.if-has_fact.false) c.take_values.ensures
