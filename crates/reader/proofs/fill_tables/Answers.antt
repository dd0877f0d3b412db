-- Cleared tables, and then the monomials. Assumes nothing.
use mathlib.Core.Path.{◌∙◌}
use Rattle.records.proofs.Filling.{cleared_length}
use Rattle.reader.proofs.Filling.{filled_condition, filled_answers}
use Rattle.reader.proofs.fill_tables.Goals as goal

pub fill-requires : goal.fill-requires
fill-requires c = (c.requires.0, cleared_length _ c.clear.ensures ∙ c.requires.1)

pub returns-clause-condition_after : goal.returns-clause-condition_after
returns-clause-condition_after c = filled_condition _ c.args.letters c.requires.0 c.clear.ensures c.requires.1 c.fill.ensures.condition_after

pub returns-clause-answers_after : goal.returns-clause-answers_after
returns-clause-answers_after c e = filled_answers _ c.args.letters c.requires.0 c.clear-2.ensures c.fill.ensures.answers_after e
