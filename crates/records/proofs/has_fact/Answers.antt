-- Where the row is empty the fact is 0. Assumes nothing.
use mathlib.Core.Path.{sym, ◌∙◌}
use mathlib.Core.List.{[]}
use Rattle.records.proofs.Facts.{passed_kinds, own_fits, no_row}
use Rattle.records.proofs.has_fact.Goals as goal

pub fact_at-at-requires : goal.fact_at-at-requires
fact_at-at-requires c = passed_kinds _ c.requires

pub is_there-requires : goal.is_there-requires
is_there-requires c = (c.fact_at-at.ensures _ _ [] (own_fits _ c.requires)).filling.inside

pub returns : goal.returns
returns c n = no_row _ c.requires _ c.fact_at-at.ensures (sym c.is_there.ensures.value ∙ n)
