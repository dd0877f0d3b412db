-- The row of the fact is put into cleared bytes. Assumes nothing.
use mathlib.Core.Path.{refl}
use Rattle.records.proofs.Facts.{passed_kinds, passed_fits, fact_filled}
use Rattle.records.proofs.fill_fact.Goals as goal

pub fact_at-at-requires : goal.fact_at-at-requires
fact_at-at-requires c = passed_kinds _ c.requires.0.yes

pub put_row-requires : goal.put_row-requires
put_row-requires c =
    let w = (c.fact_at-at.ensures _ _ c.clear.new.t (passed_fits _ c.requires.0)).filling in (w.inside, refl, w.fitting)

pub returns : goal.returns
returns c =
    fact_filled _ c.requires.0 _ c.requires.1 c.clear.ensures (c.fact_at-at.ensures _ _ c.clear.new.t (passed_fits _ c.requires.0))
    c.put_row.ensures.row c.put_row.ensures.ended
