-- The fact's table is filled at the front of the scratch, and asked about. Assumes nothing.
use mathlib.Core.Path.{sym}
use lib.Seq.{length-take-le}
use Rattle.records.proofs.OneRecord.{length_small}
use Rattle.records.proofs.Facts.{fact_table}
use Rattle.records.proofs.keep_fact.Goals as goal

pub slice_bounds-scratch-end : goal.slice_bounds-scratch-end
slice_bounds-scratch-end c = length_small c.args.letters

pub slice_bounds-fact-end : goal.slice_bounds-fact-end
slice_bounds-fact-end c = sym (length-take-le _ _ (length_small c.args.letters))

pub fill_fact-requires : goal.fill_fact-requires
fill_fact-requires c = (c.requires.0, length-take-le _ _ (length_small c.args.letters))

pub keep-requires : goal.keep-requires
keep-requires c = (rw c.fill_fact.ensures (fact_table _ c.requires.0), c.requires.1)
