-- The scratch has the lengths that the work needs. Assumes nothing.
use mathlib.Core.Path.{sym}
use lib.Seq.{length-take-le}
use Rattle.records.proofs.OneRecord.{length_small}
use Rattle.reader.proofs.Buffers.{size_small}
use Rattle.audit.proofs.holds_afresh.Goals as goal

pub slice_bounds-condition-end : goal.slice_bounds-condition-end
slice_bounds-condition-end c = length_small c.args.survey.letters

pub slice_bounds-answers_hold-end : goal.slice_bounds-answers_hold-end
slice_bounds-answers_hold-end c = sym (length-take-le _ _ (length_small c.args.survey.letters))

pub slice_bounds-held-end : goal.slice_bounds-held-end
slice_bounds-held-end c = size_small _ c.requires

pub slice_bounds-answers_hold-end-2 : goal.slice_bounds-answers_hold-end-2
slice_bounds-answers_hold-end-2 c = sym (length-take-le _ _ (size_small _ c.requires))

pub answers_hold-requires-clause-tables_len : goal.answers_hold-requires-clause-tables_len
answers_hold-requires-clause-tables_len c =
    (length-take-le _ _ (length_small c.args.survey.letters), length-take-le _ _ (size_small _ c.requires))
