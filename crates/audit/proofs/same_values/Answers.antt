-- The answers for the unknowns below j agree. Assumes nothing.
use mathlib.Core.Path.{refl, sym, ◌∙◌}
use borrow.Author.Tests.{not-true, not-false}
use Rattle.entry.proofs.SameBytes.{same_pointwise}
use Rattle.words.proofs.Words.{size_words}
use Rattle.words.proofs.Parts.{part_fits}
use Rattle.audit.proofs.Same.{held-length, part_is_table, agreed_start, agreed_next, agreed_differ}
use Rattle.audit.proofs.Same.{agreed_end}
use Rattle.audit.proofs.same_values.Goals as goal

pub loop-j-init : goal.loop-j-init
loop-j-init c = (refl, agreed_start _ _ _ _)

pub slice_bounds-take_values-end : goal.slice_bounds-take_values-end
slice_bounds-take_values-end c = part_fits _ _ _ _ _ c.pow2-k.ensures c.loop-j-test.true (held-length _ _ _ c.requires.2)

pub take_values-requires : goal.take_values-requires
take_values-requires c =
    (c.requires.1, part_is_table _ _ _ c.requires.2 _ _ c.pow2-k.ensures c.loop-j-test.true, c.loop-j.invariant.0 ∙ c.requires.4)

pub returns-then-ne : goal.returns-then-ne
returns-then-ne c =
    agreed_differ _ _ _ _ c.requires.2 _ c.loop-j.invariant.1 c.loop-j-test.true c.pow2-k.ensures c.word_count-w.ensures _ c.take_values.ensures
    (sym (same_pointwise _ _) ∙ not-true _ (sym c.if-ne.ensures))

pub loop-j-preserved : goal.loop-j-preserved
loop-j-preserved c = (
  size_words _ _ _ c.take_values.ensures ∙ sym c.requires.4,
  agreed_next _ _ _ _ c.requires.2 _ c.loop-j.invariant.1 c.loop-j-test.true c.pow2-k.ensures c.word_count-w.ensures _ c.take_values.ensures
      (sym (same_pointwise _ _) ∙ not-false _ (sym c.if-ne.ensures)),
)

pub returns : goal.returns
returns c = agreed_end _ _ _ _ c.requires.2 _ c.loop-j.invariant.1 c.loop-j-test.false
