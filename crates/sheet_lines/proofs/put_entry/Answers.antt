-- The ten-letter order itself, or the masks of it that are small enough. Assumes nothing.
use mathlib.Core.Path.{sym, ap, ◌∙◌}
use borrow.Author.Rules.{rules}
use lib.Pow.{pow_mono}
use lib.Seq.{length-take-le}
use Rattle.words.proofs.Letters.{count_small}
use Rattle.order.specs.Order.{order}
use Rattle.writer.proofs.Parts.{ordered}
use Rattle.sheet_lines.proofs.Entries.{masks_room}
use Rattle.sheet_lines.proofs.put_entry.Goals as goal

pub slice_bounds-coefficients-end : goal.slice_bounds-coefficients-end
slice_bounds-coefficients-end c = sym (length-take-le _ _ (count_small _ _ c.word_count-k.ensures c.args.letters.n_fits))

pub put_values-requires : goal.put_values-requires
put_values-requires c = (
  c.requires.0,
  c.requires.1,
  c.requires.2,
  length-take-le _ _ (count_small _ _ c.word_count-k.ensures c.args.letters.n_fits) ∙ c.word_count-k.ensures,
  c.args.work.now.ordered ∙ ap order (sym c.if-letters-eq10.true),
  search rules,
  c.requires.3,
)

pub fill_order-requires : goal.fill_order-requires
fill_order-requires c = (c.args.letters.n_fits, pow_mono c.args.letters.n_fits)

pub slice_bounds-few-end : goal.slice_bounds-few-end
slice_bounds-few-end c = masks_room _ c.fill_order.new.out c.args.letters.table_len_is c.args.letters.n_fits c.fill_order.auto.out

pub slice_bounds-put_values-end-2 : goal.slice_bounds-put_values-end-2
slice_bounds-put_values-end-2 c =
    sym (length-take-le _ _ (masks_room _ c.fill_order.new.out c.args.letters.table_len_is c.args.letters.n_fits c.fill_order.auto.out))

pub put_values-requires-2 : goal.put_values-requires-2
put_values-requires-2 c = (
  c.requires.0,
  c.requires.1,
  c.requires.2,
  length-take-le _ _ (count_small _ _ c.word_count-k.ensures c.args.letters.n_fits) ∙ c.word_count-k.ensures,
  ordered _ _ c.args.letters.table_len_is c.fill_order.ensures,
  search rules,
  c.requires.3,
)
