-- `words::put_copy` meets its contract. Assumes nothing.
use mathlib.Core.Path.{sym, ap, ◌∙◌}
use lib.ListN.{length}
use lib.Seq.{length-take-le}
use Rattle.words.proofs.Letters.{count_small, put_copied}
use Rattle.words.proofs.put_copy.Goals as goal

pub slice_bounds-room-end : goal.slice_bounds-room-end
slice_bounds-room-end c = count_small _ _ c.word_count-k.ensures c.requires.0

pub slice_bounds-own-end : goal.slice_bounds-own-end
slice_bounds-own-end c = sym (length-take-le _ _ (count_small _ _ c.word_count-k.ensures c.requires.0))

pub copy-requires : goal.copy-requires
copy-requires c = length-take-le _ _ (count_small _ _ c.word_count-k.ensures c.requires.0) ∙ c.word_count-k.ensures ∙ sym c.requires.1

pub put_counted-requires : goal.put_counted-requires
put_counted-requires c = (c.requires.0, ap length c.copy.ensures ∙ c.requires.1, c.requires.2)

pub returns : goal.returns
returns c = (put_copied _ _ c.args.slot.now _ c.copy.ensures c.put_counted.ensures.0, c.put_counted.ensures.1)
