-- Without a fact there is nothing to ask. Assumes nothing.
use mathlib.Core.Path.{sym, ◌∙◌}
use lib.Seq.{length-take-le}
use Rattle.words.proofs.Letters.{count_small}
use Rattle.records.proofs.Facts.{facts_asked, nothing_asked}
use Rattle.records.proofs.ask_fact.Goals as goal

pub slice_bounds-kept-end : goal.slice_bounds-kept-end
slice_bounds-kept-end c = count_small _ _ c.word_count-w.ensures c.args.letters.n_fits

pub returns-then-not-has_fact : goal.returns-then-not-has_fact
returns-then-not-has_fact c = nothing_asked _ c.requires (c.has_fact.ensures c.if-not-has_fact.true)

pub slice_bounds-keep_fact-end : goal.slice_bounds-keep_fact-end
slice_bounds-keep_fact-end c = sym (length-take-le _ _ (count_small _ _ c.word_count-w.ensures c.args.letters.n_fits))

pub keep_fact-requires : goal.keep_fact-requires
keep_fact-requires c =
    (c.requires, length-take-le _ _ (count_small _ _ c.word_count-w.ensures c.args.letters.n_fits) ∙ c.word_count-w.ensures)

pub returns : goal.returns
returns c = facts_asked _ c.requires _ c.keep_fact.ensures.value
