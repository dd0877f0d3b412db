-- The invariant: the first j answers are listed. Assumes nothing.
use mathlib.Core.Path.{◌∙◌}
use native.Mathlib.Omega.{arith}
use borrow.Author.Rules.{rules}
use Rattle.words.proofs.Parts.{part_fits, part_length_lem}
use Rattle.writer.proofs.Monomials.{answering_start, answer_room_lem, answering_more, answering_end}
use Rattle.writer.proofs.list_answers.Goals as goal

pub loop-j-init : goal.loop-j-init
loop-j-init c = (answering_start _ _ _ _ _ c.requires.2, c.requires.3)

pub list_values-at-requires : goal.list_values-at-requires
list_values-at-requires c = (
  c.args.letters.n_fits,
  omega (arith, c.loop-j-test.true, c.args.letters.unknowns_fit),
  part_length_lem _ _ _ (part_fits _ _ _ _ _ c.word_count-k.ensures c.loop-j-test.true c.requires.0) ∙ c.word_count-k.ensures,
  c.requires.1,
  answer_room_lem c.loop-j.invariant.0 c.loop-j-test.true,
  c.loop-j.invariant.1,
)

pub loop-j-preserved : goal.loop-j-preserved
loop-j-preserved c = (
  answering_more c.loop-j.invariant.0 c.loop-j-test.true c.word_count-k.ensures c.list_values-at.ensures,
  search rules,
)

pub returns : goal.returns
returns c = answering_end c.loop-j.invariant.0 c.loop-j-test.false
