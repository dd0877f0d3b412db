-- `elimination::answer_word` meets its contract: what remains comes back through the later unknowns, and then the first has its answer.
-- Assumes nothing.
use Rattle.std.proofs.Common.{arith}
use Rattle.elimination.proofs.Stages.{rest_length, rest_letters, rest_once, first_letter}
use Rattle.elimination.proofs.OneWord.{remains_none, answered_none, remains-next, answered-next}
use Rattle.elimination.proofs.+answer_word.Goals as goal

pub returns-in_default : goal.returns-in_default
returns-in_default t c = record {
  value = remains_none _ c.args.order.now (omega arith) (omega (arith, c.ranges.f));
  answers_after = answered_none _ c.args.order.now _ (omega arith);
}

pub both_word-requires : goal.both_word-requires
both_word-requires t c =
    omega (arith, first_letter _ c.args.order.now c.requires.0 (omega arith), c.requires.1)

pub answer_word-remains-requires : goal.answer_word-remains-requires
answer_word-remains-requires t c = (
  omega (arith, c.decreases, rest_length c.args.order.now),
  (rest_letters _ c.args.order.now c.requires.0, c.requires.1, rest_once c.args.order.now c.requires.2),
)

pub put_placed-requires : goal.put_placed-requires
put_placed-requires t c = (
  λ x h. omega (arith, rest_letters _ c.args.order.now c.requires.0 x h, c.answer_word-remains.auto.answers),
  omega (arith, c.requires.1, c.answer_word-remains.auto.answers),
)

pub offset_bounds-answers-x : goal.offset_bounds-answers-x
offset_bounds-answers-x t c =
    omega (arith, first_letter _ c.args.order.now c.requires.0 (omega arith), c.requires.1)

pub bounds-answers-x : goal.bounds-answers-x
bounds-answers-x t c =
    omega (arith, first_letter _ c.args.order.now c.requires.0 (omega arith), c.answer_word-remains.auto.answers)

pub returns : goal.returns
returns t c = record {
  value = remains-next _ _ _ c.args.order.now (λ x h. omega (arith, c.requires.0 x h, c.requires.1)) (omega arith)
      c.both_word.ensures c.answer_word-remains.ensures.value;
  answers_after = answered-next _ _ _ _ c.args.order.now _ _ c.requires.0 c.requires.1 c.requires.2 (omega arith)
      c.both_word.ensures c.answer_word-remains.ensures.answers_after c.low_letter.ensures c.put_placed.ensures;
}
