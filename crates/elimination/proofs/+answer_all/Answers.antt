-- `elimination::answer_all` meets its contract: the later unknowns first, and then the first. Assumes nothing.
use Rattle.std.proofs.Common.{arith, refl, ap, ◌∙◌, length}
use Rattle.elimination.proofs.Stages.{rest_length, rest_letters, rest_once, slot_room, length_stages, rest_stages, answers_none}
use Rattle.elimination.proofs.Stages.{answers_more, answered-size}
use Rattle.elimination.proofs.+answer_all.Goals as goal

pub returns-then-order-eq0 : goal.returns-then-order-eq0
returns-then-order-eq0 t c = answers_none _ _ _ c.if-order-eq0.true c.requires.3

pub slice_bounds-answer_all-count-2 : goal.slice_bounds-answer_all-count-2
slice_bounds-answer_all-count-2 t c =
    slot_room _ _ c.args.order.now c.args.stages.now c.pow2-k.ensures
    (ap length c.requires.3 ∙ length_stages c.args.c _ c.args.order.now) (omega arith)

pub slice_bounds-answer_all-start-2 : goal.slice_bounds-answer_all-start-2
slice_bounds-answer_all-start-2 t c = omega (
  arith,
  slot_room _ _ c.args.order.now c.args.stages.now c.pow2-k.ensures
      (ap length c.requires.3 ∙ length_stages c.args.c _ c.args.order.now) (omega arith),
)

pub answer_all-requires : goal.answer_all-requires
answer_all-requires t c = (
  omega (arith, c.decreases, rest_length c.args.order.now),
  (
    c.requires.0,
    rest_letters _ c.args.order.now c.requires.1,
    rest_once c.args.order.now c.requires.2,
    rest_stages _ _ c.args.order.now c.args.stages.now c.pow2-k.ensures c.requires.1 (omega arith) c.requires.3,
  ),
)

pub answer_first-requires : goal.answer_first-requires
answer_first-requires t c = (
  c.requires.0,
  omega arith,
  c.requires.1,
  answered-size _ _ _ c.args.order.now c.args.stages.now _ c.pow2-k.ensures (omega arith) c.requires.3
      c.answer_all.ensures,
)

pub returns : goal.returns
returns t c =
    answers_more _ _ c.args.order.now c.args.stages.now _ _ _ c.pow2-k.ensures c.requires.1 c.requires.2 (omega arith)
    c.requires.3 c.answer_all.ensures refl c.answer_first.ensures
