-- `elimination::keep_stages` meets its contract: one unknown a call, the first one first. Assumes nothing.
use Rattle.std.proofs.Common.{arith, rules, ◌∙◌}
use lib.Seq.{length-take-le}
use Rattle.words.proofs.Turned.{machine_words}
use Rattle.words.proofs.Words.{size_words}
use Rattle.elimination.proofs.Stages.{rest_length, rest_letters, first_letter, slot_room, front_rest, stages_none, stages_empty}
use Rattle.elimination.proofs.Stages.{remains_more, stages_more}
use Rattle.elimination.proofs.+keep_stages.Goals as goal

pub returns-in_default : goal.returns-in_default
returns-in_default t c = record {
  f_after = stages_none _ _ _ (omega arith) (machine_words _ c.args.f.now c.requires.2 (λ i. omega (arith, c.type_inv.f i)));
  stages_after = stages_empty _ _ c.args.order.now _ (omega arith) c.requires.3;
}

pub keep_stage-requires : goal.keep_stage-requires
keep_stage-requires t c = (
  first_letter _ c.args.order.now c.requires.1 (omega arith),
  c.requires.0,
  c.requires.2,
  length-take-le _ _ (slot_room _ _ c.args.order.now c.args.stages.now c.pow2-k.ensures c.requires.3 (omega arith))
      ∙ c.pow2-k.ensures,
)

pub keep_stages-requires : goal.keep_stages-requires
keep_stages-requires t c = (
  omega (arith, c.decreases, rest_length c.args.order.now),
  (
    c.requires.0,
    rest_letters _ c.args.order.now c.requires.1,
    size_words _ _ _ c.keep_stage.ensures.f_after,
    front_rest _ _ c.args.order.now _ _ c.args.stages.now c.pow2-k.ensures c.keep_stage.ensures.stage_after c.requires.2
        c.requires.3 (omega arith),
  ),
)

pub returns : goal.returns
returns t c = record {
  f_after = remains_more _ c.args.order.now c.args.f.now _ _ c.requires.1 (omega arith) c.keep_stage.ensures.f_after
      c.keep_stages.ensures.f_after;
  stages_after = stages_more _ _ c.args.order.now c.args.f.now _ _ c.args.stages.now _ c.pow2-k.ensures c.requires.1
      (omega arith) c.requires.3 (machine_words _ c.args.f.now c.requires.2 (λ i. search rules)) c.keep_stage.ensures.stage_after
      c.keep_stage.ensures.f_after c.keep_stages.ensures.stages_after;
}
