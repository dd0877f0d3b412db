-- `elimination::put_later` meets its contract: one letter of the order a call, the last one first. Assumes nothing.
use Rattle.std.proofs.Common.{arith, ◌∙◌}
use lib.Seq.{length-take-le}
use Rattle.words.proofs.Turned.{machine_words}
use Rattle.words.proofs.Words.{size_words}
use Rattle.elimination.proofs.Stages.{rest_length, rest_letters, first_letter, slot_room, slots_rest, put_none, put_more}
use Rattle.elimination.proofs.+put_later.Goals as goal

pub returns-in_default : goal.returns-in_default
returns-in_default t c =
    put_none _ _ _ _ (omega arith)
    (machine_words _ c.args.a.now c.requires.3 (λ i. omega (arith, c.type_inv.a i)))

pub put_later-requires : goal.put_later-requires
put_later-requires t c = (
  omega (arith, c.decreases, rest_length c.args.order.now),
  (
    c.requires.0,
    rest_letters _ c.args.order.now c.requires.1,
    slots_rest _ _ c.args.order.now c.args.slots.now c.pow2-k.ensures c.requires.2 (omega arith),
    c.requires.3,
  ),
)

pub replace_in-requires : goal.replace_in-requires
replace_in-requires t c = (
  first_letter _ c.args.order.now c.requires.1 (omega arith),
  c.requires.0,
  size_words _ _ _ c.put_later.ensures,
  length-take-le _ _ (slot_room _ _ c.args.order.now c.args.slots.now c.pow2-k.ensures c.requires.2 (omega arith))
      ∙ c.pow2-k.ensures,
)

pub returns : goal.returns
returns t c =
    put_more _ _ c.args.order.now c.args.slots.now c.args.a.now _ _ c.pow2-k.ensures c.requires.1 (omega arith)
    c.put_later.ensures c.replace_in.ensures
