-- `elimination::answer_first` meets its contract. Assumes nothing.
use Prim.Native.Nat.{◌≤◌, ◌^◌}
use Rattle.elimination.proofs.Stages.{rest_letters, first_letter, slot_room, slots_rest, answered_front}
use Rattle.words.proofs.Words.{size_words}
use lib.ListN.{length}
use lib.Pow.{pow_mono}
use lib.Seq.{length-take-le}
use mathlib.Core.Path.{sym, ap, ◌∙◌}
use mathlib.Core.Path.{sym, ◌∙◌}
use native.Mathlib.Omega.{arith}
use Rattle.elimination.proofs.answer_first.Goals as goal

pub slice_bounds-room-end : goal.slice_bounds-room-end
slice_bounds-room-end c = let b : 2 ^ c.args.c ≤ 2 ^ 4 = pow_mono c.requires.0 in omega (arith, c.pow2-k.ensures)

pub slice_bounds-own-end : goal.slice_bounds-own-end
slice_bounds-own-end c = let b : 2 ^ c.args.c ≤ 2 ^ 4 = pow_mono c.requires.0 in sym (length-take-le _ _ (omega (arith, c.pow2-k.ensures)))

pub copy-requires : goal.copy-requires
copy-requires c = let b : 2 ^ c.args.c ≤ 2 ^ 4 = pow_mono c.requires.0 in
    length-take-le _ _ (omega (arith, c.pow2-k.ensures)) ∙ sym (length-take-le _ _
    (slot_room _ _ c.args.order.now c.args.stages.now c.pow2-k.ensures c.requires.3 c.requires.1))

pub add_letter-requires : goal.add_letter-requires
add_letter-requires c = omega (arith, first_letter _ c.args.order.now c.requires.2 c.requires.1, c.requires.0)

pub put_later-requires : goal.put_later-requires
put_later-requires c = (
  c.requires.0,
  rest_letters _ c.args.order.now c.requires.2,
  slots_rest _ _ c.args.order.now
      c.args.stages.now c.pow2-k.ensures c.requires.3 c.requires.1,
  size_words _ _ _
      c.add_letter.ensures ∙ ap length c.copy.ensures
      ∙ length-take-le _ _ (slot_room _ _ c.args.order.now c.args.stages.now c.pow2-k.ensures
      c.requires.3
      c.requires.1) ∙ c.pow2-k.ensures,
)

pub returns : goal.returns
returns c =
    answered_front _ _ c.args.order.now c.args.stages.now _ _ _ _ c.pow2-k.ensures c.requires.2
    c.requires.3 c.requires.1 c.copy.ensures c.add_letter.ensures
    c.put_later.ensures c.copy-2.ensures
