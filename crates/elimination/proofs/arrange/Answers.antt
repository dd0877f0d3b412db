-- `elimination::arrange` meets its contract: the slots of the unknowns before x are copied. Assumes nothing.
use native.Mathlib.Omega.{arith}
use native.Mathlib.Nat.{zero-mul}
use borrow.Author.Rules.{rules}
use Rattle.tables.proofs.Filled.{filled-start}
use Rattle.words.proofs.Parts.{parts_more, parts_end, part_fits}
use Rattle.elimination.proofs.Slots.{slot_copied}
use Rattle.elimination.proofs.arrange.Goals as goal

pub loop-x-init : goal.loop-x-init
loop-x-init c = (search rules, filled-start _ _ _ (zero-mul c.pow2-k.result), search rules)

pub loop-x-preserved : goal.loop-x-preserved
loop-x-preserved c = (
  search rules,
  parts_more _ _ _ _ _ _ c.loop-x.invariant.1
      (slot_copied c.args.c _ _ _ c.args.order.now c.args.slots.now _ c.pow2-k.ensures
      c.place.ensures.0
      (part_fits _ _ _ _ _ c.pow2-k.ensures c.place.ensures.1 c.requires.2) c.copy.ensures),
  search rules,
)

pub returns : goal.returns
returns c = parts_end _ _ _ _ _ c.args.answers.now _ c.pow2-k.ensures (omega arith) c.requires.3 c.loop-x.invariant.1
