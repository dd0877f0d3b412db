-- `elimination::arrange` meets its contract: the slots of the unknowns before x are copied. Assumes nothing.
use mathlib.Core.Path.{◌≡◌}
use Prim.Native.Nat.{◌≤◌, ◌^◌, ◌*◌}
use lib.ListN.{length}
use Rattle.tables.proofs.Filled.{filled}
use Rattle.elimination.specs.Inner.Stages.{slot_word}
use Rattle.elimination.proofs.arrange.Given as goal

abbrev pub invariant-loop-x : goal.invariant-loop-x
invariant-loop-x l = (l.x ≤ l.u) × (l.answers ≡ filled (l.x * l.k) (slot_word (2 ^ l.c) l.order l.slots) l.initial.answers) × (length l.answers ≡ length l.initial.answers)
