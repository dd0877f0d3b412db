-- `tables::add_into` meets its contract. The loop answers from the front. Assumes nothing.
use mathlib.Core.Path.{◌≡◌}
use lib.Bits.{bit_xor}
use lib.ListN.{length}
use Rattle.tables.proofs.Filled.{filled, combined}
use Rattle.tables.proofs.add_into.Given as goal

abbrev pub invariant-loop-i : goal.invariant-loop-i
invariant-loop-i l = (l.d ≡ filled l.i (combined bit_xor l.initial.d l.s) l.initial.d) × (length l.d ≡ length l.initial.d)
