-- `tables::are_bits` meets its contract. The loop's invariant: the union so far is at most 1 exactly if the bytes so far are.
-- Assumes nothing.
use mathlib.Core.Path.{◌≡◌}
use lib.Dec.{leb}
use lib.ListN.{take}
use Rattle.tables.specs.Questions.{are_bits}
use Rattle.tables.proofs.are_bits.Given as goal

abbrev pub invariant-loop-byte : goal.invariant-loop-byte
invariant-loop-byte l = leb l.union 1 ≡ are_bits (take l.byte-index l.s)
