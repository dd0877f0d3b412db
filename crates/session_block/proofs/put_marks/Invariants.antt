-- `session_block::put_marks` meets its contract. The invariant: the names so far stand at the front, and the bytes behind them are as they were.
-- Assumes nothing.
use mathlib.Core.Path.{◌≡◌}
use lib.ListN.{length}
use Rattle.session_block.proofs.Block.{NamesPut}
use Rattle.session_block.proofs.put_marks.Given as goal

abbrev pub invariant-loop-i : goal.invariant-loop-i
invariant-loop-i l = NamesPut l.marks l.i l.initial.bytes l.bytes × (length l.bytes ≡ length l.initial.bytes)
