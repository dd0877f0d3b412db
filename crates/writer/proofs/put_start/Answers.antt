-- The first record, and a second one unless the order is 0, 1, 2, .. Assumes nothing.
use native.Mathlib.Omega.{arith}
use Rattle.writer.proofs.Parts.{start_left, start_room, start_kept}
use Rattle.writer.proofs.put_start.Goals as goal

pub returns-then-is_default : goal.returns-then-is_default
returns-then-is_default c = start_left _ _ c.is_default.ensures _ _ c.put-started.ensures c.if-is_default.true

pub put_order-requires : goal.put_order-requires
put_order-requires c = start_room _ _ c.is_default.ensures _ _ c.put-started.ensures c.if-is_default.false (omega arith) c.requires

pub returns : goal.returns
returns c = start_kept _ _ c.is_default.ensures _ _ c.put-started.ensures c.if-is_default.false c.put_order.ensures
