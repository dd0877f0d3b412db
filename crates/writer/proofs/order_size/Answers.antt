-- A record of seven bytes, or none. Assumes nothing.
use mathlib.Core.Path.{sym, ap}
use native.Mathlib.Omega.{arith}
use lib.ListN.{length}
use Rattle.writer.proofs.Parts.{order_left, order_kept}
use Rattle.writer.proofs.order_size.Goals as goal

pub returns-then-is_default : goal.returns-then-is_default
returns-then-is_default c = (sym (ap length (order_left _ _ c.is_default.ensures c.if-is_default.true)), omega arith)

pub returns-else-is_default : goal.returns-else-is_default
returns-else-is_default c = (omega (arith, ap length (order_kept _ _ c.is_default.ensures c.if-is_default.false)), omega arith)
