-- The digits of one more byte. Assumes nothing.
use Rattle.std.proofs.Common.{arith, length-set}
use Rattle.tables.proofs.Put.{put_none}
use Rattle.printing.specs.Print.{hexadecimal}
use Rattle.printing.proofs.Hexadecimal.{hex_room, hex_more}
use Rattle.printing.proofs.put_hexadecimal.Goals as goal

pub loop-byte-init : goal.loop-byte-init
unfolding hexadecimal
loop-byte-init c = put_none _ _ (omega arith)

pub bounds-out-end : goal.bounds-out-end
bounds-out-end c = omega (arith, hex_room _ _ c.loop-byte.invariant c.loop-byte-test.true c.requires)

pub bounds-out-end-in-loop-byte : goal.bounds-out-end-in-loop-byte
bounds-out-end-in-loop-byte c =
    simp length-set (omega (arith, hex_room _ _ c.loop-byte.invariant c.loop-byte-test.true c.requires))

pub loop-byte-preserved : goal.loop-byte-preserved
loop-byte-preserved c = hex_more _ _ c.loop-byte.invariant c.loop-byte-test.true c.requires c.digit_byte.ensures
    c.digit_byte-in-loop-byte.ensures
