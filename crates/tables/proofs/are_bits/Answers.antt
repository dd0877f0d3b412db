-- `tables::are_bits` meets its contract. Assumes nothing.
use native.Mathlib.Omega.{arith}
use Rattle.tables.proofs.Bits.{bits_more, bits_end}
use Rattle.tables.proofs.are_bits.Goals as goal

pub loop-byte-preserved : goal.loop-byte-preserved
loop-byte-preserved c = bits_more _ c.loop-byte.union _ (omega arith) c.loop-byte.invariant

pub returns : goal.returns
returns c = bits_end _ c.loop-byte.union _ (omega arith) (omega arith) c.loop-byte.invariant
