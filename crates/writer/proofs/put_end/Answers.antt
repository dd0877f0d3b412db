-- The end alone, or behind 'none'. Assumes nothing.
use native.Mathlib.Omega.{arith}
use Rattle.entry.specs.Record.{fields, low_first, body_of, bytes}
use Rattle.writer.proofs.put_end.Goals as goal

pub put-requires : goal.put-requires
unfolding bytes fields body_of low_first
put-requires c = let room = rw c.in-Some.is at c.requires in (omega arith, omega (arith, room))

pub put-requires-in-None : goal.put-requires-in-None
unfolding bytes fields body_of low_first
put-requires-in-None c = let room = rw c.in-None.is at c.requires in (omega arith, omega (arith, room))

pub returns-in-Some : goal.returns-in-Some
unfolding bytes fields body_of low_first
returns-in-Some c = rw c.in-Some.is c.put.ensures

pub returns-in-None : goal.returns-in-None
unfolding bytes fields body_of low_first
returns-in-None c = rw c.in-None.is c.put-in-None.ensures
