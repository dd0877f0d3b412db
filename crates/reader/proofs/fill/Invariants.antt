-- The invariant: filled from the records that are left both tables are what the lent ones are filled from all. The measure is what is left
-- of the bytes.
-- Assumes nothing.
use Prim.Native.Nat.{◌-◌}
use lib.ListN.{length}
use Rattle.reader.specs.Inner.Filling.{BothFilling}
use Rattle.reader.proofs.fill.Given as goal

abbrev pub invariant-loop-kind : goal.invariant-loop-kind
invariant-loop-kind l = BothFilling l.s l.letters l.initial.condition l.initial.answers l.condition l.answers l.at

abbrev pub decreases-loop-kind : goal.decreases-loop-kind
decreases-loop-kind l = length l.s - l.at
