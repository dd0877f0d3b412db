-- The invariant: the kind's tables are filled from the records that are left as the lent ones from all. The measure is what is left of the
-- bytes.
-- Assumes nothing.
use Prim.Native.Nat.{◌-◌}
use lib.ListN.{length}
use Rattle.records.specs.Inner.Filling.{RowFilling}
use Rattle.records.proofs.put_row.Given as goal

abbrev pub invariant-loop-kind : goal.invariant-loop-kind
invariant-loop-kind l = RowFilling l.kind l.s l.letters.unknowns l.letters.givens l.initial.t l.from l.t l.at

abbrev pub decreases-loop-kind : goal.decreases-loop-kind
decreases-loop-kind l = length l.s - l.at
