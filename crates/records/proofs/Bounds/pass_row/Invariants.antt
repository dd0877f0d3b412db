-- The invariant: the records from `from` on give what those that are left give with the place of the last one. The measure is what is left
-- of the bytes.
-- Assumes nothing.
use Prim.Native.Nat.{◌-◌}
use lib.ListN.{length}
use Rattle.records.specs.Inner.Gathering.{Further, placed}
use Rattle.records.proofs.Bounds.pass_row.Given as goal

abbrev pub invariant-loop-kind : goal.invariant-loop-kind
invariant-loop-kind l =
    Further l.s l.self.route l.self.letters.unknowns l.self.letters.givens l.seen l.from (placed l.seen l.place) l.at

abbrev pub decreases-loop-kind : goal.decreases-loop-kind
decreases-loop-kind l = length l.s - l.at
