-- The invariant: all records give what those that are left give with what has been seen. The measure is what is left of the bytes.
-- Assumes nothing.
use Prim.Native.Nat.{◌-◌}
use lib.ListN.{length}
use Rattle.records.specs.Inner.Gathering.{nothing_seen, Further}
use Rattle.records.proofs.Bounds.gather.Given as goal

abbrev pub invariant-loop-kind : goal.invariant-loop-kind
invariant-loop-kind l = Further l.s l.self.route l.self.letters.unknowns l.self.letters.givens nothing_seen 0 l.seen l.at

abbrev pub decreases-loop-kind : goal.decreases-loop-kind
decreases-loop-kind l = length l.s - l.at
