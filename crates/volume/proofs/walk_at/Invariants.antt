-- The invariant: the walk's answer is what it is from `at` on, behind the entries passed, which are no more than the bytes passed; and `at`
-- is not below the place.
-- The measure is what is left of the volume. Assumes nothing.
use mathlib.Core.Path.{◌≡◌}
use Prim.Native.Nat.{◌-◌, ◌≤◌}
use lib.ListN.{length, drop}
use Rattle.calls.specs.Walk.{walk_behind, walk_reply}
use Rattle.volume.specs.Inner.Before.{route_before}
use Rattle.volume.proofs.walk_at.Given as goal

abbrev pub invariant-loop-at : goal.invariant-loop-at
invariant-loop-at l = (l.place ≤ l.at) × (l.passed ≤ l.at) × (walk_reply l.volume l.place ≡ walk_behind (route_before l.before) l.passed (drop l.at l.volume))

abbrev pub decreases-loop-at : goal.decreases-loop-at
decreases-loop-at l = length l.volume - l.at
