-- Those of the masks so far at which the answer is f's are listed, whatever f the answers are. Assumes nothing.
use Prim.Native.Nat.{ℕ, ◌≤◌, ◌+◌}
use mathlib.Core.Bool.{Bool}
use mathlib.Core.Path.{◌≡◌}
use lib.ListN.{length}
use Rattle.order.specs.Inner.Listing.{Tells}
use Rattle.order.proofs.Listing.{Listing}
use Rattle.order.proofs.list_where.Given as goal

abbrev pub invariant-loop-mask : goal.invariant-loop-mask
invariant-loop-mask g l =
    (l.at ≤ l.from + l.mask-index)
    × (length l.out ≡ length l.initial.out)
    × ((f : ℕ → Bool) → Tells l.masks (goal.F-post g l.has) f → Listing f l.tag l.masks l.initial.out l.from l.mask-index l.at l.out)
