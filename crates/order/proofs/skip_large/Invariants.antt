-- `order::skip_large` meets its contract. The loop's invariant, `Walked`: the buffer begins with the masks of the first p places that are
-- small enough, and goes on as it was. The measure is the number of places that are left. Assumes nothing.
use Prim.Native.Nat.{◌-◌, ◌^◌}
use Rattle.order.proofs.Skip.{Walked}
use Rattle.order.proofs.skip_large.Given as goal

abbrev pub invariant-loop-at : goal.invariant-loop-at
invariant-loop-at l = Walked l.n l.o l.size l.masks l.starts l.initial.out l.out l.at l.p

abbrev pub decreases-loop-at : goal.decreases-loop-at
decreases-loop-at l = 2 ^ l.o - l.p
