-- `order::skip_large` meets its contract. The loop's invariant, `Walked`: the buffer begins with the masks of the first p places that are
-- small enough, and goes on as it was. The measure is the number of places that are left. Assumes nothing.
use native.Mathlib.Omega.{arith}
use Rattle.order.proofs.Skip.{walk_start, walk_most, walk_inside, walk_read, walk_room, walk_mask, walk_put, walk_next}
use Rattle.order.proofs.Skip.{walk_skip, walk_end}
use Rattle.order.proofs.skip_large.Goals as goal

pub loop-at-init : goal.loop-at-init
loop-at-init c = search walk_start

pub offset_bounds-masks-p : goal.offset_bounds-masks-p
offset_bounds-masks-p c = let i = c.loop-at.invariant in omega (arith, walk_most i, walk_inside i c.loop-at-test.true)

pub bounds-masks-p : goal.bounds-masks-p
bounds-masks-p c = search walk_read

pub overflow_cast-out : goal.overflow_cast-out
overflow_cast-out c = omega (arith, walk_mask c.loop-at.invariant c.loop-at-test.true c.from-m.ensures)

pub offset_bounds-out-at : goal.offset_bounds-out-at
offset_bounds-out-at c = omega (arith, walk_most c.loop-at.invariant)

pub bounds-out-at : goal.bounds-out-at
bounds-out-at c = search walk_room

pub overflow_add-at : goal.overflow_add-at
overflow_add-at c = omega (arith, walk_most c.loop-at.invariant)

pub overflow_add-p : goal.overflow_add-p
overflow_add-p c = let i = c.loop-at.invariant in
    omega (arith, walk_most i, walk_inside i c.loop-at-test.true)

pub loop-at-smaller-then-m-size : goal.loop-at-smaller-then-m-size
loop-at-smaller-then-m-size c = omega (arith, walk_inside c.loop-at.invariant c.loop-at-test.true)

pub loop-at-preserved-then-m-size : goal.loop-at-preserved-then-m-size
loop-at-preserved-then-m-size c = search walk_put

pub next_start-p-requires : goal.next_start-p-requires
next_start-p-requires c = (search walk_mask, search walk_next)

pub loop-at-smaller : goal.loop-at-smaller
loop-at-smaller c = let i = c.loop-at.invariant in
    let s = walk_skip i c.loop-at-test.true c.from-m.ensures c.if-m-size.false c.next_start-p.ensures in
    omega (arith, s.0, s.1)

pub loop-at-preserved : goal.loop-at-preserved
loop-at-preserved c = let i = c.loop-at.invariant in
    (walk_skip i c.loop-at-test.true c.from-m.ensures c.if-m-size.false c.next_start-p.ensures).2

pub shape_of-out : goal.shape_of-out
shape_of-out c = c.loop-at.invariant.kept.same

pub returns : goal.returns
returns c = search walk_end
