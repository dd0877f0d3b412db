-- `shorter::count_present` meets its contract. Assumes nothing.
use native.Mathlib.Omega.{arith}
use mathlib.Core.Path.{◌∙◌}
use Prim.Native.Nat.{◌≤◌}
use lib.ListN.{length}
use Rattle.std.specs.Slice.Iter.{chunks_rest}
use Rattle.ring.specs.Polynomial.{count}
use Rattle.ring.specs.Table.{present}
use Rattle.ring.proofs.Parity.{count_most}
use Rattle.shorter.proofs.Counting.{block_more, bits_left, none_left}
use Rattle.shorter.proofs.count_present.Goals as goal

pub overflow_add-found : goal.overflow_add-found
overflow_add-found c =
    let rest = chunks_rest c.next.new.self in
    let more = block_more _ c.in-Some.block.now rest _ _ _ c.in-Some.ensures.steps.1.0 c.loop-block.invariant.2 c.count_few-found.ensures in
    let all : count (length c.args.t.now) (present c.args.t.now) ≤ length c.args.t.now = count_most _ _ in
    omega (arith, more, all)

pub loop-block-preserved : goal.loop-block-preserved
loop-block-preserved c =
    let steps = c.in-Some.ensures.steps in
    let at = c.loop-block.invariant in
    let rest = chunks_rest c.next.new.self in (
      steps.0 ∙ at.0,
      bits_left _ c.in-Some.block.now rest _ _ _ steps.1.0 at.2 c.count_few-found.ensures at.1,
      block_more _ c.in-Some.block.now rest _ _ _ steps.1.0 at.2 c.count_few-found.ensures,
    )

pub returns : goal.returns
returns c = omega (arith, c.loop-block.invariant.2, none_left _ c.in-None.ensures.steps.1.0)
