-- `operations::odd_in_blocks` meets its contract. The loop's invariant: `odd` is the parity over the blocks passed, and the blocks that are
-- left are the table's bytes behind them.
-- Assumes nothing.
use mathlib.Core.Path.{◌≡◌, refl, sym, ap, ◌∙◌}
use mathlib.Core.Bool.{◌&&◌}
use Prim.Native.Nat.{ℕ, ◌*◌}
use native.Mathlib.Omega.{arith}
use borrow.Author.Rules.{rules}
use lib.Bits.{and_le_r}
use lib.ListN.{length}
use Rattle.std.specs.Slice.Iter.{chunks_exact_rest}
use Rattle.ring.specs.Polynomial.{odd as parity, within}
use Rattle.ring.specs.Table.{present}
use Rattle.ring.proofs.Parity.{odd_zero}
use Rattle.operations.proofs.Work.{parts_length, there_next, block_more}
use Rattle.operations.proofs.odd_in_blocks.Goals as goal

pub overflow_cast-low : goal.overflow_cast-low
overflow_cast-low c = omega (arith, and_le_r c.args.p 63)

pub loop-w-init : goal.loop-w-init
loop-w-init c =
    let first : c.into_iter-w-iterator.result.count ≡ 0 = ap (λ x. x.count) c.into_iter-w-iterator.ensures.into_iter_gives ∙ c.enumerate-w-items.ensures.count in record {
      block = search rules;
      size = search rules;
      there = λ i. search rules;
      parity = rw first (sym (odd_zero _));
    }

pub odd_below-requires : goal.odd_below-requires
odd_below-requires c = omega (arith, c.in-Some.ensures.steps.0.1.1, c.loop-w.invariant.block)

pub loop-w-preserved : goal.loop-w-preserved
loop-w-preserved c =
    let at = c.loop-w.invariant in
    let steps = c.in-Some.ensures.steps in
    let parts = steps.0.1.0 in
    let size = steps.0.1.1 ∙ at.block in record {
      block = steps.0.0 ∙ at.block;
      size = omega (arith, at.size, steps.2, size, parts_length (chunks_exact_rest c.loop-w.w-iterator.iter) c.in-Some.block.now (chunks_exact_rest c.next.new.self.iter) parts);
      there = λ i. rw steps.2 (there_next _ _ _ _ _ at.there parts size i);
      parity = rw (steps.1, steps.2) (block_more _ _ _ _ _ at.there parts size c.args.p _ _ _ at.parity refl c.odd_below.ensures);
    }

pub returns : goal.returns
returns c =
    let at = c.loop-w.invariant in
    let all : c.loop-w.w-iterator.count * 64 ≡ length c.args.t.now = omega (arith, at.size, at.block, c.in-None.ensures.steps.0.1.0, c.requires) in
    at.parity ∙ ap (λ (k : ℕ). parity k (λ i. present c.args.t.now i && within i c.args.p)) all
