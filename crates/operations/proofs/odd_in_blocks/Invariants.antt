-- `operations::odd_in_blocks` meets its contract. The loop's invariant: `odd` is the parity over the blocks passed, and the blocks that are
-- left are the table's bytes behind them.
-- Assumes nothing.
use mathlib.Core.Path.{◌≡◌}
use mathlib.Core.Bool.{◌&&◌}
use Prim.Native.Nat.{ℕ, ◌+◌, ◌*◌}
use lib.ListN.{length, get_or}
use Rattle.std.specs.Slice.Iter.{chunks_exact_rest, chunks_exact_size}
use Rattle.ring.specs.Polynomial.{odd as parity, within}
use Rattle.ring.specs.Table.{present}
use Rattle.operations.proofs.odd_in_blocks.Given as goal

abbrev pub invariant-loop-w : goal.invariant-loop-w
invariant-loop-w l = record {
  block : chunks_exact_size l.w-iterator.iter ≡ 64;
  size : l.w-iterator.count * 64 + length (chunks_exact_rest l.w-iterator.iter) ≡ length l.t;
  there : (i : ℕ) → get_or (chunks_exact_rest l.w-iterator.iter) i 0 ≡ get_or l.t (l.w-iterator.count * 64 + i) 0;
  parity : l.odd ≡ parity (l.w-iterator.count * 64) (λ i. present l.t i && within i l.p);
}
