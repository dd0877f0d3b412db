-- `shorter::count_present` meets its contract. The loop's invariant: what is found so far and the count over the bytes that are left make
-- up the whole. Assumes nothing.
use mathlib.Core.Path.{◌≡◌}
use Prim.Native.Nat.{◌+◌}
use lib.ListN.{length}
use Rattle.std.specs.Slice.Iter.{chunks_rest, chunks_size}
use Rattle.ring.specs.Polynomial.{count}
use Rattle.ring.specs.Table.{AreBits, present}
use Rattle.shorter.proofs.count_present.Given as goal

abbrev pub invariant-loop-block : goal.invariant-loop-block
invariant-loop-block l =
    (chunks_size l.block-iterator ≡ 128)
    × AreBits (chunks_rest l.block-iterator)
    × (l.found + count (length (chunks_rest l.block-iterator)) (present (chunks_rest l.block-iterator)) ≡ count (length l.t) (present l.t))
