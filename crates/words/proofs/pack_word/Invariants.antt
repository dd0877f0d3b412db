-- `words::pack_word` meets its contract: Horner's rule, the last byte first. Assumes nothing.
use Rattle.std.proofs.Common.{◌≡◌, ◌+◌, ◌-◌, length}
use Rattle.ring.specs.Letters.{point_where}
use Rattle.ring.specs.Table.{present}
use Rattle.words.proofs.pack_word.Given as goal

abbrev pub invariant-loop-byte : goal.invariant-loop-byte
invariant-loop-byte l =
    (goal.iterator-loop-byte).can_next l.byte-iterator × (goal.iterator-loop-byte).is_finite l.byte-iterator
    × (l.word ≡ point_where (length l.yielded) (λ m. present l.t (length l.t - length l.yielded + m)))
