-- `elimination::put_placed` meets its contract. The invariant: the answers of the last letters are put in. Assumes nothing.
use Rattle.std.proofs.Common.{◌≡◌, ◌-◌, length, drop}
use Rattle.ring.specs.Letters.{bit}
use Rattle.words.specs.Inner.Words.{word_of}
use Rattle.elimination.specs.Inner.Stages.{put_placed}
use Rattle.elimination.proofs.put_placed.Given as goal

abbrev pub invariant-loop-x : goal.invariant-loop-x
invariant-loop-x l =
    (goal.iterator-loop-x).can_next l.x-iterator × (goal.iterator-loop-x).is_finite l.x-iterator
    × (l.put ≡ word_of (put_placed l.answers (drop (length l.order - length l.yielded) l.order) (bit l.a)))
