-- `words::put_each` meets its contract. Each word below i is f's, and the others are as they were. Assumes nothing.
use Rattle.std.proofs.Common.{◌≡◌, ℕ, ◌≤◌, ◌<◌, ◌^◌, length, get_or}
use Rattle.words.proofs.put_each.Given as goal

abbrev pub invariant-loop-i : goal.invariant-loop-i
invariant-loop-i g l =
    ((w : ℕ) → w < l.i → goal.F-post g l.f w (get_or l.initial.words w 0) (get_or l.words w 0))
    × ((w : ℕ) → w < l.i → get_or l.words w 0 < 2 ^ 64)
    × ((w : ℕ) → l.i ≤ w → get_or l.words w 0 ≡ get_or l.initial.words w 0)
    × (length l.words ≡ length l.initial.words)
