-- What stands so far may come of f, and the rest is as it was. Assumes nothing.
use mathlib.Core.Path.{◌≡◌}
use Prim.Native.Nat.{ℕ, ◌≤◌, ◌<◌}
use lib.ListN.{length, get_or}
use Rattle.parser.proofs.put_each.Given as goal

abbrev pub invariant-loop-i : goal.invariant-loop-i
invariant-loop-i g l =
    ((w : ℕ) → w < l.i → goal.F-post g l.f w (get_or l.initial.words w 0) (get_or l.words w 0))
    × ((w : ℕ) → l.i ≤ w → get_or l.words w 0 ≡ get_or l.initial.words w 0)
    × (length l.words ≡ length l.initial.words)
