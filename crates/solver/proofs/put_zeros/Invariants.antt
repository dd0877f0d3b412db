-- `solver::put_zeros` meets its contract: the unknowns below x are at 0. Assumes nothing.
use mathlib.Core.Path.{◌≡◌}
use Prim.Native.Nat.{◌≤◌, ◌-◌}
use lib.ListN.{length}
use Rattle.solution.specs.Inner.ByPoints.{zero_choice}
use Rattle.words.specs.Inner.Words.{words_of, bit_at}
use Rattle.solver.proofs.put_zeros.Given as goal

abbrev pub invariant-loop-x : goal.invariant-loop-x
invariant-loop-x l = (l.x ≤ l.u) × (l.words ≡ words_of (length l.initial.words) (λ p. bit_at l.initial.words (zero_choice l.x p))) × (length l.words ≡ length l.initial.words)

abbrev pub decreases-loop-x : goal.decreases-loop-x
decreases-loop-x l = l.u - l.x
