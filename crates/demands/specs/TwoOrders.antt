-- Two entries of one condition, its unknowns in two orders (document 02, C-11): 'General solutions under any two orders must be instances
-- of each other'. Stated of what stands in the entries' kind 3 and kind 5 records.
-- Assumes nothing.
use Rattle.std.specs.Prelude.{◌≡◌, false, List, ◌↔◌, ℕ}
use Rattle.ring.specs.declared.State.{State}
use Rattle.solution.specs.Elimination.{none}
use Rattle.solution.specs.General.{InstancesOfEachOther}
use Rattle.entry.specs.Held.{records, answers_in, says}
use Rattle.demands.specs.Demand3.{has_none}

-- the bytes e and f say the same of a condition with U unknowns and G givens
pub record SayTheSame (U G : ℕ) (e f : List ℕ) : Type 0 where
  -- both say 'none', with the same state, or neither does ..
  pub same_state : (state : State) → (says (records e) ≡ none state) ↔ (says (records f) ≡ none state)
  pub same_none : has_none (records e) ≡ has_none (records f)
  -- .. and then their answers are instances of each other
  pub each_other : has_none (records e) ≡ false → InstancesOfEachOther U G (answers_in (records e)) (answers_in (records f))
