-- Demand 3, of the bytes e that are archived for a condition: 'an entry says 'none' exactly when there is no solution, with
-- the smallest state, and otherwise holds Boole's general solution, of which every solution, over any finite list of letters, is an
-- instance; Boole's and Löwenheim's answers are instances of each other'. Stated of what stands in e's kind 3 and kind 5 records.
-- Assumes nothing.
use Rattle.std.specs.Prelude.{◌≡◌, Bool, true, false, ◌||◌, ◌↔◌, List, [], ◌∷◌, ℕ, ◌^◌, ◌<◌}
use Rattle.ring.specs.declared.State.{State}
use Rattle.solution.specs.Letters.{Letter, HoldsGivens}
use Rattle.solution.specs.Substitution.{Substitution, own_letters, InstanceOf}
use Rattle.solution.specs.Condition.{Condition, width, polynomial}
use Rattle.solution.specs.Elimination.{none, boole_answers, own_lowenheim, solve}
use Rattle.solution.specs.General.{SmallestBlocked, InstancesOfEachOther, Solves}
use Rattle.entry.specs.Record.{Record, is_none}
use Rattle.entry.specs.Held.{records, answers_in, says, held_condition, held_verdict}

-- is there a record of kind 5?
unfoldable pub has_none : List Record → Bool
has_none [] = false
has_none (r ∷ rs) = is_none r || has_none rs

pub record Demand3 (c : Condition) (e : List ℕ) : Type 0 where
  -- kind 5 exactly when, for every list of letters that holds the givens, no substitution over it makes the condition zero ..
  pub none_exactly : (has_none (records e) ≡ true) ↔ ((L : List Letter) → HoldsGivens c.G L → (σ : Substitution) → ¬ Solves c L σ)
  -- .. and for each such list by itself
  pub none_on_list : (L : List Letter) → HoldsGivens c.G L → (has_none (records e) ≡ true) ↔ ((σ : Substitution) → ¬ Solves c L σ)
  -- the state that kind 5 names is the smallest in which every choice gives the condition the value 1
  pub smallest_state : (state : State) → says (records e) ≡ none state → SmallestBlocked c.U c.G (polynomial c) state
  -- without kind 5, the polynomials that stand in the kind 3 records are Boole's answers, monomial by monomial ..
  pub holds_booles : has_none (records e) ≡ false → (j m : ℕ) → j < c.U → m < 2 ^ width c
      → answers_in (records e) j m ≡ boole_answers (width c) (polynomial c) c.order j m
  -- .. they make the condition zero ..
  pub makes_zero : has_none (records e) ≡ false → Solves c (own_letters c.U c.G) (answers_in (records e))
  -- .. every instance of them, over any list that holds the givens, makes the condition zero ..
  pub each_makes_zero : has_none (records e) ≡ false → (L : List Letter) → HoldsGivens c.G L → (σ : Substitution)
      → InstanceOf c.U c.G (answers_in (records e)) L σ → Solves c L σ
  -- .. every substitution that makes the condition zero, over any list that holds the givens, is an instance of them ..
  pub every_instance : has_none (records e) ≡ false → (L : List Letter) → HoldsGivens c.G L → (σ : Substitution)
      → Solves c L σ → InstanceOf c.U c.G (answers_in (records e)) L σ
  -- .. and they and the engine's own Löwenheim answers are instances of each other
  pub each_other : has_none (records e) ≡ false
      → InstancesOfEachOther c.U c.G (answers_in (records e)) (own_lowenheim c.U c.G c.order (polynomial c))
  -- reading gives the same condition, and the same answers or 'none' and the state
  pub condition_read : held_condition (records e) ≡ c
  pub verdict_read : held_verdict (records e) ≡ solve c
