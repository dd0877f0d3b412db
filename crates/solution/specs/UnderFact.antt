-- Demand 3 of a condition f under a fact g in document 02's own words (C-16): 'the answers make f zero wherever g is zero, and instances
-- cover all substitutions that do so'. That this is demand 3 of f*(1 + g), which is what `RightVerdict` says, is a law (`right_where`).
-- Assumes nothing.
use Rattle.std.specs.Prelude.{◌≡◌, false, ◌↔◌, List, ℕ, ◌^◌, ◌<◌}
use Rattle.ring.specs.declared.State.{State}
use Rattle.ring.specs.Polynomial.{Polynomial}
use Rattle.ring.specs.Table.{present}
use Rattle.solution.specs.Letters.{Letter, HoldsGivens, Valuation, value_over}
use Rattle.solution.specs.Substitution.{Substitution, own_letters, put_in, InstanceOf}
use Rattle.solution.specs.Fact.{value_in_state}
use Rattle.solution.specs.Condition.{Condition}
use Rattle.solution.specs.Elimination.{Verdict, solved, none}
use Rattle.solution.specs.General.{Blocked}

-- σ, over L, makes f zero wherever g is zero: at all values of the letters at which g is 0
abbrev pub MakesZeroWhere : ℕ → ℕ → Polynomial → Polynomial → List Letter → Substitution → Type 0
MakesZeroWhere U G f g L σ = (v : Valuation) → value_over (own_letters U G) g v ≡ false → value_over L (put_in U G L f σ) v ≡ false

-- 'the answers make f zero wherever g is zero, and instances cover all substitutions that do so'
pub record GeneralWhere (U G : ℕ) (f g : Polynomial) (a : Substitution) : Type 0 where
  pub makes_zero : MakesZeroWhere U G f g (own_letters U G) a
  pub each_makes_zero : (L : List Letter) → HoldsGivens G L → (τ : Substitution) → MakesZeroWhere U G f g L (λ j. put_in U G L (a j) τ)
  pub every_instance : (L : List Letter) → HoldsGivens G L → (σ : Substitution) → MakesZeroWhere U G f g L σ → InstanceOf U G a L σ

-- ''None' now means that some state with g = 0 has no choice, and the state named is the smallest of these'
pub record SmallestBlockedWhere (U G : ℕ) (f g : Polynomial) (state : State) : Type 0 where
  pub is_state : state.0 < 2 ^ G
  pub counts : value_in_state U G g state ≡ false
  pub blocked : Blocked U G f state
  pub smallest : (r : State) → r.0 < state.0 → value_in_state U G g r ≡ false → ¬ Blocked U G f r

-- the same of a condition's f and g
abbrev pub SolvesWhere : Condition → List Letter → Substitution → Type 0
SolvesWhere c L σ = MakesZeroWhere c.U c.G (present c.table) (present c.fact) L σ

-- demand 3, of a condition under its fact and what is said of it
pub record RightWhere (c : Condition) (verdict : Verdict Substitution) : Type 0 where
  -- 'none' exactly when no substitution over the list makes f zero wherever g is zero, whatever the list ..
  pub exactly : (L : List Letter) → HoldsGivens c.G L
      → ((state : State) × (verdict ≡ none state)) ↔ ((σ : Substitution) → ¬ SolvesWhere c L σ)
  -- .. exactly when 'some state with g = 0 has no choice' ..
  pub some_state : ((state : State) × (verdict ≡ none state))
      ↔ ((state : State) × (state.0 < 2 ^ c.G) × (value_in_state c.U c.G (present c.fact) state ≡ false)
      × Blocked c.U c.G (present c.table) state)
  -- .. and 'the state named is the smallest of these'
  pub state : (state : State) → verdict ≡ none state → SmallestBlockedWhere c.U c.G (present c.table) (present c.fact) state
  pub general : (a : Substitution) → verdict ≡ solved a → GeneralWhere c.U c.G (present c.table) (present c.fact) a
