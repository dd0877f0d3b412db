-- What a right verdict is (document 01, demand 3): the smallest blocked state, general solutions, instances of each other.
-- `RightVerdict` says all of it of one condition and what is said of it; the theorems show it of what the engine says.
-- Assumes nothing.
use Rattle.std.specs.Prelude.{◌≡◌, true, ◌↔◌, List, ℕ, ◌+◌, ◌^◌, ◌<◌}
use Rattle.ring.specs.declared.State.{State}
use Rattle.ring.specs.declared.Choice.{Choice}
use Rattle.ring.specs.Letters.{point}
use Rattle.ring.specs.Polynomial.{Polynomial, value}
use Rattle.ring.specs.Table.{held}
use Rattle.solution.specs.Letters.{Letter, HoldsGivens}
use Rattle.solution.specs.Substitution.{Substitution, own_letters, put_in, MakesZero, InstanceOf}
use Rattle.solution.specs.Condition.{Condition, width, polynomial}
use Rattle.solution.specs.Elimination.{boole_answers, own_lowenheim, Verdict, solved, none}

-- every choice gives f the value 1 in the state
abbrev pub Blocked : ℕ → ℕ → Polynomial → State → Type 0
Blocked U G f state = (choice : Choice) → choice.0 < 2 ^ U → value (U + G) f (point U state choice) ≡ true

-- 'the smallest state in which every choice gives the original condition the value 1'
pub record SmallestBlocked (U G : ℕ) (f : Polynomial) (state : State) : Type 0 where
  pub is_state : state.0 < 2 ^ G
  pub blocked : Blocked U G f state
  pub smallest : (r : State) → r.0 < state.0 → ¬ Blocked U G f r

-- the answer a is a general solution of f = 0: it and all its instances make f zero, and whatever makes f zero is an instance of it
pub record General (U G : ℕ) (f : Polynomial) (a : Substitution) : Type 0 where
  pub makes_zero : MakesZero U G f (own_letters U G) a
  pub each_makes_zero : (L : List Letter) → HoldsGivens G L → (τ : Substitution) → MakesZero U G f L (λ j. put_in U G L (a j) τ)
  pub every_instance : (L : List Letter) → HoldsGivens G L → (σ : Substitution) → MakesZero U G f L σ → InstanceOf U G a L σ

-- two answers are instances of each other, as substitutions over the engine's own list, and so have the same instances over every list
pub record InstancesOfEachOther (U G : ℕ) (a b : Substitution) : Type 0 where
  pub forth : InstanceOf U G a (own_letters U G) b
  pub back : InstanceOf U G b (own_letters U G) a
  pub instances : (L : List Letter) → HoldsGivens G L → (σ : Substitution) → InstanceOf U G a L σ ↔ InstanceOf U G b L σ

-- σ, over L, makes the condition zero
abbrev pub Solves : Condition → List Letter → Substitution → Type 0
Solves c L σ = MakesZero c.U c.G (polynomial c) L σ

-- demand 3, of a condition and what is said of it
pub record RightVerdict (c : Condition) (verdict : Verdict Substitution) : Type 0 where
  -- 'none' exactly when no substitution over the list makes the condition zero, whatever the list
  pub exactly : (L : List Letter) → HoldsGivens c.G L
      → ((state : State) × (verdict ≡ none state)) ↔ ((σ : Substitution) → ¬ Solves c L σ)
  pub state : (state : State) → verdict ≡ none state → SmallestBlocked c.U c.G (polynomial c) state
  -- the answers are Boole's, monomial by monomial, and a general solution; the own Löwenheim answers and they are instances of each other
  pub booles : (a : Substitution) → verdict ≡ solved a → (j m : ℕ) → j < c.U → m < 2 ^ width c
      → a j m ≡ boole_answers (width c) (polynomial c) c.order j m
  pub general : (a : Substitution) → verdict ≡ solved a → General c.U c.G (polynomial c) a
  pub lowenheims : (a : Substitution) → verdict ≡ solved a
      → InstancesOfEachOther c.U c.G a (own_lowenheim c.U c.G c.order (polynomial c))

-- what a verdict with an answer table says, in polynomials
unfoldable pub in_polynomials : ℕ → Verdict (List ℕ) → Verdict Substitution
in_polynomials n (solved t) = solved (held n t)
in_polynomials n (none state) = none state
