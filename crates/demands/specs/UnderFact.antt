-- Demand 3 of the bytes e that are archived for a condition f under a fact g, in document 02's own words (C-16): 'the answers make f zero
-- wherever g is zero, and instances cover all substitutions that do so'; 'none' 'means that some state with g = 0 has no choice, and the
-- state named is the smallest of these'. And what is said where the fact is 0: all is as it was without facts.
-- Assumes nothing.
use Rattle.std.specs.Prelude.{◌≡◌, true, false, cond, ◌↔◌, List, [], ◌∷◌, ◌++◌, map, ℕ, ◌+◌, ◌^◌, ◌<◌}
use Rattle.ring.specs.declared.State.{State}
use Rattle.ring.specs.Polynomial.{Polynomial}
use Rattle.ring.specs.Table.{present, answer_table}
use Rattle.order.specs.Order.{monomials}
use Rattle.solution.specs.Letters.{Letter, HoldsGivens}
use Rattle.solution.specs.Substitution.{Substitution, own_letters, InstanceOf}
use Rattle.solution.specs.Fact.{value_in_state}
use Rattle.solution.specs.Condition.{Condition}
use Rattle.solution.specs.Order.{order_bytes}
use Rattle.solution.specs.Elimination.{boole_answers, solvable, smallest_blocked, Verdict, solved, none}
use Rattle.solution.specs.General.{Blocked}
use Rattle.solution.specs.UnderFact.{SmallestBlockedWhere, SolvesWhere}
use Rattle.entry.specs.Record.{start_record, condition_record, order_record, end_record, is_default, bytes}
use Rattle.entry.specs.Held.{records, answers_in, says}
use Rattle.entry.specs.Entry.{verdict_records}
use Rattle.calls.specs.Solving.{boole_call, particular_call, lowenheim_call, handed_call}
use Rattle.demands.specs.Demand3.{has_none}

pub record Demand3Where (c : Condition) (e : List ℕ) : Type 0 where
  -- kind 5 exactly when, over each list of letters that holds the givens, no substitution makes f zero wherever g is zero ..
  pub none_exactly : (L : List Letter) → HoldsGivens c.G L → (has_none (records e) ≡ true) ↔ ((σ : Substitution) → ¬ SolvesWhere c L σ)
  -- .. that is, exactly when 'some state with g = 0 has no choice' ..
  pub none_means : (has_none (records e) ≡ true)
      ↔ ((state : State) × (state.0 < 2 ^ c.G) × (value_in_state c.U c.G (present c.fact) state ≡ false)
      × Blocked c.U c.G (present c.table) state)
  -- .. and 'the state named is the smallest of these'
  pub smallest_state : (state : State) → says (records e) ≡ none state
      → SmallestBlockedWhere c.U c.G (present c.table) (present c.fact) state
  -- without kind 5, the polynomials that stand in the kind 3 records make f zero wherever g is zero ..
  pub makes_zero : has_none (records e) ≡ false → SolvesWhere c (own_letters c.U c.G) (answers_in (records e))
  -- .. every instance of them does so, over any list that holds the givens ..
  pub each_makes_zero : has_none (records e) ≡ false → (L : List Letter) → HoldsGivens c.G L → (σ : Substitution)
      → InstanceOf c.U c.G (answers_in (records e)) L σ → SolvesWhere c L σ
  -- .. and 'instances cover all substitutions that do so'
  pub every_instance : has_none (records e) ≡ false → (L : List Letter) → HoldsGivens c.G L → (σ : Substitution)
      → SolvesWhere c L σ → InstanceOf c.U c.G (answers_in (records e)) L σ

-- what the fact leaves out plays no part: lent a fact and one of two condition tables, every solving call gives and leaves the same
pub record SameAnswers (U G : ℕ) (fact s t : List ℕ) : Type 0 where
  pub boole : (order answers : List ℕ) → boole_call U G order fact s answers ≡ boole_call U G order fact t answers
  pub particular : (order answers : List ℕ) → particular_call U G order fact s answers ≡ particular_call U G order fact t answers
  pub lowenheim : (order answers : List ℕ) → lowenheim_call U G order fact s answers ≡ lowenheim_call U G order fact t answers
  pub handed : (b answers : List ℕ) → handed_call U G fact s b answers ≡ handed_call U G fact t b answers

-- ---- without facts, as documents 01 and 02 had it before: the verdict on a polynomial, and the entry of one
unfoldable pub plain_verdict : ℕ → ℕ → List ℕ → Polynomial → Verdict (List ℕ)
plain_verdict U G order f =
    cond (solvable (U + G) f order) (solved (answer_table U (U + G) (boole_answers (U + G) f order))) (none (smallest_blocked U G f))

unfoldable pub plain_entry : ℕ → ℕ → ℕ → List ℕ → Polynomial → List ℕ
plain_entry route U G order f =
    bytes (start_record route U G
    ∷ (cond (is_default U (order_bytes order)) [] (order_record order ∷ [])
    ++ (map condition_record (monomials (U + G) f)
    ++ (verdict_records U (U + G) (plain_verdict U G order f) ++ (end_record route ∷ [])))))
