-- A designer's own circuit (document 02, C-15 and C-16): `lowenheim_handed` is lent a fact, a condition, handed polynomials and an answer
-- buffer. What it accepts, what its answers are, and what a no to 21 does, of the calls' own questions and buffers, which may be longer than
-- needed. 'Löwenheim's formula and the test of C-15 read f*(1 + g)'.
-- Assumes nothing.
use Rattle.std.specs.Prelude.{◌≡◌, true, ◌↔◌, List, [], ◌∷◌, ℕ, ◌+◌, ◌*◌, ◌^◌, ◌≤◌, length, replicate}
use Rattle.ring.specs.Polynomial.{Polynomial}
use Rattle.ring.specs.Table.{present, held}
use Rattle.tables.specs.Questions.{first_no}
use Rattle.tables.specs.Answered.{refused, answered, first_buffer}
use Rattle.solution.specs.Substitution.{Substitution, own_letters, MakesZero}
use Rattle.solution.specs.Condition.{table_where_zero}
use Rattle.solution.specs.Order.{order_fits}
use Rattle.solution.specs.General.{General, InstancesOfEachOther}
use Rattle.solution.specs.UnderFact.{MakesZeroWhere, GeneralWhere}
use Rattle.calls.specs.Questions.{solving_questions, handed_questions}
use Rattle.calls.specs.Operations.{substitute_table}
use Rattle.calls.specs.Solving.{boole_call, handed_call}

-- the polynomials that stand in the answer buffer after `lowenheim_handed`, and after `boole`
abbrev pub handed_answers : ℕ → ℕ → List ℕ → List ℕ → List ℕ → List ℕ → Substitution
handed_answers U G fact condition handed answers = held (U + G) (first_buffer (handed_call U G fact condition handed answers))

abbrev pub booles_answers : ℕ → ℕ → List ℕ → List ℕ → List ℕ → List ℕ → Substitution
booles_answers U G order fact condition answers = held (U + G) (first_buffer (boole_call U G order fact condition answers))

-- f*(1 + g), of what is lent
abbrev pub lent_polynomial : ℕ → ℕ → List ℕ → List ℕ → Polynomial
lent_polynomial U G fact condition = present (table_where_zero (U + G) condition fact)

-- the handed polynomials make the condition zero
abbrev pub HandedSolves : ℕ → ℕ → List ℕ → List ℕ → List ℕ → Type 0
HandedSolves U G fact condition handed = MakesZero U G (lent_polynomial U G fact condition) (own_letters U G) (held (U + G) handed)

-- what holds where no question is answered no
pub record HandedAccepted (U G : ℕ) (fact condition handed answers : List ℕ) : Type 0 where
  -- 'An accepted one gives a general solution ..
  pub general : General U G (lent_polynomial U G fact condition) (handed_answers U G fact condition handed answers)
  -- .. which 'make[s] f zero wherever g is zero' ..
  pub general_where : GeneralWhere U G (present condition) (present fact) (handed_answers U G fact condition handed answers)
  -- .. so that Boole's method, in whatever order, finds one too, if its answer buffer has room ..
  pub boole_solves : (order : List ℕ) (room : ℕ) → order_fits U order ≡ true → U * 2 ^ (U + G) ≤ room
      → first_no (solving_questions U G order fact condition room) ≡ 0
  -- .. and that and Boole's are instances of each other'
  pub each_other : (order answers₂ : List ℕ) → first_no (solving_questions U G order fact condition (length answers₂)) ≡ 0
      → InstancesOfEachOther U G (booles_answers U G order fact condition answers₂) (handed_answers U G fact condition handed answers)

-- what holds where 1, 4, 8, 22 and 23 are answered yes
pub record HandedTested (U G : ℕ) (fact condition handed answers : List ℕ) : Type 0 where
  -- it is accepted exactly if the handed substitution makes the condition zero ..
  pub accepted_exactly : (first_no (handed_questions U G fact condition handed (length answers)) ≡ 0) ↔ HandedSolves U G fact condition handed
  -- .. that is, if it makes f zero wherever g is zero ..
  pub where_exactly : (first_no (handed_questions U G fact condition handed (length answers)) ≡ 0)
      ↔ MakesZeroWhere U G (present condition) (present fact) (own_letters U G) (held (U + G) handed)
  -- .. or if the table that `substitute` makes of f*(1 + g) and of it is empty
  pub empty_exactly : (first_no (handed_questions U G fact condition handed (length answers)) ≡ 0)
      ↔ (substitute_table U G (table_where_zero (U + G) condition fact) handed ≡ replicate (2 ^ (U + G)) 0)
  -- any other is refused under 21, and no byte changes
  pub refused_unchanged : ¬ HandedSolves U G fact condition handed
      → handed_call U G fact condition handed answers ≡ answered (refused 21 []) (answers ∷ [])
  -- where the condition is 'none', by Boole's method in some order, every one is
  pub none_refused : (order : List ℕ) (room : ℕ) → first_no (solving_questions U G order fact condition room) ≡ 9
      → handed_call U G fact condition handed answers ≡ answered (refused 21 []) (answers ∷ [])
