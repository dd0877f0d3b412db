-- Wrong programs: for a small condition each, what they would say is no right verdict (document 01, 'Agreement' and 'Slips to shut out').
-- Assumes nothing.
use mathlib.Core.Path.{◌≡◌, refl, sym, ◌∙◌}
use mathlib.Core.Bool.{Bool, true, false, cond, true≢false}
use mathlib.Core.List.{List, [], ◌∷◌}
use Prim.Native.Nat.{ℕ, zero, suc}
use native.Mathlib.Omega.{arith}
use lib.Dec.{ltb}
use Rattle.ring.specs.declared.State.{State}
use Rattle.ring.specs.Letters.{bit, point, point_where}
use Rattle.ring.specs.Polynomial.{count, odd, within, value, constant, letter, sum, product, monomial, substitute}
use Rattle.ring.specs.Table.{present, held, table, tabulate}
use Rattle.ring.specs.Lists.{listed}
use Rattle.ring.proofs.Substitute.{value-letter}
use Rattle.solution.specs.Letters.{Letter, unknown, given, other, holds, HoldsGivens, place, Valuation, point_of, value_over}
use Rattle.solution.specs.Substitution.{Substitution, letter_at, own_letters, put_in, MakesZero, InstanceOf}
use Rattle.solution.specs.Condition.{condition_of, table_where_zero}
use Rattle.solution.specs.Elimination.{lowenheim, Verdict, solved, none}
use Rattle.solution.specs.UnderFact.{MakesZeroWhere}
use Rattle.solution.specs.General.{General, RightVerdict}
use Rattle.solution.proofs.Letters.{replaced_value, value-put_in, bit-place}
use Rattle.solution.specs.Fact.{no_fact, where_zero}

-- a right verdict on the condition with the table t, in the order 0, 1, 2, ..
abbrev Right : ℕ → ℕ → List ℕ → Verdict Substitution → Type 0
Right U G t verdict = RightVerdict (condition_of U G t) verdict

no_givens : (L : List Letter) → HoldsGivens 0 L
no_givens L i h = absurd (omega arith)

-- the condition u*v, and its solution u = 1, v = 0
abbrev uv : List ℕ
uv = 0 ∷ 0 ∷ 0 ∷ 1 ∷ []

one_zero : Substitution
one_zero zero = constant true
one_zero (suc j) = constant false

one_zero_solves : MakesZero 2 0 (present uv) [] one_zero
unfolding value_over put_in substitute monomial product odd count value within constant letter place letter_at bit point_of present one_zero
one_zero_solves v = refl

-- the particular solution archived as the general one: u = 0, v = 0 leaves u = 1, v = 0 out
pub particular_refuted : Right 2 0 uv (solved (held 2 (0 ∷ 0 ∷ 0 ∷ 0 ∷ 0 ∷ 0 ∷ 0 ∷ 0 ∷ []))) → ⊥
unfolding value_over put_in substitute product odd count value within constant point_of present held one_zero table_where_zero monomial table bit tabulate where_zero sum no_fact
particular_refuted h =
    true≢false (sym (((h.general _ refl).every_instance [] (no_givens []) one_zero one_zero_solves).1 0 (omega arith) (λ l. true)))

-- 'none' for all: u*v has a solution, whatever state is named
pub none_refuted : (state : State) → Right 2 0 uv (none state) → ⊥
unfolding table_where_zero table tabulate where_zero product odd count present sum no_fact constant
none_refuted state h = (h.exactly [] (no_givens [])).0 (state, refl) one_zero one_zero_solves

-- the untouched unknown: u = u for the condition u
pub untouched_refuted : Right 1 0 (0 ∷ 1 ∷ []) (solved (held 1 (0 ∷ 1 ∷ []))) → ⊥
unfolding value_over put_in substitute monomial product odd count value within constant letter place letter_at bit point_of present own_letters listed held table_where_zero table tabulate where_zero sum no_fact
untouched_refuted h = true≢false ((h.general _ refl).makes_zero (λ l. true))

-- r and s exchanged: x*(r + s + 1) + r is 1 for the condition u
pub exchanged_refuted : Right 1 0 (0 ∷ 1 ∷ []) (solved (held 1 (1 ∷ 0 ∷ []))) → ⊥
unfolding value_over put_in substitute monomial product odd count value within constant letter place letter_at bit point_of present own_letters listed held table_where_zero table tabulate where_zero sum no_fact
exchanged_refuted h = true≢false ((h.general _ refl).makes_zero (λ l. true))

-- r and s used before the later answer, v = 0, is put in: u = v*(u + 1) for the condition u + v + u*v
only_v : Valuation
only_v (unknown zero) = false
only_v (unknown (suc j)) = true
only_v (given i) = true
only_v (other k) = true

pub early_refuted : Right 2 0 (0 ∷ 1 ∷ 1 ∷ 1 ∷ []) (solved (held 2 (0 ∷ 0 ∷ 1 ∷ 1 ∷ 0 ∷ 0 ∷ 0 ∷ 0 ∷ []))) → ⊥
unfolding value_over put_in substitute monomial product odd count value within constant letter place letter_at bit point_of present own_letters listed held only_v table_where_zero table tabulate where_zero sum no_fact
early_refuted h = true≢false ((h.general _ refl).makes_zero only_v)

-- 'none' only when the condition is the polynomial 1: a, of one unknown and one given, is not, and no answers will do
pub any_answers_refuted : (a : Substitution) → Right 1 1 (0 ∷ 0 ∷ 1 ∷ 0 ∷ []) (solved a) → ⊥
unfolding value_over put_in substitute monomial product odd count value within constant letter place letter_at bit point_of present own_letters listed table_where_zero table tabulate where_zero sum no_fact
any_answers_refuted a h = true≢false ((h.general a refl).makes_zero (λ l. true))

-- a state that is not blocked, named before it was examined: 0 for a
pub open_state_refuted : Right 1 1 (0 ∷ 0 ∷ 1 ∷ 0 ∷ []) (none (record { 0 = 0 })) → ⊥
unfolding value odd count within present point table_where_zero table tabulate where_zero product sum no_fact constant
open_state_refuted h = true≢false (sym ((h.state _ refl).blocked (record { 0 = 0 }) (omega arith)))

-- a blocked state that is not the smallest: 1 for the condition 1 of one given
pub later_state_refuted : Right 0 1 (1 ∷ 0 ∷ []) (none (record { 0 = 1 })) → ⊥
unfolding value odd count within present point table_where_zero table tabulate where_zero product sum no_fact constant
later_state_refuted h = (h.state _ refl).smallest (record { 0 = 0 }) (omega arith) (λ choice l. refl)

-- a handed polynomial that does not solve, taken by the formula: 1 for the condition u leaves u = u, which is no general solution
pub unsolving_refuted : General 1 0 (present (0 ∷ 1 ∷ [])) (lowenheim 1 (present (0 ∷ 1 ∷ [])) (held 1 (1 ∷ 0 ∷ []))) → ⊥
unfolding value_over put_in substitute monomial product odd count value within constant letter place letter_at bit point_of present own_letters listed held lowenheim sum
unsolving_refuted h = true≢false (h.makes_zero (λ l. true))

-- a fact with an unknown, u for the condition u: u = 1 makes u*(1 + u) zero, but not u wherever the fact is 0, so that the answers to f*(1 + g)
-- would be none to f (22 refuses it)
pub unknown_fact_solved : MakesZero 1 0 (present (table_where_zero 1 (0 ∷ 1 ∷ []) (0 ∷ 1 ∷ []))) [] (λ j. constant true)
unfolding table_where_zero where_zero table tabulate value_over put_in substitute monomial product odd count value within constant letter place letter_at bit point_of present sum
unknown_fact_solved v = refl

pub unknown_fact_refuted : MakesZeroWhere 1 0 (present (0 ∷ 1 ∷ [])) (present (0 ∷ 1 ∷ [])) [] (λ j. constant true) → ⊥
unfolding value_over put_in substitute monomial product odd count value within constant letter place letter_at bit point_of present own_letters listed
unknown_fact_refuted h = true≢false (h (λ l. false) refl)

-- u + a over a list in another order, with a foreign letter and a repeat
abbrev ua : List ℕ
ua = 0 ∷ 1 ∷ 1 ∷ 0 ∷ []

abbrev mixed : List Letter
mixed = other 5 ∷ given 0 ∷ given 3 ∷ given 0 ∷ []

mixed_holds : HoldsGivens 1 mixed
unfolding holds
mixed_holds zero h = refl
mixed_holds (suc i) h = absurd (omega arith)

-- u = a makes it zero there
pub given_for_unknown : MakesZero 1 1 (present ua) mixed (λ j. letter 1)
unfolding value_over value odd count within present point_where replaced_value letter_at place holds
given_for_unknown v =
    value-put_in 1 1 mixed mixed_holds (present ua) (λ j. letter 1) v
    ∙ go (v (given 0)) (value_over mixed (letter 1) v) (value-letter 4 1 (point_of mixed v) (omega arith) ∙ bit-place mixed (given 0) v refl)
  where
    go : (x y : Bool) → y ≡ x → value 2 (present ua) (point_where 2 (λ j. cond (ltb j 1) y x)) ≡ false
    go true true e = refl
    go true false e = sym e
    go false true e = e
    go false false e = refl

only_other : Valuation
only_other (unknown j) = false
only_other (given i) = false
only_other (other k) = true

-- u = the foreign letter does not, and is no instance of the answer u = a: a given is never replaced
pub replaced_given_refuted : MakesZero 1 1 (present ua) mixed (λ j. letter 0) → ⊥
unfolding value_over put_in substitute monomial product odd count value within constant letter place letter_at bit point_of present only_other
replaced_given_refuted z = true≢false (z only_other)

pub replaced_given_no_instance : InstanceOf 1 1 (λ j. letter 1) mixed (λ j. letter 0) → ⊥
unfolding value_over put_in substitute monomial product odd count value within constant letter place letter_at bit point_of present only_other
replaced_given_no_instance h = true≢false (sym (h.1 0 (omega arith) only_other))
