-- Wrong archives: for a small condition each, the bytes that a wrong program would archive contradict demand 3 (document 01, 'Agreement').
-- Each refutation rests on the one field of `Demand3` that stands beside it in brackets. An edit in `must-fail/` weakens a field and its line
-- in the proof of `Demand3`, so that the weaker demand is proved; then the refutation falls.
-- The bytes of an archive stand a record to a line, those of a table by masks, as in the bench table. The route is 7.
-- Assumes nothing.
use mathlib.Core.Path.{◌≡◌, refl, sym, ap, ◌∙◌}
use mathlib.Core.Bool.{true, false, true≢false}
use mathlib.Core.List.{List, [], ◌∷◌, ◌++◌}
use Prim.Native.Nat.{ℕ, zero, suc, ◌<◌}
use native.Mathlib.Omega.{arith}
use lib.ListN.{get_or}
use Rattle.ring.specs.Letters.{bit, point, point_where}
use Rattle.ring.specs.Polynomial.{count, odd, within, value, constant, letter, sum, product, restrict, monomial, substitute, every_below}
use Rattle.ring.specs.Table.{present, tabulate, table, answer_table}
use Rattle.ring.specs.Lists.{listed}
use Rattle.solution.specs.Letters.{Letter, HoldsGivens, place, Valuation, point_of, value_over}
use Rattle.solution.specs.Substitution.{Substitution, letter_at, own_letters, put_in, InstanceOf}
use Rattle.solution.specs.Fact.{where_zero, value_in_state, no_fact}
use Rattle.solution.specs.Condition.{Condition, table_where_zero, polynomial, under_fact, ordered, condition_of, default_order}
use Rattle.solution.specs.Order.{order_bytes}
use Rattle.solution.specs.Elimination.{solved, next_condition, remains, answer_from, boole_answers, particular, lowenheim, own_lowenheim}
use Rattle.solution.specs.Elimination.{is_zero, solvable, boole_table, solve}
use Rattle.solution.specs.General.{SmallestBlocked, Solves}
use Rattle.entry.specs.Record.{kind, size, fields, widths, value_of, value_in, from_low_first, among, body_fits, same_bytes, is_default, is_needed}
use Rattle.entry.specs.Record.{in_bounds}
use Rattle.entry.specs.Entry.{entry, Archivable}
use Rattle.entry.specs.Questions.{all_in_bounds, numbers_fit}
use Rattle.entry.proofs.Theorems.{reads_back}
use Rattle.solution.proofs.Letters.{value-put_in, own_holds}
use Rattle.entry.specs.Held.{next, until_end, first_records, records, has_monomial, fact_in, condition_in, answers_in, unless_none, says, held_condition}
use Rattle.entry.specs.Held.{order_in, held_verdict}
use Rattle.demands.specs.Demand3.{has_none, Demand3}
use Rattle.demands.specs.UnderFact.{Demand3Where}

no_givens : (L : List Letter) → HoldsGivens 0 L
no_givens L i h = absurd (omega arith)

-- ---- the conditions

-- (0,0) `1`
abbrev the_one : Condition
the_one = condition_of 0 0 (1 ∷ [])

-- (0,1) `1`
abbrev one_beside_a : Condition
one_beside_a = condition_of 0 1 (1 ∷ 0 ∷ [])

-- (1,0) `0`
abbrev the_zero : Condition
the_zero = condition_of 1 0 (0 ∷ 0 ∷ [])

-- (1,0) `u`
abbrev u : Condition
u = condition_of 1 0 (0 ∷ 1 ∷ [])

-- (1,1) `a`
abbrev a : Condition
a = condition_of 1 1 (0 ∷ 0 ∷ 1 ∷ 0 ∷ [])

-- (2,0) `u+v`
abbrev u+v : Condition
u+v = condition_of 2 0 (0 ∷ 1 ∷ 1 ∷ 0 ∷ [])

-- (2,0) `u*v`
abbrev u*v : Condition
u*v = condition_of 2 0 (0 ∷ 0 ∷ 0 ∷ 1 ∷ [])

-- (2,0) `u*v`, v first
abbrev u*v-v-first : Condition
u*v-v-first = ordered 2 0 (1 ∷ 0 ∷ []) (0 ∷ 0 ∷ 0 ∷ 1 ∷ [])

-- ---- solutions left out

-- u = 1
one : Substitution
one j = constant true

-- the particular solution archived as the general one: u = 0 for the condition 0 leaves u = 1 out (every_instance) ..
abbrev particular_archived : List ℕ
particular_archived =
    1 ∷ 7 ∷ 1 ∷ 0
    ∷ 4 ∷ 7
    ∷ []

one_solves : Solves the_zero [] one
unfolding value_over put_in substitute product odd count value within constant point_of present one table_where_zero where_zero no_fact table tabulate sum
one_solves v = refl

pub particular_refuted : Demand3 the_zero particular_archived → ⊥
unfolding has_none records first_records next until_end kind size fields widths value_of value_in from_low_first among answers_in has_monomial value_over put_in substitute product odd count value within constant point_of one table_where_zero where_zero no_fact table tabulate sum present
particular_refuted h =
    let instance : InstanceOf 1 0 (answers_in (records particular_archived)) [] one = h.every_instance refl []
    (no_givens []) one one_solves in
    true≢false (sym (instance.1 0 (omega arith) (λ l. true)))

-- .. and Löwenheim's answer, u = u, is no instance of it (each_other)
pub particular_no_lowenheim : Demand3 the_zero particular_archived → ⊥
unfolding has_none records first_records next until_end kind size fields widths value_of value_in from_low_first among answers_in has_monomial value_over put_in substitute monomial product odd count value within constant letter point_of present listed own_letters letter_at place bit sum restrict next_condition answer_from boole_answers particular lowenheim own_lowenheim default_order table_where_zero where_zero no_fact table tabulate
particular_no_lowenheim h =
    let instance : InstanceOf 1 0 (answers_in (records particular_archived)) (own_letters 1 0)
    (own_lowenheim 1 0 (default_order 1) (polynomial the_zero)) = (h.each_other refl).forth in
    true≢false (sym (instance.1 0 (omega arith) (λ l. true)))

-- ---- answers that do not make the condition zero

-- the untouched unknown, u = u for u: its instance u = 1 does not make u zero (each_makes_zero)
abbrev unknowns_archived : List ℕ
unknowns_archived =
    1 ∷ 7 ∷ 1 ∷ 0
    ∷ 2 ∷ 1 ∷ 0
    ∷ 3 ∷ 0 ∷ 1 ∷ 0
    ∷ 4 ∷ 7
    ∷ []

one_instance : InstanceOf 1 0 (answers_in (records unknowns_archived)) [] one
unfolding records first_records next until_end kind size fields widths value_of value_in from_low_first among answers_in has_monomial value_over put_in substitute monomial product odd count value within constant point_of bit one table_where_zero where_zero no_fact table tabulate sum present
one_instance = (one, same)
  where
    same : (j : ℕ) → j < 1 → (v : Valuation)
        → value_over [] (put_in 1 0 [] (answers_in (records unknowns_archived) j) one) v ≡ value_over [] (one j) v
    same zero l v = refl
    same (suc j) l v = absurd (omega arith)

pub unknowns_refuted : Demand3 u unknowns_archived → ⊥
unfolding has_none records first_records next until_end kind size fields widths value_of value_in from_low_first among value_over put_in substitute monomial product odd count value within constant bit point_of present one table_where_zero where_zero no_fact table tabulate sum
unknowns_refuted h = true≢false (h.each_makes_zero refl [] (no_givens []) one one_instance (λ l. true))

-- r and s exchanged: x*(r + s + 1) + r is 1 for u (makes_zero)
abbrev exchanged_archived : List ℕ
exchanged_archived =
    1 ∷ 7 ∷ 1 ∷ 0
    ∷ 2 ∷ 1 ∷ 0
    ∷ 3 ∷ 0 ∷ 0 ∷ 0
    ∷ 4 ∷ 7
    ∷ []

pub exchanged_refuted : Demand3 u exchanged_archived → ⊥
unfolding has_none records first_records next until_end kind size fields widths value_of value_in from_low_first among answers_in has_monomial value_over put_in substitute monomial product odd count value within constant letter bit point_of present own_letters listed table_where_zero where_zero no_fact table tabulate sum
exchanged_refuted h = true≢false (h.makes_zero refl (λ l. true))

-- ---- 'none' and solved

-- 'none' where there is a solution: u = 0 solves u (none_exactly, and none_on_list)
abbrev none_archived : List ℕ
none_archived =
    1 ∷ 7 ∷ 1 ∷ 0
    ∷ 2 ∷ 1 ∷ 0
    ∷ 5 ∷ 0
    ∷ 4 ∷ 7
    ∷ []

zero_solves : Solves u [] (λ j. constant false)
unfolding value_over put_in substitute monomial product odd count value within constant point_of present bit table_where_zero where_zero no_fact table tabulate sum
zero_solves v = refl

pub none_refuted : Demand3 u none_archived → ⊥
unfolding has_none records first_records next until_end kind size fields widths value_of value_in from_low_first among table_where_zero where_zero no_fact table tabulate sum product odd count present constant
none_refuted h =
    let nothing_solves : (L : List Letter) → HoldsGivens 0 L → (σ : Substitution) → ¬ Solves u L σ = h.none_exactly.0 refl in
    nothing_solves [] (no_givens []) (λ j. constant false) zero_solves

pub none_refuted_on_list : Demand3 u none_archived → ⊥
unfolding has_none records first_records next until_end kind size fields widths value_of value_in from_low_first among table_where_zero where_zero no_fact table tabulate sum product odd count present constant
none_refuted_on_list h =
    let nothing_solves : (σ : Substitution) → ¬ Solves u [] σ = (h.none_on_list [] (no_givens [])).0 refl in
    nothing_solves (λ j. constant false) zero_solves

-- solved where there is no solution: nothing makes 1 zero, over any list (none_exactly)
abbrev solved_archived : List ℕ
solved_archived =
    1 ∷ 7 ∷ 0 ∷ 0
    ∷ 2 ∷ 0 ∷ 0
    ∷ 4 ∷ 7
    ∷ []

one_unsolved : (L : List Letter) → HoldsGivens 0 L → (σ : Substitution) → ¬ Solves the_one L σ
unfolding value odd count within present point_where table_where_zero where_zero no_fact table tabulate sum product constant
one_unsolved L g σ z = true≢false (sym (value-put_in 0 0 L g (polynomial the_one) σ (λ l. true)) ∙ z (λ l. true))

pub solved_refuted : Demand3 the_one solved_archived → ⊥
unfolding has_none records first_records next until_end kind size fields widths value_of value_in from_low_first among table_where_zero where_zero no_fact table tabulate sum product odd count present constant
solved_refuted h = true≢false (sym (h.none_exactly.1 one_unsolved))

-- 'none' only when the condition is the polynomial 1: a is not, and no answer makes it zero (none_on_list)
abbrev not_one_archived : List ℕ
not_one_archived =
    1 ∷ 7 ∷ 1 ∷ 1
    ∷ 2 ∷ 2 ∷ 0
    ∷ 4 ∷ 7
    ∷ []

a_unsolved : (σ : Substitution) → ¬ Solves a (own_letters 1 1) σ
unfolding value_over put_in substitute monomial product odd count value within constant letter place letter_at bit point_of present own_letters listed table_where_zero where_zero no_fact table tabulate sum
a_unsolved σ z = true≢false (z (λ l. true))

pub not_one_refuted : Demand3 a not_one_archived → ⊥
unfolding has_none records first_records next until_end kind size fields widths value_of value_in from_low_first among table_where_zero where_zero no_fact table tabulate sum product odd count present constant
not_one_refuted h = true≢false (sym ((h.none_on_list (own_letters 1 1) (own_holds 1 1)).1 a_unsolved))

-- ---- the state

-- a later state than the smallest: 1 for the condition 1, which is blocked in 0 (smallest_state)
abbrev later_archived : List ℕ
later_archived =
    1 ∷ 7 ∷ 0 ∷ 1
    ∷ 2 ∷ 0 ∷ 0
    ∷ 5 ∷ 1
    ∷ 4 ∷ 7
    ∷ []

pub later_refuted : Demand3 one_beside_a later_archived → ⊥
unfolding records first_records next until_end kind size fields widths value_of value_in from_low_first among says unless_none value odd count within present point table_where_zero where_zero no_fact table tabulate sum product constant
later_refuted h =
    let smallest : SmallestBlocked 0 1 (polynomial one_beside_a) (record { 0 = 1 }) = h.smallest_state (record { 0 = 1 }) refl in
    smallest.smallest (record { 0 = 0 }) (omega arith) (λ choice l. refl)

-- a state that was not examined: 0 for a, which is blocked in 1 alone (smallest_state)
abbrev open_archived : List ℕ
open_archived =
    1 ∷ 7 ∷ 1 ∷ 1
    ∷ 2 ∷ 2 ∷ 0
    ∷ 5 ∷ 0
    ∷ 4 ∷ 7
    ∷ []

pub open_refuted : Demand3 a open_archived → ⊥
unfolding records first_records next until_end kind size fields widths value_of value_in from_low_first among says unless_none value odd count within present point table_where_zero where_zero no_fact table tabulate sum product constant
open_refuted h =
    let smallest : SmallestBlocked 1 1 (polynomial a) (record { 0 = 0 }) = h.smallest_state (record { 0 = 0 }) refl in
    true≢false (sym (smallest.blocked (record { 0 = 0 }) (omega arith)))

-- ---- to the monomial

-- Löwenheim's answers, u*v for both, in the place of Boole's for u+v: a general solution too, and not the one that is promised (holds_booles)
abbrev lowenheim_archived : List ℕ
lowenheim_archived =
    1 ∷ 7 ∷ 2 ∷ 0
    ∷ 2 ∷ 1 ∷ 0
    ∷ 2 ∷ 2 ∷ 0
    ∷ 3 ∷ 0 ∷ 3 ∷ 0
    ∷ 3 ∷ 1 ∷ 3 ∷ 0
    ∷ 4 ∷ 7
    ∷ []

pub lowenheim_refuted : Demand3 u+v lowenheim_archived → ⊥
unfolding has_none records first_records next until_end kind size fields widths value_of value_in from_low_first among answers_in has_monomial boole_answers answer_from next_condition default_order listed substitute monomial product restrict sum constant letter odd count bit present table_where_zero where_zero no_fact table tabulate
lowenheim_refuted h = true≢false (h.holds_booles refl 0 3 (omega arith) (omega arith))

-- one monomial less in an answer: u = u for u*v, whose answer is u + u*v (holds_booles)
abbrev less_archived : List ℕ
less_archived =
    1 ∷ 7 ∷ 2 ∷ 0
    ∷ 2 ∷ 3 ∷ 0
    ∷ 3 ∷ 0 ∷ 1 ∷ 0
    ∷ 3 ∷ 1 ∷ 2 ∷ 0
    ∷ 4 ∷ 7
    ∷ []

pub less_refuted : Demand3 u*v less_archived → ⊥
unfolding has_none records first_records next until_end kind size fields widths value_of value_in from_low_first among answers_in has_monomial boole_answers answer_from next_condition default_order listed substitute monomial product restrict sum constant letter odd count bit present table_where_zero where_zero no_fact table tabulate
less_refuted h = true≢false (sym (h.holds_booles refl 0 3 (omega arith) (omega arith)))

same_tables : {x y : List ℕ} → solved x ≡ solved y → x ≡ y
same_tables e = cc

-- and one more: v = v + u*v for u+v, whose answer is v (verdict_read)
abbrev more_archived : List ℕ
more_archived =
    1 ∷ 7 ∷ 2 ∷ 0
    ∷ 2 ∷ 1 ∷ 0
    ∷ 2 ∷ 2 ∷ 0
    ∷ 3 ∷ 0 ∷ 2 ∷ 0
    ∷ 3 ∷ 1 ∷ 2 ∷ 0
    ∷ 3 ∷ 1 ∷ 3 ∷ 0
    ∷ 4 ∷ 7
    ∷ []

pub more_refuted : Demand3 u+v more_archived → ⊥
unfolding records first_records next until_end kind size fields widths value_of value_in from_low_first among held_verdict unless_none answers_in has_monomial answer_table tabulate solve boole_table solvable is_zero every_below remains boole_answers answer_from next_condition default_order listed substitute monomial product restrict sum constant letter odd count bit present table_where_zero where_zero no_fact table
more_refuted h = true≢false (ap (λ (tables : List ℕ). present tables 7) (same_tables h.verdict_read))

-- U and G exchanged in the record of kind 1: reading u+v finds no answer tables (verdict_read)
abbrev counts_exchanged_archived : List ℕ
counts_exchanged_archived =
    1 ∷ 7 ∷ 0 ∷ 2
    ∷ 2 ∷ 1 ∷ 0
    ∷ 2 ∷ 2 ∷ 0
    ∷ 3 ∷ 0 ∷ 2 ∷ 0
    ∷ 3 ∷ 1 ∷ 2 ∷ 0
    ∷ 4 ∷ 7
    ∷ []

pub counts_exchanged_refuted : Demand3 u+v counts_exchanged_archived → ⊥
unfolding records first_records next until_end kind size fields widths value_of value_in from_low_first among held_verdict unless_none answers_in has_monomial answer_table tabulate solve boole_table solvable is_zero every_below remains boole_answers answer_from next_condition default_order listed substitute monomial product restrict sum constant letter odd count bit present table_where_zero where_zero no_fact table
counts_exchanged_refuted h = true≢false (sym (ap (λ (tables : List ℕ). present tables 2) (same_tables h.verdict_read)))

-- a monomial of the condition left out, v of u+v, beside the right answers (condition_read)
abbrev condition_less_archived : List ℕ
condition_less_archived =
    1 ∷ 7 ∷ 2 ∷ 0
    ∷ 2 ∷ 1 ∷ 0
    ∷ 3 ∷ 0 ∷ 2 ∷ 0
    ∷ 3 ∷ 1 ∷ 2 ∷ 0
    ∷ 4 ∷ 7
    ∷ []

pub condition_less_refuted : Demand3 u+v condition_less_archived → ⊥
unfolding records first_records next until_end kind size fields widths value_of value_in from_low_first among held_condition condition_in has_monomial table tabulate present table_where_zero where_zero no_fact sum product odd count constant
condition_less_refuted h = true≢false (sym (ap (λ (c : Condition). present c.table 2) h.condition_read))

-- and one more, u*v (condition_read)
abbrev condition_more_archived : List ℕ
condition_more_archived =
    1 ∷ 7 ∷ 2 ∷ 0
    ∷ 2 ∷ 1 ∷ 0
    ∷ 2 ∷ 2 ∷ 0
    ∷ 2 ∷ 3 ∷ 0
    ∷ 3 ∷ 0 ∷ 2 ∷ 0
    ∷ 3 ∷ 1 ∷ 2 ∷ 0
    ∷ 4 ∷ 7
    ∷ []

pub condition_more_refuted : Demand3 u+v condition_more_archived → ⊥
unfolding records first_records next until_end kind size fields widths value_of value_in from_low_first among held_condition condition_in has_monomial table tabulate present table_where_zero where_zero no_fact sum product odd count constant
condition_more_refuted h = true≢false (ap (λ (c : Condition). present c.table 3) h.condition_read)

-- ---- the order

-- the order ignored: for u*v, v first, the answers of u first, u = u + u*v and v = v (holds_booles)
abbrev order_ignored_archived : List ℕ
order_ignored_archived =
    1 ∷ 7 ∷ 2 ∷ 0
    ∷ 6 ∷ 1 ∷ 0 ∷ 255 ∷ 255 ∷ 255 ∷ 255
    ∷ 2 ∷ 3 ∷ 0
    ∷ 3 ∷ 0 ∷ 1 ∷ 0
    ∷ 3 ∷ 0 ∷ 3 ∷ 0
    ∷ 3 ∷ 1 ∷ 2 ∷ 0
    ∷ 4 ∷ 7
    ∷ []

pub order_ignored_refuted : Demand3 u*v-v-first order_ignored_archived → ⊥
unfolding has_none records first_records next until_end kind size fields widths value_of value_in from_low_first among answers_in has_monomial boole_answers answer_from next_condition listed substitute monomial product restrict sum constant letter odd count bit present table_where_zero where_zero no_fact table tabulate
order_ignored_refuted h = true≢false (h.holds_booles refl 0 3 (omega arith) (omega arith))

-- kind 6 left out: the answers of v first, u = u and v = v + u*v, as if u had gone first (condition_read)
abbrev order_left_out_archived : List ℕ
order_left_out_archived =
    1 ∷ 7 ∷ 2 ∷ 0
    ∷ 2 ∷ 3 ∷ 0
    ∷ 3 ∷ 0 ∷ 1 ∷ 0
    ∷ 3 ∷ 1 ∷ 2 ∷ 0
    ∷ 3 ∷ 1 ∷ 3 ∷ 0
    ∷ 4 ∷ 7
    ∷ []

pub order_left_out_refuted : Demand3 u*v-v-first order_left_out_archived → ⊥
unfolding records first_records next until_end kind size fields widths value_of value_in from_low_first among held_condition order_in order_bytes default_order listed table_where_zero where_zero no_fact table tabulate sum product odd count present constant
order_left_out_refuted h =
    let e : ◌≡◌ {A = ℕ} 0 1 = ap (λ (c : Condition). get_or c.order 0 0) h.condition_read in absurd (omega arith)

-- kind 6 for the order 0, 1, 2, ..: no condition has such an entry, whatever stands behind it
abbrev default_named_archived : List ℕ
default_named_archived =
    1 ∷ 7 ∷ 2 ∷ 0
    ∷ 6 ∷ 0 ∷ 1 ∷ 255 ∷ 255 ∷ 255 ∷ 255
    ∷ 2 ∷ 3 ∷ 0
    ∷ 3 ∷ 0 ∷ 1 ∷ 0
    ∷ 3 ∷ 0 ∷ 3 ∷ 0
    ∷ 3 ∷ 1 ∷ 2 ∷ 0
    ∷ 4 ∷ 7
    ∷ []

pub default_named_refuted : (route : ℕ) (c : Condition) (behind : List ℕ) → Archivable route c
    → entry route c ++ behind ≡ default_named_archived → ⊥
unfolding records first_records next until_end kind size fields widths value_of value_in from_low_first numbers_fit all_in_bounds in_bounds body_fits is_needed is_default same_bytes order_bytes default_order listed table_where_zero where_zero no_fact table tabulate sum product odd count present constant
default_named_refuted route c behind a e =
    let fits : numbers_fit (records default_named_archived) ≡ true = rw e at (reads_back route c behind a).passes.numbers in
    true≢false (sym fits)

-- ---- the fact

-- (1,2) `a*u+b*u+b` under the fact `a*b`
abbrev exclusive : Condition
exclusive = under_fact 1 2 (0 ∷ []) (0 ∷ 0 ∷ 0 ∷ 0 ∷ 0 ∷ 0 ∷ 1 ∷ 0 ∷ []) (0 ∷ 0 ∷ 0 ∷ 1 ∷ 1 ∷ 1 ∷ 0 ∷ 0 ∷ [])

-- the fact ignored, or f*g solved: 'none' at state 3, which does not count (smallest_state)
abbrev fact_ignored_archived : List ℕ
fact_ignored_archived =
    1 ∷ 7 ∷ 1 ∷ 2
    ∷ 7 ∷ 6 ∷ 0
    ∷ 2 ∷ 4 ∷ 0
    ∷ 2 ∷ 3 ∷ 0
    ∷ 2 ∷ 5 ∷ 0
    ∷ 5 ∷ 3
    ∷ 4 ∷ 7
    ∷ []

pub fact_ignored_refuted : Demand3 exclusive fact_ignored_archived → ⊥
unfolding records first_records next until_end kind size fields widths value_of value_in from_low_first among says unless_none value within point table_where_zero where_zero table tabulate sum product odd count present constant
fact_ignored_refuted h = true≢false (sym ((h.smallest_state _ refl).blocked (record { 0 = 0 }) (omega arith)))

-- the same in document 02's own words: g is 1 there (smallest_state)
pub uncounted_refuted : Demand3Where exclusive fact_ignored_archived → ⊥
unfolding records first_records next until_end kind size fields widths value_of value_in from_low_first among says unless_none value_in_state value within point odd count present
uncounted_refuted h = true≢false (h.smallest_state _ refl).counts

-- f*(1 + g) in kind 2: one monomial more, a*b (condition_read)
abbrev solved_one_archived : List ℕ
solved_one_archived =
    1 ∷ 7 ∷ 1 ∷ 2
    ∷ 7 ∷ 6 ∷ 0
    ∷ 2 ∷ 4 ∷ 0
    ∷ 2 ∷ 3 ∷ 0
    ∷ 2 ∷ 5 ∷ 0
    ∷ 2 ∷ 6 ∷ 0
    ∷ 3 ∷ 0 ∷ 1 ∷ 0
    ∷ 3 ∷ 0 ∷ 4 ∷ 0
    ∷ 3 ∷ 0 ∷ 3 ∷ 0
    ∷ 3 ∷ 0 ∷ 5 ∷ 0
    ∷ 3 ∷ 0 ∷ 6 ∷ 0
    ∷ 4 ∷ 7
    ∷ []

pub solved_one_refuted : Demand3 exclusive solved_one_archived → ⊥
unfolding records first_records next until_end kind size fields widths value_of value_in from_low_first among held_condition condition_in has_monomial table tabulate present
solved_one_refuted h = true≢false (ap (λ (c : Condition). present c.table 6) h.condition_read)

-- the fact left out of the entry: the answers are those of another condition (condition_read)
abbrev fact_left_out_archived : List ℕ
fact_left_out_archived =
    1 ∷ 7 ∷ 1 ∷ 2
    ∷ 2 ∷ 4 ∷ 0
    ∷ 2 ∷ 3 ∷ 0
    ∷ 2 ∷ 5 ∷ 0
    ∷ 3 ∷ 0 ∷ 1 ∷ 0
    ∷ 3 ∷ 0 ∷ 4 ∷ 0
    ∷ 3 ∷ 0 ∷ 3 ∷ 0
    ∷ 3 ∷ 0 ∷ 5 ∷ 0
    ∷ 3 ∷ 0 ∷ 6 ∷ 0
    ∷ 4 ∷ 7
    ∷ []

pub fact_left_out_refuted : Demand3 exclusive fact_left_out_archived → ⊥
unfolding records first_records next until_end kind size fields widths value_of value_in from_low_first among held_condition fact_in has_monomial table tabulate present
fact_left_out_refuted h = true≢false (sym (ap (λ (c : Condition). present c.fact 6) h.condition_read))

-- (1,1) `1` under the fact `1+a`, of which state 1 alone counts
abbrev no_choice : Condition
no_choice = under_fact 1 1 (0 ∷ []) (1 ∷ 0 ∷ 1 ∷ 0 ∷ []) (1 ∷ 0 ∷ 0 ∷ 0 ∷ [])

-- the smallest state in which f is blocked, where g is 1 (smallest_state)
abbrev uncounted_archived : List ℕ
uncounted_archived =
    1 ∷ 7 ∷ 1 ∷ 1
    ∷ 7 ∷ 0 ∷ 0
    ∷ 7 ∷ 2 ∷ 0
    ∷ 2 ∷ 0 ∷ 0
    ∷ 5 ∷ 0
    ∷ 4 ∷ 7
    ∷ []

pub uncounted_state_refuted : Demand3Where no_choice uncounted_archived → ⊥
unfolding records first_records next until_end kind size fields widths value_of value_in from_low_first among says unless_none value_in_state value within point odd count present
uncounted_state_refuted h = true≢false (h.smallest_state _ refl).counts
