-- THE THEOREM: demand 3 holds of the bytes that are archived for every condition that has an entry, with any order of its unknowns, any
-- fact, every route and every list of letters, and so for every accepted text. The bytes are `entry route c`; that the calls hand these over is
-- `over_the_calls`. What the entry's records say is right (`entry_right`), and a written entry reads back (`reads_back`); both are put into
-- the demand's own words here.
-- Assumes nothing.
use mathlib.Core.Path.{◌≡◌, refl, sym, ap, ◌∙◌}
use mathlib.Core.Bool.{Bool, true, false, ◌||◌, cond}
use mathlib.Core.Logic.{◌↔◌}
use mathlib.Core.List.{List, [], ◌∷◌, ◌++◌}
use Prim.Native.Nat.{ℕ, ◌+◌, ◌<◌}
use native.Mathlib.Omega.{arith}
use lib.Dec.{ltb}
use lib.ListN.{take}
use borrow.Author.Tests.{ltb-true}
use Rattle.ring.specs.declared.State.{State}
use Rattle.ring.specs.Polynomial.{Polynomial, value}
use Rattle.ring.proofs.Points.{point_where_cong}
use Rattle.solution.specs.Letters.{Letter, HoldsGivens, Valuation, value_over}
use Rattle.solution.specs.Substitution.{Substitution, letter_at, own_letters, MakesZero}
use Rattle.solution.specs.Fact.{IsFact}
use Rattle.solution.specs.Condition.{Condition, polynomial, under_fact}
use Rattle.solution.specs.Order.{order_fits}
use Rattle.solution.proofs.Order.{fits_each}
use Rattle.solution.specs.Elimination.{solved, none, solve}
use Rattle.solution.specs.General.{Solves, RightVerdict}
use Rattle.solution.proofs.Letters.{replaced_value, value-put_in, own_holds}
use Rattle.grammar.specs.Text.{text_table}
use Rattle.entry.specs.Record.{Record, state_field, value_of, is_none}
use Rattle.entry.specs.Held.{records, answers_in, unless_none, says, held_condition, held_verdict}
use Rattle.entry.specs.Questions.{route_fits}
use Rattle.entry.specs.Entry.{entry, Archivable}
use Rattle.entry.proofs.Theorems.{ReadsBack, reads_back, archived_order_lem, entry_right}
use Rattle.calls.specs.Text.{Accepted}
use Rattle.calls.proofs.Text.{text_is_table}
use Rattle.demands.specs.Demand3.{has_none, Demand3}

-- records with kind 5 say 'none' and its state, those without it hold answers
pub says_none : {A : Type 0} (a : A) (rs : List Record) → has_none rs ≡ true → (state : State) × (unless_none a rs ≡ none state)
unfolding has_none unless_none
says_none a [] h = let z : ◌≡◌ {A = ℕ} 0 1 = cc in absurd (omega arith)
says_none a (r ∷ rs) h = go (is_none r) (says_none a rs) h
  where
    go : (b : Bool) → (has_none rs ≡ true → (state : State) × (unless_none a rs ≡ none state)) → (b || has_none rs) ≡ true
        → (state : State) × (cond b (none (record { 0 = value_of state_field r })) (unless_none a rs) ≡ none state)
    go true ih e = (record { 0 = value_of state_field r }, refl)
    go false ih e = ih e

pub says_solved : {A : Type 0} (a : A) (rs : List Record) → has_none rs ≡ false → unless_none a rs ≡ solved a
unfolding has_none unless_none
says_solved a [] h = refl
says_solved a (r ∷ rs) h = go (is_none r) (says_solved a rs) h
  where
    go : (b : Bool) → (has_none rs ≡ false → unless_none a rs ≡ solved a) → (b || has_none rs) ≡ false
        → cond b (none (record { 0 = value_of state_field r })) (unless_none a rs) ≡ solved a
    go true ih e = let z : ◌≡◌ {A = ℕ} 0 1 = cc in absurd (omega arith)
    go false ih e = ih e

-- so kind 5 stands there exactly if 'none' is said
pub none_said_exactly : (e : List ℕ) → (has_none (records e) ≡ true) ↔ ((state : State) × (says (records e) ≡ none state))
unfolding says
none_said_exactly e = (says_none (answers_in (records e)) (records e), λ s. go (has_none (records e)) refl s)
  where
    go : (b : Bool) → has_none (records e) ≡ b → (state : State) × (unless_none (answers_in (records e)) (records e) ≡ none state) → b ≡ true
    go true h s = refl
    go false h s =
        let q : solved (answers_in (records e)) ≡ none s.0 = sym (says_solved (answers_in (records e)) (records e) h) ∙ s.1 in
        let z : ◌≡◌ {A = ℕ} 0 1 = cc in
        absurd (omega arith)

-- a substitution of the same values makes the condition zero too
same_zero : (U G : ℕ) (f : Polynomial) (L : List Letter) → HoldsGivens G L → (σ τ : Substitution)
    → ((j : ℕ) → j < U → (v : Valuation) → value_over L (σ j) v ≡ value_over L (τ j) v) → MakesZero U G f L σ → MakesZero U G f L τ
unfolding replaced_value
same_zero U G f L givens σ τ same zero_of v =
    value-put_in U G L givens f τ v
    ∙ ap (value (U + G) f) (point_where_cong (U + G) _ _ (λ j l. go j (ltb j U) refl))
    ∙ sym (value-put_in U G L givens f σ v) ∙ zero_of v
  where
    go : (j : ℕ) (b : Bool) → ltb j U ≡ b → cond b (value_over L (τ j) v) (v (letter_at U j)) ≡ cond b (value_over L (σ j) v) (v (letter_at U j))
    go j true e = sym (same j (ltb-true j U e) v)
    go j false e = refl

-- the demand, of records whose verdict is right
module _ (c : Condition) (e : List ℕ) (r : RightVerdict c (says (records e))) where
  one_list : (L : List Letter) → HoldsGivens c.G L → (has_none (records e) ≡ true) ↔ ((σ : Substitution) → ¬ Solves c L σ)
  one_list L g = (
    λ h. (r.exactly L g).0 ((none_said_exactly e).0 h),
    λ none-makes. (none_said_exactly e).1 ((r.exactly L g).1 none-makes),
  )

  without_none : has_none (records e) ≡ false → says (records e) ≡ solved (answers_in (records e))
  unfolding says
  without_none h = says_solved (answers_in (records e)) (records e) h

  pub right_demand : held_condition (records e) ≡ c → held_verdict (records e) ≡ solve c → Demand3 c e
  right_demand condition verdict =
      let own : HoldsGivens c.G (own_letters c.U c.G) = own_holds c.U c.G in
      record {
        none_exactly = (λ h L g. (one_list L g).0 h, λ all. (one_list (own_letters c.U c.G) own).1 (all (own_letters c.U c.G) own));
        none_on_list = one_list;
        smallest_state = r.state;
        holds_booles = λ h. r.booles _ (without_none h);
        makes_zero = λ h. (r.general _ (without_none h)).makes_zero;
        each_makes_zero =
            λ h L g σ i v. same_zero c.U c.G (polynomial c) L g _ σ i.1 ((r.general _ (without_none h)).each_makes_zero L g i.0) v;
        every_instance = λ h. (r.general _ (without_none h)).every_instance;
        each_other = λ h. r.lowenheims _ (without_none h);
        condition_read = condition;
        verdict_read = verdict;
      }

-- demand 3, whole: of every condition that has an entry, whatever stands behind it ..
pub demand_3 : (route : ℕ) (c : Condition) (behind : List ℕ) → Archivable route c → Demand3 c (entry route c ++ behind)
demand_3 route c behind fits =
    let back : ReadsBack route c (records (entry route c ++ behind)) = reads_back route c behind fits in
    right_demand c (entry route c ++ behind) (entry_right route c behind (archived_order_lem route c fits)) back.condition back.verdict

-- .. and so of every accepted text, every order that passes question 17 and every fact: 'the condition is the table that it is read into'
pub demand_3_of_text : (U G route : ℕ) (text order fact behind : List ℕ) → Accepted U G text → route_fits route ≡ true
    → order_fits U order ≡ true → IsFact U G fact
    → Demand3 (under_fact U G (take U order) fact (text_table U G text))
    (entry route (under_fact U G (take U order) fact (text_table U G text)) ++ behind)
demand_3_of_text U G route text order fact behind accepted fits order_fits_lem of_fact =
    demand_3 route (under_fact U G (take U order) fact (text_table U G text)) behind
    (record {
      letters = accepted.letters;
      of_route = fits;
      of_order = fits_each U order order_fits_lem;
      of_table = text_is_table U G text;
      of_fact = of_fact;
    })
