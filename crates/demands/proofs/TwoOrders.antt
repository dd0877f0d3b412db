-- Entries of one condition under two orders say the same. What makes a condition zero, and which state is blocked, does not turn on the
-- order; so both say 'none' or neither does, there is one smallest blocked state, and two general solutions are instances of each other.
-- Assumes nothing.
use mathlib.Core.Path.{◌≡◌, refl, sym, ap, ◌∙◌}
use mathlib.Core.Bool.{Bool, true, false}
use mathlib.Core.List.{List, ◌++◌}
use Prim.Native.Nat.{ℕ, ◌+◌, ◌^◌, ◌<◌}
use native.Mathlib.Decide.{ℕ_discrete}
use native.Mathlib.Omega.{arith}
use lib.ListN.{length, take}
use Rattle.ring.specs.declared.State.{State}
use Rattle.ring.specs.Polynomial.{Polynomial}
use Rattle.ring.proofs.Bool.{bool_iff}
use Rattle.tables.specs.Questions.{first_no}
use Rattle.solution.specs.Substitution.{own_letters}
use Rattle.solution.specs.Condition.{Condition, under_fact, polynomial}
use Rattle.solution.specs.Order.{lent_condition}
use Rattle.solution.specs.Elimination.{solved, none}
use Rattle.solution.specs.General.{SmallestBlocked, General, RightVerdict}
use Rattle.solution.proofs.Letters.{own_holds}
use Rattle.solution.proofs.General.{each_other}
use Rattle.entry.specs.Entry.{entry, Archivable}
use Rattle.entry.specs.Held.{records, answers_in, says}
use Rattle.entry.proofs.Theorems.{archived_order_lem, entry_right}
use Rattle.calls.specs.Questions.{write_questions}
use Rattle.calls.proofs.Entries.{output_is}
use Rattle.calls.proofs.Questions.{written_exactly, writable_archivable}
use Rattle.demands.specs.Demand3.{has_none}
use Rattle.demands.specs.OverTheCalls.{entry_written}
use Rattle.demands.specs.TwoOrders.{SayTheSame}
use Rattle.demands.proofs.Demand3.{says_none, says_solved}

-- there is one smallest blocked state
one_smallest : (U G : ℕ) (f : Polynomial) (s t : State) → SmallestBlocked U G f s → SmallestBlocked U G f t → s ≡ t
one_smallest U G f s t a b = go (ℕ_discrete s.0 t.0)
  where
    go : Dec (s.0 ≡ t.0) → s ≡ t
    go (yes e) = ap (λ (i : ℕ). record { 0 = i }) e
    go (no n) = absurd (apart (λ l. b.smallest s l a.blocked) (λ l. a.smallest t l b.blocked))
      where
        apart : (s.0 < t.0 → ⊥) → (t.0 < s.0 → ⊥) → ⊥
        apart x y = n (omega arith)

-- what right verdicts say of one condition in two orders
module _ (U G : ℕ) (g t a b : List ℕ) (e f : List ℕ) (x : RightVerdict (under_fact U G a g t) (says (records e)))
    (y : RightVerdict (under_fact U G b g t) (says (records f))) where
  -- 'none' is said of the other if it is said of the one
  none_too : (state : State) → says (records e) ≡ none state → (other : State) × (says (records f) ≡ none other)
  none_too state s =
      let own = own_holds U G in (y.exactly (own_letters U G) own).1 ((x.exactly (own_letters U G) own).0 (state, s))

  state_too : (state : State) → says (records e) ≡ none state → says (records f) ≡ none state
  state_too state s =
      let r : (other : State) × (says (records f) ≡ none other) = none_too state s in
      let q : r.0 ≡ state = one_smallest U G _ r.0 state (y.state r.0 r.1) (x.state state s) in
      r.1 ∙ ap none q

  has_none_lem : has_none (records e) ≡ true → has_none (records f) ≡ true
  unfolding says
  has_none_lem h = go (has_none (records f)) refl
    where
      go : (c : Bool) → has_none (records f) ≡ c → c ≡ true
      go true n = refl
      go false n =
          let s = says_none (answers_in (records e)) (records e) h in
          let q : solved (answers_in (records f)) ≡ none s.0 = sym (says_solved (answers_in (records f)) (records f) n)
          ∙ state_too s.0 s.1 in
          let z : ◌≡◌ {A = ℕ} 0 1 = cc in
          absurd (omega arith)

general_of : (c : Condition) (e : List ℕ) → RightVerdict c (says (records e)) → has_none (records e) ≡ false
    → General c.U c.G (polynomial c) (answers_in (records e))
unfolding says
general_of c e r n = r.general _ (says_solved (answers_in (records e)) (records e) n)

say_the_same : (U G : ℕ) (g t a b e f : List ℕ) → RightVerdict (under_fact U G a g t) (says (records e))
    → RightVerdict (under_fact U G b g t) (says (records f)) → SayTheSame U G e f
say_the_same U G g t a b e f x y =
    let same : has_none (records e) ≡ has_none (records f) = bool_iff _ _ (has_none_lem U G g t a b e f x y) (has_none_lem U G g t b a f e y x) in
    record {
      same_state = λ state. (state_too U G g t a b e f x y state, state_too U G g t b a f e y x state);
      same_none = same;
      each_other = λ n. each_other U G _ _ _ (general_of (under_fact U G a g t) e x n) (general_of (under_fact U G b g t) f y (sym same ∙ n));
    }

-- the entries of one condition under two orders, whatever stands behind them
pub two_orders : (U G : ℕ) (g t : List ℕ) (route : ℕ) (a : List ℕ) → Archivable route (under_fact U G a g t)
    → (other-route : ℕ) (b : List ℕ) → Archivable other-route (under_fact U G b g t) → (behind other-behind : List ℕ)
    → SayTheSame U G (entry route (under_fact U G a g t) ++ behind) (entry other-route (under_fact U G b g t) ++ other-behind)
two_orders U G g t route a fits other-route b other_fits behind other-behind =
    say_the_same U G g t a b _ _ (entry_right route (under_fact U G a g t) behind (archived_order_lem route (under_fact U G a g t) fits))
    (entry_right other-route (under_fact U G b g t) other-behind (archived_order_lem other-route (under_fact U G b g t) other_fits))

-- and over the calls: what `write_entry` leaves in two outputs, given one fact, one condition buffer and two orders
module _ (U G : ℕ) (fact condition : List ℕ) where
  written_archivable : (route : ℕ) (order out : List ℕ) → first_no (write_questions route U G order fact condition (length out)) ≡ 0
      → Archivable route (lent_condition U G order fact condition)
  written_archivable route order out z =
      writable_archivable route U G order fact condition (length out) ((written_exactly route U G order fact condition (length out)).0 z)

  pub two_orders_written : (route : ℕ) (a out : List ℕ) → first_no (write_questions route U G a fact condition (length out)) ≡ 0
      → (other-route : ℕ) (b other-out : List ℕ) → first_no (write_questions other-route U G b fact condition (length other-out)) ≡ 0
      → SayTheSame U G (entry_written route U G a fact condition out) (entry_written other-route U G b fact condition other-out)
  two_orders_written route a out z other-route b other-out y =
      rw (output_is route U G a fact condition out z, output_is other-route U G b fact condition other-out y)
      (two_orders U G (take (2 ^ (U + G)) fact) (take (2 ^ (U + G)) condition) route (take U a) (written_archivable route a out z) other-route (take U b)
      (written_archivable other-route b other-out y) _ _)
