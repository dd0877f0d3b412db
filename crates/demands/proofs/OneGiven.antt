-- The entry of a condition that is one given and nothing else: its monomial, 'none', and the state in which that given alone is 1.
-- So the bytes of an entry with a mask of 256, whose two bytes differ, are known without solving nine letters by computation.
-- Assumes nothing.
use mathlib.Core.Path.{◌≡◌, sym, ap, ◌∙◌}
use mathlib.Core.Bool.{true, false, true≢false}
use mathlib.Core.List.{List, [], ◌∷◌}
use Prim.Native.Nat.{ℕ, ◌+◌, ◌^◌, ◌<◌}
use native.Mathlib.Nat.{zero-add}
use native.Mathlib.Omega.{arith}
use lib.Dec.{eqb}
use lib.Pow.{pow_pos, pow-lt}
use Rattle.ring.specs.declared.State.{State}
use Rattle.ring.specs.declared.Choice.{Choice}
use Rattle.ring.specs.Letters.{bit, point, assign}
use Rattle.ring.specs.Polynomial.{value, letter}
use Rattle.ring.specs.Table.{present, table}
use Rattle.ring.proofs.Every.{every_all}
use Rattle.ring.proofs.Mask.{eqb_iff}
use Rattle.ring.proofs.Points.{bit_none, bit-assign, assign_set, bit_state}
use Rattle.ring.proofs.Value.{value_cong}
use Rattle.ring.proofs.Substitute.{value-letter}
use Rattle.ring.proofs.Table.{present-table, is-table}
use Rattle.order.specs.Order.{monomials}
use Rattle.order.proofs.Order.{monomials_same, monomials_none, order_once}
use Rattle.solution.specs.Fact.{no_fact}
use Rattle.solution.specs.Condition.{condition_of, default_order}
use Rattle.solution.specs.Elimination.{none, solvable, blocked, smallest_blocked, solve}
use Rattle.solution.specs.General.{Blocked}
use Rattle.solution.specs.Substitution.{own_letters}
use Rattle.solution.proofs.Letters.{own_holds}
use Rattle.solution.proofs.Order.{default_order_lem}
use Rattle.solution.proofs.Smallest.{first_found}
use Rattle.solution.proofs.Blocked.{no_true, blocked_none, is-blocked}
use Rattle.solution.proofs.Theorems.{solvable_exactly}
use Rattle.solution.proofs.UnderFact.{no_fact_lem, no_fact_empty}
use Rattle.entry.specs.Record.{start_record, condition_record, end_record, none_record, bytes}
use Rattle.entry.specs.Entry.{fact_records, condition_records, verdict_records, entry_records, entry}
use Rattle.entry.proofs.OrderRecord.{default_left_out}

-- the table of the i-th given among U unknowns and G givens
abbrev pub one_given : ℕ → ℕ → ℕ → List ℕ
one_given U G i = table (U + G) (letter (U + i))

bit_alone : (i : ℕ) → bit (2 ^ i) i ≡ true
bit_alone i =
    let e : assign 0 i true ≡ 2 ^ i = assign_set 0 i (bit_none 0 i (pow_pos i)) ∙ zero-add (2 ^ i) in rw e at (bit-assign 0 i true)

module _ (U G i : ℕ) (h : i < G) where
  value_given : (state : State) (choice : Choice) → choice.0 < 2 ^ U
      → value (U + G) (present (one_given U G i)) (point U state choice) ≡ bit state.0 i
  value_given state choice l =
      value_cong (U + G) _ _ (point U state choice) (present-table (U + G) (letter (U + i)))
      ∙ value-letter (U + G) (U + i) (point U state choice) (omega arith)
      ∙ bit_state U state choice i l

  -- the state in which it alone is 1 is blocked, and no smaller one
  blocked_alone : Blocked U G (present (one_given U G i)) (record { 0 = 2 ^ i })
  blocked_alone choice l = value_given (record { 0 = 2 ^ i }) choice l ∙ bit_alone i

  free_below : (s : ℕ) → s < 2 ^ i → blocked U G (present (one_given U G i)) (record { 0 = s }) ≡ false
  unfolding blocked
  free_below s l =
      no_true _ (λ e. true≢false
      (sym (every_all (2 ^ U) _ e 0 (pow_pos U)) ∙ value_given (record { 0 = s }) (record { 0 = 0 }) (pow_pos U) ∙ bit_none s i l))

  unsolvable : solvable (U + G) (present (one_given U G i)) (default_order U) ≡ false
  unsolvable =
      no_true _ (λ e.
      let s = (solvable_exactly U G (present (one_given U G i)) (default_order U) (default_order_lem U) (own_letters U G) (own_holds U G)).0 e in
      blocked_none U G (present (one_given U G i)) (record { 0 = 2 ^ i }) (pow-lt h) blocked_alone (own_letters U G) (own_holds U G) s.0
      s.1)

  verdict_given : solve (condition_of U G (one_given U G i)) ≡ none (record { 0 = 2 ^ i })
  unfolding solve smallest_blocked table
  verdict_given =
      rw (no_fact_lem (U + G) (one_given U G i) (is-table (U + G) (letter (U + i))), unsolvable)
      (ap (λ (s : ℕ). none (record { 0 = s }))
      (sym (first_found (2 ^ G) _ (2 ^ i) (pow-lt h) free_below
      (is-blocked U G (present (one_given U G i)) (record { 0 = 2 ^ i }) blocked_alone))))

  monomials_given : monomials (U + G) (present (one_given U G i)) ≡ 2 ^ (U + i) ∷ []
  unfolding monomials letter
  monomials_given =
      let fits : U + i < U + G = omega arith in
      monomials_same (U + G) (present (one_given U G i)) (λ m. eqb m (2 ^ (U + i)))
      (λ m l. present-table (U + G) (letter (U + i)) m l ∙ eqb_iff (2 ^ (U + i)) m m (2 ^ (U + i)) sym sym)
      ∙ order_once (U + G) (2 ^ (U + i)) (pow-lt fits)

  pub given_entry : (route : ℕ) → entry route (condition_of U G (one_given U G i))
      ≡ bytes (start_record route U G ∷ condition_record (2 ^ (U + i)) ∷ none_record (2 ^ i) ∷ end_record route ∷ [])
  unfolding entry entry_records fact_records condition_records verdict_records
  given_entry route =
      rw (
        default_left_out U G (one_given U G i),
        verdict_given,
        monomials_given,
        monomials_none (U + G) (present (no_fact (U + G))) (no_fact_empty (U + G)),
      )
