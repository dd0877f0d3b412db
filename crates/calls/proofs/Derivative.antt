-- Contacts flipped together (document 02, C-13): what the call puts into the buffer, for every U, G, table and S; by points, and by states and
-- choices (`derivative_changes`, `derivative_nowhere`).
-- Assumes nothing.
use mathlib.Core.Path.{◌≡◌, refl, sym, ap, ap₂, ◌∙◌}
use mathlib.Core.Bool.{Bool, true, false}
use mathlib.Core.Logic.{◌↔◌}
use mathlib.Core.List.{List, [], ◌∷◌}
use Prim.Native.Nat.{ℕ, ◌+◌, ◌*◌, ◌/◌, ◌%◌, ◌^◌, ◌<◌}
use native.Mathlib.Omega.{arith}
use lib.ListN.{get_or, replicate}
use borrow.Author.Tests.{lt-ltb, ltb-true}
use Rattle.ring.specs.declared.State.{State}
use Rattle.ring.specs.declared.Choice.{Choice}
use Rattle.ring.specs.Letters.{digit, bit, point}
use Rattle.ring.specs.Polynomial.{Polynomial, ◌⊕◌, count, odd, value, constant, letter, sum, product, restrict, monomial, substitute}
use Rattle.ring.specs.Derivative.{inverted, derivative, flipped, flipped_state, flipped_choice}
use Rattle.ring.specs.Table.{present, tabulate, table}
use Rattle.ring.proofs.Points.{parts, point_lt, mask_letters}
use Rattle.ring.proofs.Value.{value_cong}
use Rattle.ring.proofs.Table.{table_cong, present-table, empty_exactly}
use Rattle.ring.proofs.Derivative as ring
use Rattle.calls.specs.Questions.{mask_declared}
use Rattle.calls.specs.Operations.{value_at, sum_table, derivative_table}

-- 20: 'has S only declared letters'
pub mask_declared_lem : (U G S : ℕ) → (mask_declared U G S ≡ true) ↔ ((j : ℕ) → bit S j ≡ true → j < U + G)
unfolding mask_declared
mask_declared_lem U G S =
    (λ e. (mask_letters (U + G) S).0 (ltb-true S (2 ^ (U + G)) e), λ all. lt-ltb S (2 ^ (U + G)) ((mask_letters (U + G) S).1 all))

module _ (U G : ℕ) where
  -- the value of a table at a point
  abbrev at : List ℕ → ℕ → Bool
  at t p = value (U + G) (present t) p

  made : (f : Polynomial) (p : ℕ) → value (U + G) (present (table (U + G) f)) p ≡ value (U + G) f p
  made f p = value_cong (U + G) _ f p (present-table (U + G) f)

  -- 'f plus f with every letter of a set S inverted', at a point: the value there plus the value at the flipped point
  pub derivative_at : (t : List ℕ) (S p : ℕ) → at (derivative_table U G t S) p ≡ (at t p ⊕ at t (flipped (U + G) S p))
  unfolding derivative_table
  derivative_at t S p = made (derivative (U + G) S (present t)) p ∙ ring.value-derivative (U + G) S (present t) p

  -- at a state and a choice, as the value call gives it
  pub derivative_changes : (t : List ℕ) (S : ℕ) (state : State) (choice : Choice) → S < 2 ^ (U + G) → state.0 < 2 ^ G → choice.0 < 2 ^ U
      → value_at U G (derivative_table U G t S) state choice
      ≡ digit (at t (point U state choice) ⊕ at t (point U (flipped_state U S state) (flipped_choice U S choice)))
  unfolding value_at
  derivative_changes t S state choice h hs hc =
      ap digit (derivative_at t S (point U state choice)
      ∙ ap (λ (q : ℕ). at t (point U state choice) ⊕ at t q) (ring.flipped-point U G S state choice h hs hc))

  -- 'It is the empty table exactly when no such flip changes the value anywhere'
  pub derivative_empty : (t : List ℕ) (S : ℕ)
      → (derivative_table U G t S ≡ replicate (2 ^ (U + G)) 0) ↔ ((p : ℕ) → p < 2 ^ (U + G) → at t (flipped (U + G) S p) ≡ at t p)
  unfolding derivative_table
  derivative_empty t S =
      let table_none = empty_exactly (U + G) (derivative (U + G) S (present t)) in
      let none_flips = ring.derivative_none (U + G) S (present t) in
      (λ e. none_flips.0 (table_none.0 e), λ same. table_none.1 (none_flips.1 same))

  -- the same by states and choices, as the value call gives the values
  pub derivative_nowhere : (t : List ℕ) (S : ℕ) → S < 2 ^ (U + G)
      → (derivative_table U G t S ≡ replicate (2 ^ (U + G)) 0)
      ↔ ((state : State) (choice : Choice) → state.0 < 2 ^ G → choice.0 < 2 ^ U
      → value_at U G t (flipped_state U S state) (flipped_choice U S choice) ≡ value_at U G t state choice)
  unfolding value_at
  derivative_nowhere t S h = (
    λ e state choice hs hc. ap digit (ap (at t) (sym (ring.flipped-point U G S state choice h hs hc))
        ∙ (derivative_empty t S).0 e (point U state choice) (point_lt U G state choice hs hc)),
    λ same. (derivative_empty t S).1 (λ p l.
        let q = parts U G p l in
        ap (λ (x : ℕ). at t (flipped (U + G) S x)) (sym q.whole)
        ∙ ap (at t) (ring.flipped-point U G S q.state q.choice h q.state_fits q.choice_fits)
        ∙ same_digit _ _ (same q.state q.choice q.state_fits q.choice_fits) ∙ ap (at t) q.whole),
  )
    where
      same_digit : (a b : Bool) → digit a ≡ digit b → a ≡ b
      same_digit true true e = refl
      same_digit true false e = absurd (omega arith)
      same_digit false true e = absurd (omega arith)
      same_digit false false e = refl

  -- 'For an empty S it is empty'
  pub derivative_of_none : (t : List ℕ) → derivative_table U G t 0 ≡ replicate (2 ^ (U + G)) 0
  unfolding derivative_table
  derivative_of_none t = (empty_exactly (U + G) _).1 (ring.derivative_empty (U + G) (present t))

  -- 'The derivative of a sum is the sum of derivatives'
  pub derivative_of_sum : (a b : List ℕ) (S : ℕ)
      → derivative_table U G (sum_table U G a b) S ≡ sum_table U G (derivative_table U G a S) (derivative_table U G b S)
  unfolding derivative_table sum_table sum
  derivative_of_sum a b S =
      table_cong (U + G) _ _ (λ m l.
      ring.derivative_cong (U + G) S _ (sum (present a) (present b)) (present-table (U + G) (sum (present a) (present b))) m l
      ∙ ring.derivative-sum (U + G) S (present a) (present b) m l
      ∙ sym (ap₂ ◌⊕◌ (present-table (U + G) _ m l) (present-table (U + G) _ m l)))

  -- 'a second derivative by the same S is empty'
  pub derivative_of_derivative : (t : List ℕ) (S : ℕ) → derivative_table U G (derivative_table U G t S) S ≡ replicate (2 ^ (U + G)) 0
  unfolding derivative_table
  derivative_of_derivative t S =
      (empty_exactly (U + G) _).1 (λ m l.
      ring.derivative_cong (U + G) S _ (derivative (U + G) S (present t)) (present-table (U + G) (derivative (U + G) S (present t))) m l
      ∙ ring.derivative_twice (U + G) S (present t) m l)

  -- it does not change when S is flipped
  pub derivative_at_flipped : (t : List ℕ) (S p : ℕ) → p < 2 ^ (U + G)
      → at (derivative_table U G t S) (flipped (U + G) S p) ≡ at (derivative_table U G t S) p
  unfolding derivative_table
  derivative_at_flipped t S p l =
      made (derivative (U + G) S (present t)) (flipped (U + G) S p) ∙ ring.derivative-flipped (U + G) S (present t) p l
      ∙ sym (made (derivative (U + G) S (present t)) p)

  -- by a single letter it is r + s of Boole's elimination: the table with the letter at 1 plus that with it at 0
  pub derivative_by_letter : (t : List ℕ) (j : ℕ) → j < U + G
      → derivative_table U G t (2 ^ j)
      ≡ sum_table U G (table (U + G) (restrict (present t) j true)) (table (U + G) (restrict (present t) j false))
  unfolding derivative_table sum_table sum
  derivative_by_letter t j h =
      table_cong (U + G) _ _ (λ m l.
      ring.derivative-letter (U + G) j (present t) h m l ∙ sym (ap₂ ◌⊕◌ (present-table (U + G) _ m l) (present-table (U + G) _ m l)))

-- ---- wrong derivatives of `u*a`, over one unknown and one given
abbrev u*a : List ℕ
u*a = 0 ∷ 0 ∷ 0 ∷ 1 ∷ []

-- u and a flipped together give 1 + u + a; u alone gives a, a alone gives u
pub flipped_together : (derivative_table 1 1 u*a 3 ≡ 1 ∷ 1 ∷ 1 ∷ 0 ∷ [])
    × (derivative_table 1 1 u*a 1 ≡ 0 ∷ 0 ∷ 1 ∷ 0 ∷ [])
    × (derivative_table 1 1 u*a 2 ≡ 0 ∷ 1 ∷ 0 ∷ 0 ∷ [])
unfolding derivative_table present table tabulate derivative inverted sum product substitute monomial odd count letter constant bit
flipped_together = (refl, refl, refl)

-- the derivatives by each letter in turn, added up: state 0 with choice 0 would seem not to change
pub added_up_wrong : sum_table 1 1 (derivative_table 1 1 u*a 1) (derivative_table 1 1 u*a 2) ≡ derivative_table 1 1 u*a 3 → ⊥
unfolding derivative_table sum_table present table tabulate derivative inverted sum product substitute monomial odd count letter constant bit
added_up_wrong e = let z : ◌≡◌ {A = ℕ} 0 1 = ap (λ (t : List ℕ). get_or t 0 0) e in absurd (omega arith)

-- one derivative after the other
pub in_turn_wrong : derivative_table 1 1 (derivative_table 1 1 u*a 1) 2 ≡ derivative_table 1 1 u*a 3 → ⊥
unfolding derivative_table present table tabulate derivative inverted sum product substitute monomial odd count letter constant bit
in_turn_wrong e = let z : ◌≡◌ {A = ℕ} 0 1 = ap (λ (t : List ℕ). get_or t 1 0) e in absurd (omega arith)

-- the value at the flipped point alone, without f
pub flipped_alone_wrong : table 2 (substitute 2 2 (present u*a) (inverted 3)) ≡ derivative_table 1 1 u*a 3 → ⊥
unfolding derivative_table present table tabulate derivative inverted sum product substitute monomial odd count letter constant bit
flipped_alone_wrong e = let z : ◌≡◌ {A = ℕ} 1 0 = ap (λ (t : List ℕ). get_or t 3 0) e in absurd (omega arith)

-- S with given i at bit i, and the unknowns behind them
abbrev givens_first : ℕ → ℕ → ℕ → ℕ
givens_first U G S = S % 2 ^ G * 2 ^ U + S / 2 ^ G

pub givens_first_wrong : derivative_table 1 1 u*a (givens_first 1 1 1) ≡ derivative_table 1 1 u*a 1 → ⊥
unfolding derivative_table present table tabulate derivative inverted sum product substitute monomial odd count letter constant bit
givens_first_wrong e = let z : ◌≡◌ {A = ℕ} 1 0 = ap (λ (t : List ℕ). get_or t 1 0) e in absurd (omega arith)
