-- A polynomial without unknowns turns on the state alone, and one that does so has none (document 02, question 22).
-- It has at most one monomial for each state.
-- Assumes nothing.
use mathlib.Core.Path.{◌≡◌, refl, sym, ap, ap₂, ◌∙◌}
use mathlib.Core.Logic.{◌↔◌}
use mathlib.Core.Bool.{Bool, true, false, not, ◌&&◌, true≢false, and-true}
use Prim.Native.Nat.{ℕ, ◌+◌, ◌*◌, ◌/◌, ◌%◌, ◌^◌, ◌<◌, ◌≤◌}
use native.Mathlib.Nat.{mod-lt, mul_comm}
use native.Mathlib.Omega.{arith}
use lib.Arith.{digits_lt}
use lib.Dec.{eqb}
use lib.Bits.{bit_and, and_block, and_zero_l}
use lib.Pow.{pow_pos, pow-add, split, low}
use borrow.Author.Tests.{eqb-true, eq-eqb, ne_eqb, not-true, not-false}
use Rattle.ring.specs.Letters.{bit, assign}
use Rattle.ring.specs.Polynomial.{Polynomial, ◌⊕◌, count, every_below, within, value, restrict}
use Rattle.ring.proofs.Every.{every_all, every_of, every-not}
use Rattle.ring.proofs.Parity.{odd_cong, count_only_first, count_blocks}
use Rattle.ring.proofs.Points.{bit_none, bit_low, bit-assign, assign_lt, assign_clear, same_letters, same_above, bit_assign_other}
use Rattle.ring.proofs.Value.{same_values}
use Rattle.ring.proofs.Restrict.{value-restrict}
use Rattle.solution.specs.Fact.{has_no_unknown}

module _ (U : ℕ) where
  and_above : (m p : ℕ) → m % 2 ^ U ≡ 0 → bit_and m p ≡ bit_and (m / 2 ^ U) (p / 2 ^ U) * 2 ^ U + 0
  and_above m p e =
      ap₂ bit_and (sym (split m U)) (sym (split p U))
      ∙ and_block U (m / 2 ^ U) (p / 2 ^ U) (m % 2 ^ U) (p % 2 ^ U) (mod-lt m (pow_pos U)) (mod-lt p (pow_pos U))
      ∙ ap (λ (x : ℕ). bit_and (m / 2 ^ U) (p / 2 ^ U) * 2 ^ U + x) (ap (λ (x : ℕ). bit_and x (p % 2 ^ U)) e ∙ and_zero_l (p % 2 ^ U))

  within_above : (m p q : ℕ) → m % 2 ^ U ≡ 0 → p / 2 ^ U ≡ q / 2 ^ U → within m p ≡ within m q
  unfolding within
  within_above m p q e h =
      ap (λ (x : ℕ). eqb x m) (and_above m p e ∙ ap (λ (x : ℕ). bit_and (m / 2 ^ U) x * 2 ^ U + 0) h ∙ sym (and_above m q e))

  pub value_no_unknown : (n : ℕ) (g : Polynomial) → has_no_unknown U n g ≡ true → (p q : ℕ) → p / 2 ^ U ≡ q / 2 ^ U → value n g p ≡ value n g q
  unfolding value has_no_unknown
  value_no_unknown n g givens p q e =
      odd_cong (2 ^ n) _ _ (λ m l. go m (g m) (eqb (m % 2 ^ U) 0) refl (every_all (2 ^ n) (λ m. not (g m && not (eqb (m % 2 ^ U) 0))) givens m l))
    where
      go : (m : ℕ) (b t : Bool) → eqb (m % 2 ^ U) 0 ≡ t → not (b && not t) ≡ true → (b && within m p) ≡ (b && within m q)
      go m true true k h = within_above m p q (eqb-true (m % 2 ^ U) 0 k) e
      go m true false k h = absurd (true≢false (sym h))
      go m false t k h = refl

-- a fact over G givens has at most 2 ^ G monomials: in each block of 2 ^ U masks only the first has no unknown
pub count_no_unknown : (U G : ℕ) (g : Polynomial) → has_no_unknown U (U + G) g ≡ true → count (2 ^ (U + G)) g ≤ 2 ^ G
unfolding has_no_unknown
count_no_unknown U G g givens =
    rw blocks (count_blocks (2 ^ G) (2 ^ U) g (λ s l. count_only_first (2 ^ U) (λ c. g (s * 2 ^ U + c)) (absent s l)))
  where
    blocks : 2 ^ (U + G) ≡ 2 ^ G * 2 ^ U
    blocks = pow-add 2 U G ∙ mul_comm (2 ^ U) (2 ^ G)

    absent : (s : ℕ) → s < 2 ^ G → (c : ℕ) → 0 < c → c < 2 ^ U → g (s * 2 ^ U + c) ≡ false
    absent s l c p k =
        let m : ℕ = s * 2 ^ U + c in
        let h : (g m && not (eqb (m % 2 ^ U) 0)) ≡ false =
        not-true _ (every_all (2 ^ (U + G)) (λ m. not (g m && not (eqb (m % 2 ^ U) 0))) givens m (rw blocks (digits_lt l k))) in
        sym (and-true (g m)) ∙ rw (low s U k, ne_eqb c 0 (omega arith)) at h

-- a letter on which the values do not turn is in no monomial: f with it at 1 and at 0 is one polynomial
module _ (n j : ℕ) (g : Polynomial) (l : j < n) (same : (p : ℕ) → p < 2 ^ n → value n g (assign p j true) ≡ value n g (assign p j false)) where
  pub letter_absent : (m : ℕ) → m < 2 ^ n → bit m j ≡ true → g m ≡ false
  unfolding restrict
  letter_absent m lm e = cancel (g k) (g m) (sym (rw (bit-assign m j false, assign_clear m j e) at one))
    where
      k : ℕ
      k = assign m j false

      one : restrict g j true k ≡ restrict g j false k
      one = same_values n (restrict g j true) (restrict g j false)
          (λ p lp. value-restrict n g j true p l ∙ same p lp ∙ sym (value-restrict n g j false p l)) k (assign_lt n m j false lm l)

      cancel : (a b : Bool) → (a ⊕ false) ≡ (a ⊕ b) → b ≡ false
      cancel true true h = absurd (true≢false h)
      cancel true false h = refl
      cancel false b h = sym h

-- a number without bits below U is a multiple of 2 ^ U
low_none : (U m : ℕ) → ((j : ℕ) → j < U → bit m j ≡ false) → m % 2 ^ U ≡ 0
low_none U m e =
    same_letters U (m % 2 ^ U) 0 (mod-lt m (pow_pos U)) (pow_pos U) (λ j l.
    sym (bit_low (m / 2 ^ U) (m % 2 ^ U) U j l) ∙ ap (λ (x : ℕ). bit x j) (split m U) ∙ e j l ∙ sym (bit_none 0 j (pow_pos j)))

-- the values turn on the state alone
abbrev pub OnStateAlone : ℕ → ℕ → Polynomial → Type 0
OnStateAlone U n g = (p q : ℕ) → p < 2 ^ n → q < 2 ^ n → p / 2 ^ U ≡ q / 2 ^ U → value n g p ≡ value n g q

-- question 22 is exact: yes where the value turns on the state alone
pub no_unknown_exactly : (U n : ℕ) (g : Polynomial) → U ≤ n → (has_no_unknown U n g ≡ true) ↔ OnStateAlone U n g
unfolding has_no_unknown
no_unknown_exactly U n g le = (
  λ h p q _ _ e. value_no_unknown U n g h p q e,
  λ alone. every_of (2 ^ n) (λ m. not (g m && not (eqb (m % 2 ^ U) 0))) (λ m l. go alone m l (every_below U (λ j. not (bit m j))) refl),
)
  where
    none : (b c : Bool) → b ≡ false → not (b && c) ≡ true
    none b c e = rw e

    some : (b c : Bool) → c ≡ true → not (b && not c) ≡ true
    some true c e = rw e
    some false c e = refl

    go : OnStateAlone U n g → (m : ℕ) → m < 2 ^ n → (t : Bool) → every_below U (λ j. not (bit m j)) ≡ t → not (g m && not (eqb (m % 2 ^ U) 0)) ≡ true
    go alone m l true e =
        some (g m) (eqb (m % 2 ^ U) 0) (eq-eqb (m % 2 ^ U) 0 (low_none U m (λ j k. not-true (bit m j) (every_all U (λ j. not (bit m j)) e j k))))
    go alone m l false e =
        let r = every-not U (λ j. not (bit m j)) e in
        let j : ℕ = r.0 in
        let below : j < n = omega (arith, r.1) in
        none (g m) (not (eqb (m % 2 ^ U) 0)) (letter_absent n j g below
        (λ p lp. alone (assign p j true) (assign p j false) (assign_lt n p j true lp below) (assign_lt n p j false lp below)
        (same_above U n _ _ (assign_lt n p j true lp below) (assign_lt n p j false lp below)
        (λ i li _. let ne : i ≡ j → ⊥ = λ q. omega (arith, r.1) in bit_assign_other p i j true ne ∙ sym (bit_assign_other p i j false ne))))
        m l (not-false (bit m j) r.2))
