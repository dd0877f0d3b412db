-- Words have at least six letters. With fewer letters n they repeat what they hold below 2 ^ n: values turn on the letters below n alone,
-- and so do the answers.
-- Assumes nothing.
use mathlib.Core.Path.{◌≡◌, refl, sym, ap, ap₂, ◌∙◌}
use mathlib.Core.Bool.{Bool, true, false, ◌&&◌}
use mathlib.Core.List.{List, [], ◌∷◌}
use Prim.Native.Nat.{ℕ, ◌%◌, ◌/◌, ◌^◌, ◌<◌}
use native.Mathlib.Nat.{mod-lt}
use native.Mathlib.Omega.{arith}
use lib.Bits.{bit_and, and_le_l}
use lib.Dec.{eqb}
use lib.Pow.{pow_pos, split}
use borrow.Author.Tests.{eqb-true, eqb-false}
use Rattle.ring.specs.Letters.{bit, assign}
use Rattle.ring.specs.Polynomial.{Polynomial, value, within}
use Rattle.ring.proofs.Bitwise.{and_bit}
use Rattle.ring.proofs.Parity.{odd_cong}
use Rattle.ring.proofs.Points.{same_letters, bit_low, bit-assign, bit_assign_other}
use Rattle.solution.specs.Elimination.{boole_answers}
use Rattle.solution.specs.Inner.ByPoints.{chosen_value, both_cases, chosen_point, answered_through}
use Rattle.solution.proofs.Values.{value_answers}
use Rattle.elimination.specs.Inner.Stages.{InLetters}
use Rattle.elimination.proofs.AnyOrder.{first_in, rest_in}

-- two points have the same letters below n
abbrev pub Same : ℕ → ℕ → ℕ → Type 0
Same n p q = (j : ℕ) → j < n → bit p j ≡ bit q j

-- f turns on the letters below n alone
abbrev Within : ℕ → (ℕ → Bool) → Type 0
Within n f = (p q : ℕ) → Same n p q → f p ≡ f q

pub same_low : (n p : ℕ) → Same n p (p % 2 ^ n)
same_low n p j l = ap (λ (x : ℕ). bit x j) (sym (split p n)) ∙ bit_low (p / 2 ^ n) (p % 2 ^ n) n j l

within_same : (n m p q : ℕ) → m < 2 ^ n → Same n p q → within m p ≡ within m q
unfolding within
within_same n m p q h e =
    ap (λ (x : ℕ). eqb x m) (same_letters n (bit_and m p) (bit_and m q) (omega (arith, and_le_l m p)) (omega (arith, and_le_l m q))
    (λ i l. and_bit m p i ∙ ap (λ (b : Bool). bit m i && b) (e i l) ∙ sym (and_bit m q i)))

pub value-within : (n : ℕ) (f : Polynomial) → Within n (value n f)
unfolding value
value-within n f p q e = odd_cong (2 ^ n) _ _ (λ m l. ap (λ (b : Bool). f m && b) (within_same n m p q l e))

assign_same : (n p q x : ℕ) (b c : Bool) → b ≡ c → Same n p q → Same n (assign p x b) (assign q x c)
assign_same n p q x b c eb e j l = go (eqb j x) refl
  where
    go : (t : Bool) → eqb j x ≡ t → bit (assign p x b) j ≡ bit (assign q x c) j
    go true k = rw (eqb-true j x k) (bit-assign p x b ∙ eb ∙ sym (bit-assign q x c))
    go false k = bit_assign_other p j x b (eqb-false j x k) ∙ e j l ∙ sym (bit_assign_other q j x c (eqb-false j x k))

both_within : (n : ℕ) (f : ℕ → Bool) (x : ℕ) → Within n f → Within n (both_cases f x)
unfolding both_cases
both_within n f x w p q e =
    ap₂ ◌&&◌ (w (assign p x true) (assign q x true) (assign_same n p q x true true refl e))
    (w (assign p x false) (assign q x false) (assign_same n p q x false false refl e))

answered_same : (n : ℕ) (f : ℕ → Bool) (o : List ℕ) → InLetters n o → Within n f → (p q : ℕ) → Same n p q
    → Same n (answered_through f o p) (answered_through f o q)
unfolding answered_through chosen_point
answered_same n f [] b w p q e = e
answered_same n f (x ∷ o) b w p q e =
    let P : ℕ = answered_through (both_cases f x) o p in
    let Q : ℕ = answered_through (both_cases f x) o q in
    let same : Same n P Q = answered_same n (both_cases f x) o (rest_in n x o b) (both_within n f x w) p q e in
    assign_same n P Q x _ _
    (ap₂ (λ (r s : Bool). chosen_value r s (bit p x)) (w _ _ (assign_same n P Q x true true refl same))
    (w _ _ (assign_same n P Q x false false refl same))
    ∙ ap (chosen_value (f (assign Q x true)) (f (assign Q x false))) (e x (first_in n x o b)))
    same

-- the values of Boole's answers at any point of the words
pub value_answers_all : (n : ℕ) (f : Polynomial) (o : List ℕ) → InLetters n o → (j p : ℕ) → j < n
    → bit (answered_through (value n f) o p) j ≡ value n (boole_answers n f o j) p
value_answers_all n f o b j p l =
    answered_same n (value n f) o b (value-within n f) p (p % 2 ^ n) (same_low n p) j l
    ∙ sym (value_answers n f o b j (p % 2 ^ n) l (mod-lt p (pow_pos n)))
    ∙ value-within n (boole_answers n f o j) (p % 2 ^ n) p (λ i k. sym (same_low n p i k))
