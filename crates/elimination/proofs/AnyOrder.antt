-- The method at points in any order: it turns on the values below 2 ^ n alone, and later answers do not turn on the letters that have gone.
-- Assumes nothing.
use mathlib.Core.Path.{◌≡◌, refl, sym, ap, ap₂, ◌∙◌}
use mathlib.Core.Logic.{◌≢◌}
use mathlib.Core.Bool.{Bool, true, false, not, ◌&&◌}
use mathlib.Core.List.{List, [], ◌∷◌}
use Prim.Native.Nat.{ℕ, zero, suc, ◌/◌, ◌%◌, ◌^◌, ◌<◌}
use native.Mathlib.Omega.{arith}
use borrow.Author.Tests.{not-true}
use Rattle.ring.specs.Letters.{digit, bit, assign}
use Rattle.ring.specs.Lists.{has}
use Rattle.ring.specs.Polynomial.{◌⊕◌}
use Rattle.ring.proofs.Bool.{and_left, and_right, digit_lt, xor_false}
use Rattle.ring.proofs.Lists.{has_first, has_rest}
use Rattle.ring.proofs.Points.{assign_lt, assign-bit, bit-assign, bit_assign_other, half_digit, mod_digit}
use Rattle.solution.specs.Inner.ByPoints.{chosen_value, both_cases, remains_through, chosen_point, answered_through}
use Rattle.solution.proofs.Elimination.{answered_kept, answered_lt, out_head, out_tail}
use Rattle.elimination.specs.Inner.Stages.{InLetters, no_repeats, answer_at}

-- ---- assigning twice
pub assign_twice : (p j : ℕ) (a b : Bool) → assign (assign p j a) j b ≡ assign p j b
unfolding assign
assign_twice p zero a b = rw (half_digit (p / 2) (digit a) (digit_lt a))
assign_twice p (suc j) a b =
    rw (
      half_digit (assign (p / 2) j a) (p % 2) (omega arith),
      mod_digit (assign (p / 2) j a) (p % 2) (omega arith),
      assign_twice
          (p / 2) j a b,
    )

pub assign_swap : (p i j : ℕ) (a b : Bool) → i ≢ j → assign (assign p i a) j b ≡ assign (assign p j b) i a
unfolding assign
assign_swap p zero zero a b h = absurd (h refl)
assign_swap p zero (suc j) a b h =
    rw (
      half_digit (p / 2) (digit a) (digit_lt a),
      mod_digit (p / 2) (digit a) (digit_lt a),
      half_digit (assign (p / 2) j b) (p % 2)
          (omega arith),
    )
assign_swap p (suc i) zero a b h =
    rw (
      half_digit (assign (p / 2) i a) (p % 2) (omega arith),
      half_digit (p / 2) (digit b) (digit_lt b),
      mod_digit (p / 2) (digit b)
          (digit_lt b),
    )
assign_swap p (suc i) (suc j) a b h =
    rw (
      half_digit (assign (p / 2) i a) (p % 2) (omega arith),
      mod_digit (assign (p / 2) i a) (p % 2) (omega arith),
      half_digit (assign (p / 2) j b) (p % 2) (omega arith),
      mod_digit (assign (p / 2) j b) (p % 2) (omega arith),
      assign_swap (p / 2) i j a b (λ e. h (ap suc e)),
    )

-- ---- values below 2 ^ n
pub first_in : (n x : ℕ) (order : List ℕ) → InLetters n (x ∷ order) → x < n
first_in n x order b = b x (has_first x order)

pub rest_in : (n x : ℕ) (order : List ℕ) → InLetters n (x ∷ order) → InLetters n order
rest_in n x order b y e = b y (has_rest y x order e)

abbrev pub Agree : ℕ → (ℕ → Bool) → (ℕ → Bool) → Type 0
Agree n f g = (p : ℕ) → p < 2 ^ n → f p ≡ g p

pub both_agree : (n : ℕ) (f g : ℕ → Bool) (x : ℕ) → x < n → Agree n f g → Agree n (both_cases f x) (both_cases g x)
unfolding both_cases
both_agree n f g x h e p l = ap₂ ◌&&◌ (e _ (assign_lt n p x true l h)) (e _ (assign_lt n p x false l h))

pub remains_agree : (n : ℕ) (f g : ℕ → Bool) (order : List ℕ) → InLetters n order → Agree n f g
    → Agree n (remains_through f order) (remains_through g order)
unfolding remains_through
remains_agree n f g [] b e = e
remains_agree n f g (x ∷ order) b e =
    remains_agree n (both_cases f x) (both_cases g x) order (rest_in n x order b) (both_agree n f g x (first_in n x order b) e)

pub answered_agree : (n : ℕ) (f g : ℕ → Bool) (order : List ℕ) → InLetters n order → Agree n f g → (p : ℕ) → p < 2 ^ n
    → answered_through f order p ≡ answered_through g order p
unfolding answered_through chosen_point
answered_agree n f g [] b e p l = refl
answered_agree n f g (x ∷ order) b e p l =
    let h : x < n = first_in n x order b in
    let q : ℕ = answered_through (both_cases g x) order p in
    let q_lt : q < 2 ^ n = answered_lt n (both_cases g x) order p (rest_in n x order b) l in
    ap (chosen_point f x (bit p x))
    (answered_agree n (both_cases f x) (both_cases g x) order (rest_in n x order b) (both_agree n f g x h e) p l)
    ∙ ap₂ (λ (r s : Bool). assign q x (chosen_value r s (bit p x))) (e _ (assign_lt n q x true q_lt h)) (e _ (assign_lt n q x false q_lt h))

pub answer_at_agree : (n : ℕ) (f g : ℕ → Bool) (x : ℕ) (order : List ℕ) → InLetters n (x ∷ order) → Agree n f g
    → Agree n (answer_at f x order) (answer_at g x order)
unfolding answer_at
answer_at_agree n f g x order b e p l =
    let h : x < n = first_in n x order b in
    let q : ℕ = answered_through (both_cases g x) order p in
    ap (λ (y : Bool). y ⊕ bit p x)
    (ap f (answered_agree n (both_cases f x) (both_cases g x) order (rest_in n x order b) (both_agree n f g x h e) p l)
    ∙ e q (answered_lt n (both_cases g x) order p (rest_in n x order b) l))

-- ---- letters that have gone
abbrev pub Free : (ℕ → Bool) → ℕ → Type 0
Free f y = (p : ℕ) (b : Bool) → f (assign p y b) ≡ f p

both_free : (f : ℕ → Bool) (x : ℕ) → Free (both_cases f x) x
unfolding both_cases
both_free f x p b = ap₂ (λ (q r : ℕ). f q && f r) (assign_twice p x b true) (assign_twice p x b false)

kept_free : (f : ℕ → Bool) (x y : ℕ) → y ≢ x → Free f y → Free (both_cases f x) y
unfolding both_cases
kept_free f x y h free p b =
    ap₂ (λ (q r : ℕ). f q && f r) (assign_swap p y x b true h) (assign_swap p y x b false h)
    ∙ ap₂ ◌&&◌ (free (assign p x true) b) (free (assign p x false) b)

later_free : (f : ℕ → Bool) (order : List ℕ) (y : ℕ) → Free f y → has y order ≡ false → (p : ℕ) (b : Bool)
    → answered_through f order (assign p y b) ≡ assign (answered_through f order p) y b
unfolding answered_through chosen_point
later_free f [] y free h p b = refl
later_free f (x ∷ order) y free h p b =
    let other : y ≢ x = out_head x order y h in
    let q : ℕ = answered_through (both_cases f x) order p in
    ap₂ (λ (c : Bool) (r : ℕ). chosen_point f x c r) (bit_assign_other p x y b (λ e. other (sym e)))
    (later_free (both_cases f x) order y (kept_free f x y other free) (out_tail x order y h) p b)
    ∙ ap₂ (λ (r s : Bool). assign (assign q y b) x (chosen_value r s (bit p x)))
    (ap f (assign_swap q y x b true other) ∙ free (assign q x true) b) (ap f (assign_swap q y x b false other) ∙ free (assign q x false) b)
    ∙ assign_swap q y x b _ other

-- x*(r + s + 1) + s at a point is the value there plus x
chosen_own : (f : ℕ → Bool) (x q : ℕ) → chosen_value (f (assign q x true)) (f (assign q x false)) (bit q x) ≡ (f q ⊕ bit q x)
unfolding chosen_value
chosen_own f x q = go (bit q x) (assign-bit q x)
  where
    go : (b : Bool) → assign q x b ≡ q → ((b && ((f (assign q x true) ⊕ f (assign q x false)) ⊕ true)) ⊕ f (assign q x false)) ≡ (f q ⊕ b)
    go true e = rw e (cancel (f q) (f (assign q x false)))
      where
        cancel : (r s : Bool) → (((r ⊕ s) ⊕ true) ⊕ s) ≡ (r ⊕ true)
        cancel true true = refl
        cancel true false = refl
        cancel false true = refl
        cancel false false = refl
    go false e = rw e (sym (xor_false (f q)))

pub no_first : (x : ℕ) (order : List ℕ) → no_repeats (x ∷ order) ≡ true → has x order ≡ false
unfolding no_repeats
no_first x order e = not-true (has x order) (and_left (not (has x order)) (no_repeats order) e)

pub no_rest : (x : ℕ) (order : List ℕ) → no_repeats (x ∷ order) ≡ true → no_repeats order ≡ true
unfolding no_repeats
no_rest x order e = and_right (not (has x order)) (no_repeats order) e

-- the answer for x is where the answers lead, at x
answer_value : (f : ℕ → Bool) (x : ℕ) (order : List ℕ) → no_repeats (x ∷ order) ≡ true → (p : ℕ)
    → chosen_value (f (assign (answered_through (both_cases f x) order p) x true))
    (f (assign (answered_through (both_cases f x) order p) x false)) (bit p x) ≡ answer_at f x order p
unfolding answer_at
answer_value f x order once p =
    let q : ℕ = answered_through (both_cases f x) order p in
    let same : bit q x ≡ bit p x = answered_kept (both_cases f x) order p x (no_first x order once) in
    ap (chosen_value (f (assign q x true)) (f (assign q x false))) (sym same) ∙ chosen_own f x q ∙ ap (λ (b : Bool). f q ⊕ b) same

pub answer_first : (f : ℕ → Bool) (x : ℕ) (order : List ℕ) → no_repeats (x ∷ order) ≡ true → (p : ℕ)
    → bit (answered_through f (x ∷ order) p) x ≡ answer_at f x order p
unfolding answered_through chosen_point
answer_first f x order once p = bit-assign (answered_through (both_cases f x) order p) x _ ∙ answer_value f x order once p

pub answer_other : (f : ℕ → Bool) (x : ℕ) (order : List ℕ) (y p : ℕ) → y ≢ x
    → bit (answered_through f (x ∷ order) p) y ≡ bit (answered_through (both_cases f x) order p) y
unfolding answered_through chosen_point
answer_other f x order y p h = bit_assign_other (answered_through (both_cases f x) order p) y x _ h

-- one more answer put in
pub answered_more : (f : ℕ → Bool) (x : ℕ) (order : List ℕ) → no_repeats (x ∷ order) ≡ true → (p : ℕ)
    → answered_through (both_cases f x) order (assign p x (answer_at f x order p)) ≡ answered_through f (x ∷ order) p
unfolding answered_through chosen_point
answered_more f x order once p =
    later_free (both_cases f x) order x (both_free f x) (no_first x order once) p (answer_at f x order p)
    ∙ ap (assign (answered_through (both_cases f x) order p) x) (sym (answer_value f x order once p))
