-- The fast values: the values of a polynomial from those of its two halves, by the lowest letter.
-- Assumes nothing.
use mathlib.Core.Path.{◌≡◌, sym, ap, ap₂, ◌∙◌}
use mathlib.Core.Bool.{Bool, true, false, not, ◌&&◌, and-true, not-not}
use Prim.Native.Nat.{ℕ, suc, ◌+◌, ◌*◌, ◌/◌, ◌%◌, ◌^◌, ◌-◌, ◌<◌}
use native.Mathlib.Nat.{pow-suc, pow-succ', mul_assoc, add-mul, zero-mul, one-mul, zero-add, sub_self, sub-zero, mod-eq_of_lt, div-one}
use native.Mathlib.Nat.{mod-lt}
use native.Mathlib.Omega.{arith}
use lib.Arith.{mod-mul}
use lib.Pow.{pow_pos, split, high, low as low_of}
use borrow.Author.Tests.{eqb-true, eqb-false}
use Rattle.ring.specs.Letters.{bit}
use Rattle.ring.specs.Polynomial.{◌⊕◌, odd, within, value}
use Rattle.ring.proofs.Bool.{and_left_comm, xor_false, xor_comm}
use Rattle.ring.proofs.Parity.{odd_zero, odd_suc, odd_cong, odd_xor, odd_and, odd_double}
use Rattle.ring.proofs.Mask.{low, within_step, even_low, even_half, odd_low, odd_half, two_pos}
use Rattle.ring.proofs.Value.{value_cong}
use Rattle.ring.proofs.Points.{shift_half}

-- a monomial without the lowest letter, and one with it
within_even : (m p : ℕ) → within (m * 2) p ≡ within m (p / 2)
within_even m p = within_step (m * 2) p ∙ ap₂ (λ (x : Bool) (y : ℕ). not (x && not (low p)) && within y (p / 2)) (even_low m) (even_half m)

within-odd : (m p : ℕ) → within (m * 2 + 1) p ≡ (low p && within m (p / 2))
within-odd m p =
    within_step (m * 2 + 1) p ∙ ap₂ (λ (x : Bool) (y : ℕ). not (x && not (low p)) && within y (p / 2)) (odd_low m) (odd_half m)
    ∙ ap (λ (x : Bool). x && within m (p / 2)) (not-not (low p))

pub value-step : (n : ℕ) (f : ℕ → Bool) (p : ℕ)
    → value (suc n) f p ≡ (value n (λ i. f (i * 2)) (p / 2) ⊕ (low p && value n (λ i. f (i * 2 + 1)) (p / 2)))
unfolding value
value-step n f p =
    ap (λ (k : ℕ). odd k (λ m. f m && within m p)) (pow-suc 2 n)
    ∙ odd_double (2 ^ n) (λ m. f m && within m p)
    ∙ odd_cong (2 ^ n) _ _ (λ m l. ap₂ (λ (x y : Bool). (f (m * 2) && x) ⊕ (f (m * 2 + 1) && y)) (within_even m p) (within-odd m p)
    ∙ ap (λ (x : Bool). (f (m * 2) && within m (p / 2)) ⊕ x) (and_left_comm (f (m * 2 + 1)) (low p) (within m (p / 2))))
    ∙ odd_xor (2 ^ n) (λ m. f (m * 2) && within m (p / 2)) (λ m. low p && (f (m * 2 + 1) && within m (p / 2)))
    ∙ ap (λ (x : Bool). odd (2 ^ n) (λ m. f (m * 2) && within m (p / 2)) ⊕ x)
    (odd_and (2 ^ n) (low p) (λ m. f (m * 2 + 1) && within m (p / 2)))

-- the table once the letters from j on are done: the masks that differ from p in those letters alone, at row p / 2 ^ j of column p % 2 ^ j
pub stage_at : ℕ → (ℕ → Bool) → ℕ → ℕ → ℕ → Bool
stage_at n f j row column = value (n - j) (λ i. f (i * 2 ^ j + column)) row

pub stage : ℕ → (ℕ → Bool) → ℕ → ℕ → Bool
stage n f j p = stage_at n f j (p / 2 ^ j) (p % 2 ^ j)

stage_at_step : (n : ℕ) (f : ℕ → Bool) (j q r : ℕ) → j < n
    → stage_at n f j q r ≡ (stage_at n f (suc j) (q / 2) r ⊕ (low q && stage_at n f (suc j) (q / 2) (2 ^ j + r)))
unfolding stage_at
stage_at_step n f j q r h =
    let d : n - j ≡ suc (n - suc j) = omega arith in
    ap (λ (k : ℕ). value k (λ i. f (i * 2 ^ j + r)) q) d
    ∙ value-step (n - suc j) (λ i. f (i * 2 ^ j + r)) q
    ∙ ap₂ (λ (x y : Bool). x ⊕ (low q && y))
    (value_cong (n - suc j) _ _ (q / 2) (λ i l. ap f (ap (λ (x : ℕ). x + r) (row2 i j))))
    (value_cong (n - suc j) _ _ (q / 2) (λ i l. ap f (row3 i j r)))
  where
    row2 : (i j : ℕ) → i * 2 * 2 ^ j ≡ i * 2 ^ suc j
    row2 i j = mul_assoc i 2 (2 ^ j) ∙ ap (λ (x : ℕ). i * x) (sym (pow-succ' 2 j))

    row3 : (i j r : ℕ) → (i * 2 + 1) * 2 ^ j + r ≡ i * 2 ^ suc j + (2 ^ j + r)
    row3 i j r = omega (arith, add-mul (i * 2) 1 (2 ^ j), row2 i j)

-- the column of the next stage
column : (p j : ℕ) → p % 2 ^ suc j ≡ p / 2 ^ j % 2 * 2 ^ j + p % 2 ^ j
column p j = ap (λ (x : ℕ). p % x) (pow-succ' 2 j) ∙ mod-mul p two_pos (pow_pos j)

column_false : (p j : ℕ) → bit p j ≡ false → p % 2 ^ suc j ≡ p % 2 ^ j
unfolding bit
column_false p j e =
    let z : p / 2 ^ j % 2 ≡ 0 = omega (arith, eqb-false (p / 2 ^ j % 2) 1 e) in
    column p j ∙ rw (z, zero-mul, zero-add)

column_true : (p j : ℕ) → bit p j ≡ true → p % 2 ^ suc j ≡ 2 ^ j + p % 2 ^ j
unfolding bit
column_true p j e = column p j ∙ rw (eqb-true (p / 2 ^ j % 2) 1 e, one-mul)

-- p without letter j
without : (p j : ℕ) → bit p j ≡ true → p - 2 ^ j ≡ p / 2 ^ j / 2 * 2 * 2 ^ j + p % 2 ^ j
unfolding bit
without p j e =
    let o : p / 2 ^ j ≡ p / 2 ^ j / 2 * 2 + 1 = omega (arith, eqb-true (p / 2 ^ j % 2) 1 e) in
    let m : p / 2 ^ j * 2 ^ j ≡ p / 2 ^ j / 2 * 2 * 2 ^ j + 2 ^ j = ap (λ (x : ℕ). x * 2 ^ j) o ∙ add-mul (p / 2 ^ j / 2 * 2) 1 (2 ^ j)
    ∙ rw one-mul in
    omega (arith, split p j)

without_row : (p j : ℕ) → bit p j ≡ true → (p - 2 ^ j) / 2 ^ suc j ≡ p / 2 ^ j / 2
without_row p j e =
    shift_half (p - 2 ^ j) j
    ∙ ap (λ (x : ℕ). x / 2 ^ j / 2) (without p j e)
    ∙ ap (λ (x : ℕ). x / 2) (high (p / 2 ^ j / 2 * 2) j (mod-lt p (pow_pos j)))
    ∙ even_half (p / 2 ^ j / 2)

without_column : (p j : ℕ) → bit p j ≡ true → (p - 2 ^ j) % 2 ^ suc j ≡ p % 2 ^ j
without_column p j e =
    let q : ℕ = p / 2 ^ j / 2 * 2 in
    let z : q % 2 ≡ 0 = omega arith in
    column (p - 2 ^ j) j
    ∙ ap (λ (x : ℕ). x / 2 ^ j % 2 * 2 ^ j + x % 2 ^ j) (without p j e)
    ∙ ap₂ (λ (x y : ℕ). x % 2 * 2 ^ j + y) (high q j (mod-lt p (pow_pos j))) (low_of q j (mod-lt p (pow_pos j)))
    ∙ rw (z, zero-mul, zero-add)

-- no letters: the monomial 1 alone
value_zero : (f : ℕ → Bool) (p : ℕ) → value 0 f p ≡ f 0
unfolding value within
value_zero f p = odd_suc 0 (λ m. f m && within m p) ∙ rw (odd_zero (λ m. f m && within m p), and-true)

pub stage_first : (n : ℕ) (f : ℕ → Bool) (p : ℕ) → p < 2 ^ n → stage n f n p ≡ f p
unfolding stage stage_at
stage_first n f p h =
    ap (λ (k : ℕ). value k (λ i. f (i * 2 ^ n + p % 2 ^ n)) (p / 2 ^ n)) (sub_self n)
    ∙ value_zero (λ i. f (i * 2 ^ n + p % 2 ^ n)) (p / 2 ^ n)
    ∙ ap f (rw (zero-mul, zero-add) (mod-eq_of_lt h))

pub stage_last : (n : ℕ) (f : ℕ → Bool) (p : ℕ) → stage n f 0 p ≡ value n f p
unfolding stage stage_at
stage_last n f p = rw (sub-zero n, div-one p) (value_cong n _ _ p (λ i l. ap f (flat i)))
  where
    flat : (i : ℕ) → i * 1 + p % 1 ≡ i
    flat i = omega arith

pub stage_keep : (n : ℕ) (f : ℕ → Bool) (j p : ℕ) → j < n → bit p j ≡ false → stage n f j p ≡ stage n f (suc j) p
unfolding stage bit low
stage_keep n f j p h e =
    stage_at_step n f j (p / 2 ^ j) (p % 2 ^ j) h
    ∙ rw (e, xor_false) (ap₂ (stage_at n f (suc j)) (sym (shift_half p j)) (sym (column_false p j e)))

pub stage_flip : (n : ℕ) (f : ℕ → Bool) (j p : ℕ) → j < n → bit p j ≡ true
    → stage n f j p ≡ (stage n f (suc j) p ⊕ stage n f (suc j) (p - 2 ^ j))
unfolding stage bit low
stage_flip n f j p h e =
    stage_at_step n f j (p / 2 ^ j) (p % 2 ^ j) h
    ∙ rw e (xor_comm (stage_at n f (suc j) (p / 2 ^ j / 2) (p % 2 ^ j)) (stage_at n f (suc j) (p / 2 ^ j / 2) (2 ^ j + p % 2 ^ j)))
    ∙ ap₂ ◌⊕◌ (ap₂ (stage_at n f (suc j)) (sym (shift_half p j)) (sym (column_true p j e)))
    (ap₂ (stage_at n f (suc j)) (sym (without_row p j e)) (sym (without_column p j e)))
