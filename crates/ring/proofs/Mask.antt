-- The laws of masks: `within` and `bit`, digit by digit, lowest first.
-- Assumes nothing.
use mathlib.Core.Path.{◌≡◌, refl, sym, ap, ap₂, ◌∙◌}
use mathlib.Core.Bool.{Bool, true, false, not, ◌&&◌, ◌||◌, and-false}
use Prim.Native.Nat.{ℕ, zero, suc, ◌+◌, ◌*◌, ◌/◌, ◌%◌, ◌^◌, ◌<◌, min, max}
use native.Mathlib.Nat.{div-add-mod', mod-lt, pow-suc, zero-lt-suc}
use native.Mathlib.Omega.{arith}
use lib.Arith.{bin_ind, lt-one}
use lib.Dec.{eqb}
use lib.Bits.{bit_and, bit_or, and_step, or_step}
use borrow.Author.Tests.{eq-eqb, ne_eqb, eqb-true}
use Rattle.ring.specs.Polynomial.{◌⊕◌, count, odd, within}
use Rattle.ring.proofs.Bool.{bool_iff, xor_self, xor_false}
use Rattle.ring.proofs.Parity.{odd_cong, odd_and, odd_double}

-- two tests on numbers that come to the same
pub eqb_iff : (a b c d : ℕ) → (a ≡ b → c ≡ d) → (c ≡ d → a ≡ b) → eqb a b ≡ eqb c d
eqb_iff a b c d f g = bool_iff (eqb a b) (eqb c d) (λ e. eq-eqb c d (f (eqb-true a b e))) (λ e. eq-eqb a b (g (eqb-true c d e)))

-- the lowest bit
unfoldable pub low : ℕ → Bool
low m = eqb (m % 2) 1

pub two_pos : 0 < 2
two_pos = zero-lt-suc 1

-- a number is made of its half and its lowest bit
pair : (q r x y : ℕ) → x < 2 → y < 2 → eqb (q * 2 + x) (r * 2 + y) ≡ (not (eqb x 1 ⊕ eqb y 1) && eqb q r)
pair q r zero zero hx hy = eqb_iff (q * 2 + 0) (r * 2 + 0) q r (λ e. omega arith) (λ e. omega arith)
pair q r zero (suc zero) hx hy = ne_eqb (q * 2 + 0) (r * 2 + 1) (omega arith)
pair q r zero (suc (suc y)) hx hy = absurd (omega arith)
pair q r (suc zero) zero hx hy = ne_eqb (q * 2 + 1) (r * 2 + 0) (omega arith)
pair q r (suc zero) (suc zero) hx hy = eqb_iff (q * 2 + 1) (r * 2 + 1) q r (λ e. omega arith) (λ e. omega arith)
pair q r (suc zero) (suc (suc y)) hx hy = absurd (omega arith)
pair q r (suc (suc x)) y hx hy = absurd (omega arith)

pub eqb_halves : (a b : ℕ) → eqb a b ≡ (not (low a ⊕ low b) && eqb (a / 2) (b / 2))
unfolding low
eqb_halves a b =
    ap₂ eqb (sym (div-add-mod' a 2)) (sym (div-add-mod' b 2)) ∙ pair (a / 2) (b / 2) (a % 2) (b % 2) (mod-lt a two_pos) (mod-lt b two_pos)

digit-within : (x y : ℕ) → x < 2 → y < 2 → not (eqb (min x y) 1 ⊕ eqb x 1) ≡ not (eqb x 1 && not (eqb y 1))
digit-within zero zero hx hy = refl
digit-within zero (suc zero) hx hy = refl
digit-within zero (suc (suc y)) hx hy = absurd (omega arith)
digit-within (suc zero) zero hx hy = refl
digit-within (suc zero) (suc zero) hx hy = refl
digit-within (suc zero) (suc (suc y)) hx hy = absurd (omega arith)
digit-within (suc (suc x)) y hx hy = absurd (omega arith)

digit_or : (x y : ℕ) → x < 2 → y < 2 → eqb (max x y) 1 ≡ (eqb x 1 || eqb y 1)
digit_or zero zero hx hy = refl
digit_or zero (suc zero) hx hy = refl
digit_or zero (suc (suc y)) hx hy = absurd (omega arith)
digit_or (suc zero) zero hx hy = refl
digit_or (suc zero) (suc zero) hx hy = refl
digit_or (suc zero) (suc (suc y)) hx hy = absurd (omega arith)
digit_or (suc (suc x)) y hx hy = absurd (omega arith)

pub within_step : (m p : ℕ) → within m p ≡ (not (low m && not (low p)) && within (m / 2) (p / 2))
unfolding within low
within_step m p =
    ap₂ eqb (and_step m p) (sym (div-add-mod' m 2))
    ∙ pair (bit_and (m / 2) (p / 2)) (m / 2) (min (m % 2) (p % 2)) (m % 2) (omega (arith, mod-lt m two_pos)) (mod-lt m two_pos)
    ∙ ap (λ (x : Bool). x && eqb (bit_and (m / 2) (p / 2)) (m / 2)) (digit-within (m % 2) (p % 2) (mod-lt m two_pos) (mod-lt p two_pos))

or_half : (a b : ℕ) → bit_or a b / 2 ≡ bit_or (a / 2) (b / 2)
or_half a b = omega (arith, or_step a b, mod-lt a two_pos, mod-lt b two_pos)

or_low : (a b : ℕ) → low (bit_or a b) ≡ (low a || low b)
unfolding low
or_low a b =
    let e : bit_or a b % 2 ≡ max (a % 2) (b % 2) = omega (arith, or_step a b, mod-lt a two_pos, mod-lt b two_pos) in
    ap (λ (x : ℕ). eqb x 1) e ∙ digit_or (a % 2) (b % 2) (mod-lt a two_pos) (mod-lt b two_pos)

joined : (a b c x y : Bool) → (not ((a || b) && not c) && (x && y)) ≡ ((not (a && not c) && x) && (not (b && not c) && y))
joined true true true x y = refl
joined true true false x y = refl
joined true false true x y = refl
joined true false false x y = refl
joined false true true x y = refl
joined false true false x y = sym (and-false x)
joined false false c x y = refl

within_or_zero : (j p : ℕ) → within (bit_or zero j) p ≡ (within zero p && within j p)
unfolding within
within_or_zero j p = refl

pub within_or : (i j p : ℕ) → within (bit_or i j) p ≡ (within i p && within j p)
within_or =
    bin_ind (λ (i : ℕ). (j p : ℕ) → within (bit_or i j) p ≡ (within i p && within j p)) within_or_zero
    (λ i ih j p.
    within_step (bit_or i j) p
    ∙ ap₂ (λ (x : Bool) (y : ℕ). not (x && not (low p)) && within y (p / 2)) (or_low i j) (or_half i j)
    ∙ ap (λ (x : Bool). not ((low i || low j) && not (low p)) && x) (ih (j / 2) (p / 2))
    ∙ joined (low i) (low j) (low p) (within (i / 2) (p / 2)) (within (j / 2) (p / 2))
    ∙ sym (ap₂ ◌&&◌ (within_step i p) (within_step j p)))

pub even_low : (m : ℕ) → low (m * 2) ≡ false
unfolding low
even_low m = ne_eqb (m * 2 % 2) 1 (omega arith)

pub odd_low : (m : ℕ) → low (m * 2 + 1) ≡ true
unfolding low
odd_low m = eq-eqb ((m * 2 + 1) % 2) 1 (omega arith)

pub even_half : (m : ℕ) → m * 2 / 2 ≡ m
even_half m = omega arith

pub odd_half : (m : ℕ) → (m * 2 + 1) / 2 ≡ m
odd_half m = omega arith

gather : (a b x y : Bool)
    → (((not (a && true) && x) && (not (false && not b) && y)) ⊕ ((not (a && false) && x) && (not (true && not b) && y)))
    ≡ (not (a ⊕ b) && (x && y))
gather true true x y = refl
gather true false x y = and-false x
gather false true x y = xor_self (x && y)
gather false false x y = ap (λ (z : Bool). (x && y) ⊕ z) (and-false x) ∙ xor_false (x && y)

two_masks : (i m p : ℕ)
    → ((within i (m * 2) && within (m * 2) p) ⊕ (within i (m * 2 + 1) && within (m * 2 + 1) p))
    ≡ (not (low i ⊕ low p) && (within (i / 2) m && within m (p / 2)))
two_masks i m p =
    rw (
      within_step i (m * 2),
      within_step i (m * 2 + 1),
      within_step (m * 2) p,
      within_step
          (m * 2 + 1) p,
      even_low m,
      odd_low m,
      even_half m,
      odd_half m,
    )
    (gather (low i) (low p) (within (i / 2) m) (within m (p / 2)))

-- of the masks between i and p there are an odd number only where i is p
pub between : (n i p : ℕ) → i < 2 ^ n → p < 2 ^ n → odd (2 ^ n) (λ m. within i m && within m p) ≡ eqb i p
unfolding odd count within
between zero i p hi hp = rw (lt-one hi, lt-one hp)
between (suc n) i p hi hp =
    ap (λ (k : ℕ). odd k (λ m. within i m && within m p)) (pow-suc 2 n)
    ∙ odd_double (2 ^ n) (λ m. within i m && within m p)
    ∙ odd_cong (2 ^ n) _ _ (λ m l. two_masks i m p)
    ∙ odd_and (2 ^ n) (not (low i ⊕ low p)) (λ m. within (i / 2) m && within m (p / 2))
    ∙ ap (λ (x : Bool). not (low i ⊕ low p) && x) (between n (i / 2) (p / 2) (omega (arith, pow-suc 2 n)) (omega (arith, pow-suc 2 n)))
    ∙ sym (eqb_halves i p)
