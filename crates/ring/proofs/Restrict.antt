-- The value of a polynomial with one letter set; elimination on polynomials.
-- Assumes nothing.
use mathlib.Core.Path.{◌≡◌, refl, sym, ap, ap₂, ◌∙◌}
use mathlib.Core.Bool.{Bool, true, false, ◌&&◌, and-false, cond}
use Prim.Native.Nat.{ℕ, zero, suc, ◌+◌, ◌*◌, ◌/◌, ◌%◌, ◌^◌, ◌<◌}
use native.Mathlib.Nat.{pow-suc}
use native.Mathlib.Omega.{arith}
use lib.Dec.{eqb}
use Rattle.ring.specs.Letters.{digit, bit, assign}
use Rattle.ring.specs.Polynomial.{◌⊕◌, value, sum, restrict}
use Rattle.ring.proofs.Bool.{xor_false, digit_lt}
use Rattle.ring.proofs.Mask.{low, even_low, even_half, odd_low, odd_half}
use Rattle.ring.proofs.Points.{bit_zero, bit_suc, low_digit, half_digit}
use Rattle.ring.proofs.Value.{value_cong, value_none, value-sum}
use Rattle.ring.proofs.Transform.{value-step}

value_scale : (n : ℕ) (b : Bool) (f : ℕ → Bool) (p : ℕ) → value n (λ m. b && f m) p ≡ (b && value n f p)
value_scale n true f p = refl
value_scale n false f p = value_none n p

value_add : (n : ℕ) (f g : ℕ → Bool) (p : ℕ) → value n (λ m. f m ⊕ g m) p ≡ (value n f p ⊕ value n g p)
unfolding sum
value_add n f g p = value-sum n f g p

halves : ℕ → (ℕ → Bool) → ℕ → Bool → Bool
halves n f y c = value n (λ i. f (i * 2)) y ⊕ (c && value n (λ i. f (i * 2 + 1)) y)

low_mod : (x p : ℕ) → low (x * 2 + p % 2) ≡ low p
unfolding low
low_mod x p = let e : (x * 2 + p % 2) % 2 ≡ p % 2 = omega arith in ap (λ (y : ℕ). eqb y 1) e

even_plus : (i j : ℕ) → i * 2 + 2 ^ suc j ≡ (i + 2 ^ j) * 2
even_plus i j = omega (arith, pow-suc 2 j)

odd_plus : (i j : ℕ) → i * 2 + 1 + 2 ^ suc j ≡ (i + 2 ^ j) * 2 + 1
odd_plus i j = omega (arith, pow-suc 2 j)

pub value-restrict : (n : ℕ) (f : ℕ → Bool) (j : ℕ) (b : Bool) (p : ℕ) → j < n → value n (restrict f j b) p ≡ value n f (assign p j b)
unfolding restrict assign halves
value-restrict zero f j b p h = absurd (omega arith)
value-restrict (suc n) f zero b p h =
    let q : ℕ = p / 2 in
    value-step n (restrict f zero b) p
    ∙ ap₂ (λ (x y : Bool). x ⊕ (low p && y))
    (value_cong n _ (λ i. f (i * 2) ⊕ (b && f (i * 2 + 1))) q
    (λ i l. ap (λ (x : Bool). cond x false (f (i * 2) ⊕ (b && f (i * 2 + 1)))) (bit_zero (i * 2) ∙ even_low i))
    ∙ value_add n (λ i. f (i * 2)) (λ i. b && f (i * 2 + 1)) q
    ∙ ap (λ (x : Bool). value n (λ i. f (i * 2)) q ⊕ x) (value_scale n b (λ i. f (i * 2 + 1)) q))
    (value_cong n _ (λ i. false) q
    (λ i l. ap (λ (x : Bool). cond x false (f (i * 2 + 1) ⊕ (b && f (i * 2 + 1 + 1)))) (bit_zero (i * 2 + 1) ∙ odd_low i))
    ∙ value_none n q)
    ∙ ap (λ (x : Bool). (value n (λ i. f (i * 2)) q ⊕ (b && value n (λ i. f (i * 2 + 1)) q)) ⊕ x) (and-false (low p))
    ∙ xor_false (value n (λ i. f (i * 2)) q ⊕ (b && value n (λ i. f (i * 2 + 1)) q))
    ∙ sym (value-step n f (q * 2 + digit b) ∙ ap₂ (halves n f) (half_digit q (digit b) (digit_lt b)) (low_digit q b))
value-restrict (suc n) f (suc j) b p h =
    value-step n (restrict f (suc j) b) p
    ∙ ap₂ (λ (x y : Bool). x ⊕ (low p && y))
    (value_cong n _ (restrict (λ i. f (i * 2)) j b) (p / 2) (λ i l. ap₂ (λ (x : Bool) (m : ℕ). cond x false (f (i * 2) ⊕ (b && f m)))
    (bit_suc (i * 2) j ∙ ap (λ (m : ℕ). bit m j) (even_half i)) (even_plus i j))
    ∙ value-restrict n (λ i. f (i * 2)) j b (p / 2) (omega arith))
    (value_cong n _ (restrict (λ i. f (i * 2 + 1)) j b) (p / 2)
    (λ i l. ap₂ (λ (x : Bool) (m : ℕ). cond x false (f (i * 2 + 1) ⊕ (b && f m)))
    (bit_suc (i * 2 + 1) j ∙ ap (λ (m : ℕ). bit m j) (odd_half i)) (odd_plus i j))
    ∙ value-restrict n (λ i. f (i * 2 + 1)) j b (p / 2) (omega arith))
    ∙ sym (value-step n f (assign (p / 2) j b * 2 + p % 2)
    ∙ ap₂ (halves n f) (half_digit (assign (p / 2) j b) (p % 2) (omega arith)) (low_mod (assign (p / 2) j b) p))
