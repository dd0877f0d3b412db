-- The operators of machine words, bit by bit: `&` is the product, `^` the sum, and `|` is s + t + s*t.
-- Assumes nothing.
use mathlib.Core.Path.{◌≡◌, refl, ap, ◌∙◌}
use mathlib.Core.Bool.{Bool, true, false, ◌&&◌}
use Prim.Native.Nat.{ℕ, zero, suc, ◌/◌, ◌%◌, ◌^◌, ◌<◌}
use native.Mathlib.Nat.{mod-lt}
use native.Mathlib.Omega.{arith}
use lib.Dec.{eqb, lit<}
use lib.Bits.{bit_and, bit_or, bit_xor, and_shr, or_shr, xor_shr, and_mod, or_mod, xor_mod}
use Rattle.ring.specs.Letters.{bit}
use Rattle.ring.specs.Polynomial.{◌⊕◌}

module _ (op : ℕ → ℕ → ℕ) (g : Bool → Bool → Bool) (shr : (a b k : ℕ) → op a b / 2 ^ k ≡ op (a / 2 ^ k) (b / 2 ^ k))
    (low : (a b k : ℕ) → op a b % 2 ^ k ≡ op (a % 2 ^ k) (b % 2 ^ k))
    (digit : (u v : ℕ) → u < 2 → v < 2 → eqb (op u v) 1 ≡ g (eqb u 1) (eqb v 1)) where
  bitwise : (a b i : ℕ) → bit (op a b) i ≡ g (bit a i) (bit b i)
  unfolding bit
  bitwise a b i =
      ap (λ (x : ℕ). eqb (x % 2) 1) (shr a b i)
      ∙ ap (λ (x : ℕ). eqb x 1) (low (a / 2 ^ i) (b / 2 ^ i) 1)
      ∙ digit (a / 2 ^ i % 2) (b / 2 ^ i % 2) (mod-lt (a / 2 ^ i) (lit< tt)) (mod-lt (b / 2 ^ i) (lit< tt))

-- a law of two bits holds if it holds of 0 and 1
module _ (op : ℕ → ℕ → ℕ) (g : Bool → Bool → Bool) where
  digits : eqb (op 0 0) 1 ≡ g false false → eqb (op 0 1) 1 ≡ g false true → eqb (op 1 0) 1 ≡ g true false → eqb (op 1 1) 1 ≡ g true true
      → (u v : ℕ) → u < 2 → v < 2 → eqb (op u v) 1 ≡ g (eqb u 1) (eqb v 1)
  digits a b c d zero zero p q = a
  digits a b c d zero (suc zero) p q = b
  digits a b c d zero (suc (suc v)) p q = absurd (omega arith)
  digits a b c d (suc zero) zero p q = c
  digits a b c d (suc zero) (suc zero) p q = d
  digits a b c d (suc zero) (suc (suc v)) p q = absurd (omega arith)
  digits a b c d (suc (suc u)) v p q = absurd (omega arith)

pub and_bit : (a b i : ℕ) → bit (bit_and a b) i ≡ (bit a i && bit b i)
and_bit = bitwise bit_and ◌&&◌ and_shr and_mod (digits bit_and ◌&&◌ refl refl refl refl)

-- `s|t` is s + t + s*t
abbrev pub inclusive : Bool → Bool → Bool
inclusive a b = a ⊕ b ⊕ (a && b)

pub or_bit : (a b i : ℕ) → bit (bit_or a b) i ≡ inclusive (bit a i) (bit b i)
or_bit = bitwise bit_or inclusive or_shr or_mod (digits bit_or inclusive refl refl refl refl)

pub xor_bit : (a b i : ℕ) → bit (bit_xor a b) i ≡ (bit a i ⊕ bit b i)
xor_bit = bitwise bit_xor ◌⊕◌ xor_shr xor_mod (digits bit_xor ◌⊕◌ refl refl refl refl)
