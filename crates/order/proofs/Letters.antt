-- The number of letters of a mask below 2 ^ n: a count of its n bits, worked out by halving, and at most n; for ten letters, out of a table
-- for five.
-- Assumes nothing.
use mathlib.Core.Path.{◌≡◌, refl, sym, ap, ap₂, ◌∙◌}
use mathlib.Core.Bool.{true, false}
use mathlib.Core.List.{List}
use mathlib.Core.Logic.{◌⊎◌, inl, inr}
use Prim.Native.Nat.{ℕ, zero, suc, ◌+◌, ◌-◌, ◌/◌, ◌%◌, ◌^◌, ◌≤◌, ◌<◌}
use native.Mathlib.Nat.{pow-suc}
use native.Mathlib.Omega.{arith}
use lib.Dec.{eqb, leb}
use lib.ListN.{get_or}
use lib.Pow.{pow_mono}
use borrow.Author.Tests.{leb-true, leb-false, eqb-true}
use Rattle.ring.specs.Letters.{digit, bit}
use Rattle.ring.specs.Polynomial.{count, every_below}
use Rattle.ring.proofs.Bool.{bool_cases}
use Rattle.ring.proofs.Every.{every_all}
use Rattle.ring.proofs.Lists.{get_d_listed}
use Rattle.ring.proofs.Parity.{count_cong, count_first, count_more, count_most}
use Rattle.ring.proofs.Points.{bit_zero, bit_suc, bit_none, digit_low}
use Rattle.order.specs.Order.{letters}
use Rattle.order.specs.Inner.Place.{AreLetters}

below_pow : (m : ℕ) → m < 2 ^ m
below_pow zero = omega arith
below_pow (suc m) = omega (arith, below_pow m, pow-suc 2 m)

-- of a mask below 2 ^ n only the first n bits count
pub letters-count : (n m : ℕ) → m < 2 ^ n → letters m ≡ count n (bit m)
unfolding letters
letters-count n m h = go (bool_cases (leb n m))
  where
    high : (k : ℕ) → m < 2 ^ k → (j : ℕ) → k ≤ j → bit m j ≡ false
    high k h j l = let p : 2 ^ k ≤ 2 ^ j = pow_mono l in bit_none m j (omega arith)

    go : (leb n m ≡ true) ⊎ (leb n m ≡ false) → count m (bit m) ≡ count n (bit m)
    go (inl f) =
        let l : n ≤ m = leb-true n m f in
        let e : m ≡ n + (m - n) = omega arith in
        ap (λ (i : ℕ). count i (bit m)) e ∙ count_more n (m - n) (bit m) (high n h)
    go (inr f) =
        let l : m < n = leb-false n m f in
        let e : n ≡ m + (n - m) = omega arith in
        sym (ap (λ (i : ℕ). count i (bit m)) e ∙ count_more m (n - m) (bit m) (high m (below_pow m)))

pub letters_most : (n m : ℕ) → m < 2 ^ n → letters m ≤ n
letters_most n m h = rw (letters-count n m h) (count_most n (bit m))

-- the count of the first n bits by halving, as the code goes
unfoldable pub letters_in : ℕ → ℕ → ℕ
letters_in zero m = 0
letters_in (suc n) m = m % 2 + letters_in n (m / 2)

halving : (n m : ℕ) → count n (bit m) ≡ letters_in n m
unfolding letters_in count
halving zero m = refl
halving (suc n) m =
    count_first n (bit m)
    ∙ ap₂ ◌+◌ (ap digit (bit_zero m) ∙ digit_low m) (count_cong n (λ j. bit m (suc j)) (bit (m / 2)) (λ j _. bit_suc m j) ∙ halving n (m / 2))

pub letters_in_lem : (n m : ℕ) → m < 2 ^ n → letters m ≡ letters_in n m
letters_in_lem n m h = letters-count n m h ∙ halving n m

-- ---- ten letters as twice five: one test of all masks
test : every_below 1024 (λ m. eqb (letters_in 10 m) (letters_in 5 (m % 32) + letters_in 5 (m / 32))) ≡ true
unfolding every_below letters_in
test = refl

letters_halves : (m : ℕ) → m < 1024 → letters m ≡ letters (m % 32) + letters (m / 32)
letters_halves m h =
    letters_in_lem 10 m h ∙ eqb-true _ _ (every_all 1024 _ test m h)
    ∙ sym (ap₂ ◌+◌ (letters_in_lem 5 (m % 32) (omega arith)) (letters_in_lem 5 (m / 32) (omega arith)))

module _ (t : List ℕ) (e : AreLetters t) (m : ℕ) (h : m < 1024) where
  entry : (i : ℕ) → i < 32 → get_or t i 0 ≡ letters i
  entry i l = ap (λ (x : List ℕ). get_or x i 0) e ∙ get_d_listed 32 letters i 0 l

  pub letters_looked_up : {a b : ℕ} → a ≡ get_or t (m % 32) 0 → b ≡ get_or t (m / 32) 0 → (a + b ≡ letters m) × (a + b ≤ 10)
  letters_looked_up {a} {b} ea eb =
      let s : a + b ≡ letters m =
      ap₂ ◌+◌ (ea ∙ entry (m % 32) (omega arith)) (eb ∙ entry (m / 32) (omega arith)) ∙ sym (letters_halves m h) in
      (s, rw s (letters_most 10 m h))
