-- The value of a sum and of a product; the values of the values are the coefficients.
-- Assumes nothing.
use mathlib.Core.Path.{◌≡◌, refl, sym, ap, ap₂, ◌∙◌}
use mathlib.Core.Bool.{Bool, false, ◌&&◌, and_assoc}
use Prim.Native.Nat.{ℕ, ◌^◌, ◌<◌}
use lib.Dec.{eqb}
use lib.Bits.{bit_or, or_lt}
use Rattle.ring.specs.Polynomial.{Polynomial, ◌⊕◌, odd, within, value, sum, product}
use Rattle.ring.proofs.Bool.{xor_and, ac}
use Rattle.ring.proofs.Parity.{odd_cong, odd_none, odd_xor, odd_and, odd_and_r, odd_swap, odd_at}
use Rattle.ring.proofs.Mask.{eqb_iff, within_or, between}

pub value_cong : (n : ℕ) (f g : ℕ → Bool) (p : ℕ) → ((m : ℕ) → m < 2 ^ n → f m ≡ g m) → value n f p ≡ value n g p
unfolding value
value_cong n f g p e = odd_cong (2 ^ n) _ _ (λ m l. ap (λ (x : Bool). x && within m p) (e m l))

pub value_none : (n p : ℕ) → value n (λ m. false) p ≡ false
unfolding value
value_none n p = odd_none (2 ^ n) (λ m. false) (λ m l. refl)

pub value-sum : (n : ℕ) (f g : ℕ → Bool) (p : ℕ) → value n (sum f g) p ≡ (value n f p ⊕ value n g p)
unfolding value sum
value-sum n f g p =
    odd_cong (2 ^ n) _ _ (λ m l. xor_and (f m) (g m) (within m p)) ∙ odd_xor (2 ^ n) (λ m. f m && within m p) (λ m. g m && within m p)

regroup : (a b c d : Bool) → (((a && b) && c) && d) ≡ (((a && b) && d) && c)
regroup a b c d = simp ac

shuffle : (a b c d : Bool) → ((a && b) && (c && d)) ≡ ((a && c) && (b && d))
shuffle a b c d = simp ac

eqb_sym : (a b : ℕ) → eqb a b ≡ eqb b a
eqb_sym a b = eqb_iff a b b a sym sym

-- both factors of a product of two sums
odd-odd : (k : ℕ) (g h : ℕ → Bool) → odd k (λ i. odd k (λ j. g i && h j)) ≡ (odd k g && odd k h)
odd-odd k g h = odd_cong k _ _ (λ i l. odd_and k (g i) h) ∙ odd_and_r k (odd k h) g

pub value-product : (n : ℕ) (f g : ℕ → Bool) (p : ℕ) → value n (product n f g) p ≡ (value n f p && value n g p)
unfolding value product
value-product n f g p =
    let N : ℕ = 2 ^ n in
    -- the masks m go inside
    odd_cong N _ _ (λ m _. sym (odd_and_r N (within m p) (λ i. odd N (λ j. (f i && g j) && eqb (bit_or i j) m))))
    ∙ odd_swap N N (λ m i. odd N (λ j. (f i && g j) && eqb (bit_or i j) m) && within m p)
    ∙ odd_cong N _ _ (λ i li.
    odd_cong N _ _ (λ m _. sym (odd_and_r N (within m p) (λ j. (f i && g j) && eqb (bit_or i j) m)))
    ∙ odd_swap N N (λ m j. ((f i && g j) && eqb (bit_or i j) m) && within m p)
    ∙ odd_cong N _ _ (λ j lj.
    odd_cong N _ _ (λ m _. regroup (f i) (g j) (eqb (bit_or i j) m) (within m p))
    ∙ odd_at N (bit_or i j) (λ m. (f i && g j) && within m p) (or_lt n i j li lj)
    ∙ ap (λ (x : Bool). (f i && g j) && x) (within_or i j p)
    ∙ shuffle (f i) (g j) (within i p) (within j p)))
    ∙ odd-odd N (λ i. f i && within i p) (λ j. g j && within j p)

pub product_cong : (n : ℕ) (f f' g g' : Polynomial) → ((m : ℕ) → m < 2 ^ n → f m ≡ f' m) → ((m : ℕ) → m < 2 ^ n → g m ≡ g' m)
    → (m : ℕ) → product n f g m ≡ product n f' g' m
unfolding product
product_cong n f f' g g' ef eg m =
    odd_cong (2 ^ n) _ _ (λ i li. odd_cong (2 ^ n) _ _ (λ j lj. ap₂ (λ (x y : Bool). (x && y) && eqb (bit_or i j) m) (ef i li) (eg j lj)))

pub involution : (n : ℕ) (f : ℕ → Bool) (p : ℕ) → p < 2 ^ n → value n (value n f) p ≡ f p
unfolding value
involution n f p h =
    let N : ℕ = 2 ^ n in
    odd_cong N _ _ (λ m _. sym (odd_and_r N (within m p) (λ i. f i && within i m)))
    ∙ odd_swap N N (λ m i. (f i && within i m) && within m p)
    ∙ odd_cong N _ _ (λ i li.
    odd_cong N _ _ (λ m _. and_assoc (f i) (within i m) (within m p))
    ∙ odd_and N (f i) (λ m. within i m && within m p)
    ∙ ap (λ (x : Bool). f i && x) (between n i p li h ∙ eqb_sym i p))
    ∙ odd_at N p f h

-- two polynomials with the same values are the same
pub same_values : (n : ℕ) (f g : ℕ → Bool) → ((p : ℕ) → p < 2 ^ n → value n f p ≡ value n g p) → (m : ℕ) → m < 2 ^ n → f m ≡ g m
same_values n f g e m h = sym (involution n f m h) ∙ value_cong n _ _ m e ∙ involution n g m h

-- a product by values: values, multiply point by point, values back
pub product_by_values : (n : ℕ) (f g : ℕ → Bool) (m : ℕ) → m < 2 ^ n → product n f g m ≡ value n (λ p. value n f p && value n g p) m
product_by_values n f g m h = sym (involution n (product n f g) m h) ∙ value_cong n _ _ m (λ p l. value-product n f g p)
