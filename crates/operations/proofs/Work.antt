-- The value of a table by the loops over its masks.
-- Assumes nothing.
use mathlib.Core.Path.{◌≡◌, sym, ap, ap₂, ◌∙◌}
use mathlib.Core.Bool.{Bool, true, not, ◌&&◌, beq, and_comm, and_assoc}
use mathlib.Core.List.{List, ◌++◌}
use Prim.Native.Nat.{ℕ, zero, suc, ◌+◌, ◌-◌, ◌*◌, ◌/◌, ◌%◌, ◌^◌, ◌≤◌, ◌<◌}
use native.Mathlib.Nat.{add-zero, add-suc}
use native.Mathlib.Numerals.{add-one}
use native.Mathlib.Omega.{arith}
use lib.Dec.{eqb}
use lib.Bits.{bit_and, and_block, and_le_l, and_zero_l, and_mask}
use lib.ListN.{length, get_or, get_or-append, length-append}
use lib.Pow.{pow_mono, pow-add}
use lib.Seq.{get_or-append-add}
use borrow.Author.Tests.{eq-eqb, eqb-true}
use Rattle.ring.specs.Letters.{digit}
use Rattle.ring.specs.Polynomial.{Polynomial, ◌⊕◌, odd, within, value}
use Rattle.ring.specs.Table.{present}
use Rattle.ring.proofs.Bool.{xor_code, xor_assoc, xor_false, bool_iff, and_left, and_right}
use Rattle.ring.proofs.Parity.{odd_zero, odd_suc, odd_cong, odd_and_r}

-- one more mask
pub parity_more : (test : ℕ → Bool) (m : ℕ) (o r : Bool) → o ≡ odd m test → r ≡ test m → not (beq o r) ≡ odd (m + 1) test
parity_more test m o r p q = rw (add-one m) (xor_code o r ∙ ap₂ ◌⊕◌ p q ∙ sym (odd_suc m test))

-- the six lowest letters of a mask and the others
within_block : (w i p : ℕ) → i < 64 → within (w * 64 + i) p ≡ (within w (p / 64) && within i (p % 64))
unfolding within
within_block w i p l =
    let a : ℕ = bit_and w (p / 64) in
    let b : ℕ = bit_and i (p % 64) in
    let le : b ≤ i = and_le_l i (p % 64) in
    let whole : p / 64 * 64 + p % 64 ≡ p = omega arith in
    let both : bit_and (w * 64 + i) p ≡ a * 64 + b =
    ap (bit_and (w * 64 + i)) (sym whole) ∙ and_block 6 w (p / 64) i (p % 64) l (omega arith) in
    ap (λ (x : ℕ). eqb x (w * 64 + i)) both
    ∙ bool_iff (eqb (a * 64 + b) (w * 64 + i)) (eqb a w && eqb b i)
    (λ e.
    let f : a * 64 + b ≡ w * 64 + i = eqb-true (a * 64 + b) (w * 64 + i) e in
    ap₂ ◌&&◌ (eq-eqb a w (omega arith)) (eq-eqb b i (omega arith)))
    (λ e.
    let f : a ≡ w = eqb-true a w (and_left (eqb a w) (eqb b i) e) in
    let g : b ≡ i = eqb-true b i (and_right (eqb a w) (eqb b i) e) in
    eq-eqb (a * 64 + b) (w * 64 + i) (omega arith))

within_low : (i p : ℕ) → i < 64 → within i (p % 64) ≡ within i p
unfolding within
within_low i p l =
    let e : 0 * 64 + i ≡ i = omega arith in
    let none : eqb (bit_and 0 (p / 64)) 0 ≡ true = eq-eqb _ _ (and_zero_l (p / 64)) in
    sym (ap (λ (b : Bool). b && within i (p % 64)) none) ∙ sym (within_block 0 i p l) ∙ ap (λ (x : ℕ). within x p) e

odd_add : (a b : ℕ) (test : ℕ → Bool) → odd (a + b) test ≡ odd a test ⊕ odd b (λ i. test (a + i))
odd_add a zero test = rw (add-zero a, odd_zero (λ i. test (a + i))) (sym (xor_false (odd a test)))
odd_add a (suc b) test =
    rw (add-suc a b)
    (odd_suc (a + b) test ∙ ap (λ (x : Bool). x ⊕ test (a + b)) (odd_add a b test)
    ∙ xor_assoc (odd a test) (odd b (λ i. test (a + i))) (test (a + b))
    ∙ ap (λ (x : Bool). odd a test ⊕ x) (sym (odd_suc b (λ i. test (a + i)))))

regroup : (a b c : Bool) → (a && (b && c)) ≡ ((a && c) && b)
regroup a b c = ap (λ (x : Bool). a && x) (and_comm b c) ∙ sym (and_assoc a c b)

pub parts_length : (rest block left : List ℕ) → rest ≡ block ++ left → length rest ≡ length block + length left
parts_length rest block left parts = ap length parts ∙ length-append block left

-- one more block of masks: what is left of the table is that block, and what is left behind it
module _ (t rest block left : List ℕ) (w : ℕ) (there : (i : ℕ) → get_or rest i 0 ≡ get_or t (w * 64 + i) 0) (parts : rest ≡ block ++ left)
    (size : length block ≡ 64) where
  pub there_next : (i : ℕ) → get_or left i 0 ≡ get_or t ((w + 1) * 64 + i) 0
  there_next i =
      let at : w * 64 + (length block + i) ≡ (w + 1) * 64 + i = omega (arith, size) in
      sym (get_or-append-add block left i 0) ∙ ap (λ (l : List ℕ). get_or l (length block + i) 0) (sym parts) ∙ there (length block + i)
      ∙ ap (λ (x : ℕ). get_or t x 0) at

  block_byte : (i : ℕ) → i < 64 → get_or block i 0 ≡ get_or t (w * 64 + i) 0
  block_byte i l =
      sym (get_or-append block left 0 i (omega (arith, size))) ∙ ap (λ (x : List ℕ). get_or x i 0) (sym parts) ∙ there i

  pub block_more : (p low : ℕ) (o r : Bool) → o ≡ odd (w * 64) (λ m. present t m && within m p) → low ≡ bit_and p 63
      → r ≡ odd (length block) (λ m. present block m && within m low)
      → not (beq o (r && eqb (bit_and w (p / 2 ^ 6)) w)) ≡ odd ((w + 1) * 64) (λ m. present t m && within m p)
  unfolding present within
  block_more p low o r eo el er =
      let next : (w + 1) * 64 ≡ w * 64 + 64 = omega arith in
      let six : low ≡ p % 64 = el ∙ and_mask p 6 in
      rw next
      (xor_code o (r && within w (p / 64))
      ∙ ap₂ ◌⊕◌ eo
      (ap (λ (x : Bool). x && within w (p / 64)) (er ∙ ap (λ (x : ℕ). odd x (λ m. present block m && within m low)) size)
      ∙ sym (odd_and_r 64 (within w (p / 64)) (λ m. present block m && within m low))
      ∙ odd_cong 64 _ _ (λ i l.
      ap₂ (λ (x y : Bool). (x && y) && within w (p / 64))
      (ap (λ (x : ℕ). eqb x 1) (block_byte i l))
      (ap (within i) six)
      ∙ sym (regroup (eqb (get_or t (w * 64 + i) 0) 1) (within w (p / 64)) (within i (p % 64)))
      ∙ ap (λ (x : Bool). eqb (get_or t (w * 64 + i) 0) 1 && x) (sym (within_block w i p l))))
      ∙ sym (odd_add (w * 64) 64 (λ m. present t m && within m p)))

-- all masks, and the result as a byte
pub parity_end : (n k : ℕ) (f : Polynomial) (p v : ℕ) (o : Bool) → k ≡ 2 ^ n → o ≡ odd k (λ i. f i && within i p) → v ≡ digit o
    → v ≡ digit (value n f p)
unfolding value
parity_end n k f p v o e q h = h ∙ ap digit (q ∙ ap (λ (x : ℕ). odd x (λ i. f i && within i p)) e)

-- the same of fewer than six letters
pub parity_few : (n k : ℕ) (f : Polynomial) (p low v : ℕ) (o : Bool) → n < 6 → k ≡ 2 ^ n → low ≡ bit_and p 63
    → o ≡ odd k (λ i. f i && within i low) → v ≡ digit o
    → v ≡ digit (value n f p)
parity_few n k f p low v o l e el q h =
    let m : n ≤ 6 = omega arith in
    let few : 2 ^ n ≤ 2 ^ 6 = pow_mono m in
    parity_end n k f p v o e
    (q ∙ odd_cong k _ _ (λ i j. ap (λ (x : Bool). f i && x) (ap (within i) (el ∙ and_mask p 6) ∙ within_low i p (omega arith)))) h

pub few_masks : (n : ℕ) (t : List ℕ) → n < 6 → length t ≡ 2 ^ n → length t ≤ 64
few_masks n t l e =
    let m : n ≤ 6 = omega arith in
    let few : 2 ^ n ≤ 2 ^ 6 = pow_mono m in
    omega arith

pub whole_blocks : (n : ℕ) (t : List ℕ) → 6 ≤ n → length t ≡ 2 ^ n → length t % 64 ≡ 0
whole_blocks n t l e =
    let s : n - 6 + 6 ≡ n = omega arith in
    let f : length t ≡ 2 ^ (n - 6) * 64 = e ∙ ap (λ (x : ℕ). 2 ^ x) (sym s) ∙ pow-add 2 (n - 6) 6 in
    omega arith
