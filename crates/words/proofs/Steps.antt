-- One letter's step between words as the code does it, block by block: the first half of a block stays, and is added to the second.
-- Assumes nothing.
use mathlib.Core.Path.{◌≡◌, refl, sym, ap, ap₂, ◌∙◌}
use mathlib.Core.Bool.{true, false}
use mathlib.Core.List.{List, ◌++◌}
use Prim.Native.Nat.{ℕ, ◌+◌, ◌-◌, ◌*◌, ◌/◌, ◌%◌, ◌^◌, ◌≤◌, ◌<◌}
use native.Mathlib.Nat.{add-mul, one-mul, mul_assoc, mul_comm}
use native.Mathlib.Omega.{arith}
use lib.Dec.{eqb}
use lib.Pow.{high, pow-add}
use lib.ListN.{length, get_or, take, drop, length-drop}
use lib.Seq.{get_or-take, get_or-drop, length-take-le}
use borrow.Rule.Slice.PartMut.{put_mid}
use Rattle.ring.specs.Letters.{bit}
use Rattle.ring.specs.Lists.{listed}
use Rattle.ring.specs.Polynomial.{◌⊕◌}
use Rattle.ring.proofs.Bool.{xor_false}
use Rattle.ring.proofs.Lists.{listed_add, listed_cong, listed_get_d}
use Rattle.tables.proofs.Filled.{filled, filled_high}
use Rattle.words.specs.Inner.Words.{word_of, words_of, bit_at, IsWords, stepped}
use Rattle.words.proofs.Bits.{bit_over}
use Rattle.words.proofs.Words.{word_cong, words_cong, words_listed, words_filled, bit_at_lem, one_word}
use Rattle.words.proofs.Parts.{parts_more, part_fits}

-- the first half of a block added to the second
pub half_added : (block low top top' : List ℕ) (w : ℕ) → low ≡ take w block → top ≡ drop w block → length block ≡ 2 * w
    → top' ≡ words_of (length top) (λ p. bit_at top p ⊕ bit_at low p)
    → low ++ top' ≡ take w block ++ words_of w (λ p. bit_at block (64 * w + p) ⊕ bit_at block p)
unfolding bit_at
half_added block low top top' w el et size e =
    let rest : length top ≡ w = omega (arith, ap length et, length-drop w block) in
    ap₂ (λ (x y : List ℕ). x ++ y) el
    (e ∙ ap (λ (k : ℕ). words_of k (λ p. bit_at top p ⊕ bit_at low p)) rest
    ∙ words_cong w _ _ (λ p l. ap₂ ◌⊕◌ (second p) (first p l)))
  where
    first : (p : ℕ) → p < 64 * w → bit (get_or low (p / 64) 0) (p % 64) ≡ bit (get_or block (p / 64) 0) (p % 64)
    first p l = ap (λ (x : ℕ). bit x (p % 64)) (ap (λ (t : List ℕ). get_or t (p / 64) 0) el ∙ get_or-take w block (p / 64) 0 (omega arith))

    second : (p : ℕ) → bit (get_or top (p / 64) 0) (p % 64) ≡ bit (get_or block ((64 * w + p) / 64) 0) ((64 * w + p) % 64)
    second p =
        let q : (64 * w + p) / 64 ≡ w + p / 64 = omega arith in
        let r : (64 * w + p) % 64 ≡ p % 64 = omega arith in
        rw (q, r) (ap (λ (x : ℕ). bit x (p % 64)) (ap (λ (t : List ℕ). get_or t (p / 64) 0) et ∙ get_or-drop w block (p / 64) 0))

-- word i after letter 6 + j's step
abbrev pub step_of : ℕ → List ℕ → ℕ → ℕ
step_of j xs i = word_of (λ m. stepped (bit_at xs) (6 + j) (64 * i + m))

-- the block b of letter 6 + j
module _ (j b w : ℕ) (xs : List ℕ) (ew : w ≡ 2 ^ j) where
  start_lem : b * (2 * w) ≡ 2 * b * 2 ^ j
  start_lem = sym (mul_assoc b 2 w) ∙ ap₂ (λ (x y : ℕ). x * y) (mul_comm b 2) ew

  first_clear : (i : ℕ) → i < w → bit (b * (2 * w) + i) j ≡ false
  unfolding bit
  first_clear i h =
      let l : i < 2 ^ j = omega arith in
      rw (start_lem, high (2 * b) j l) (ap (λ (x : ℕ). eqb x 1) even)
    where
      even : 2 * b % 2 ≡ 0
      even = omega arith

  second_set : (i : ℕ) → i < w → bit (b * (2 * w) + (w + i)) j ≡ true
  unfolding bit
  second_set i h =
      let l : i < 2 ^ j = omega arith in
      let s : b * (2 * w) + (w + i) ≡ (2 * b + 1) * 2 ^ j + i = omega (arith, start_lem, add-mul (2 * b) 1 (2 ^ j), one-mul (2 ^ j)) in
      rw (s, high (2 * b + 1) j l) (ap (λ (x : ℕ). eqb x 1) odd)
    where
      odd : (2 * b + 1) % 2 ≡ 1
      odd = omega arith

  stays : (i m : ℕ) → i < w → m < 64 → stepped (bit_at xs) (6 + j) (64 * (b * (2 * w) + i) + m) ≡ bit_at xs (64 * (b * (2 * w) + i) + m)
  unfolding stepped
  stays i m h l = rw (bit_over j (b * (2 * w) + i) m l, first_clear i h) (xor_false _)

  adds : (i m : ℕ) → i < w → m < 64
      → stepped (bit_at xs) (6 + j) (64 * (b * (2 * w) + (w + i)) + m)
      ≡ (bit_at xs (64 * (b * (2 * w) + (w + i)) + m) ⊕ bit_at xs (64 * (b * (2 * w) + i) + m))
  unfolding stepped
  adds i m h l =
      let d : 64 * (b * (2 * w) + (w + i)) + m - 2 ^ (6 + j) ≡ 64 * (b * (2 * w) + i) + m = omega (arith, pow-add 2 6 j) in
      rw (bit_over j (b * (2 * w) + (w + i)) m l, second_set i h, d)

  module _ (t : List ℕ) (room : b * (2 * w) + 2 * w ≤ length xs) (is : IsWords (length xs) xs) (et : t ≡ filled (b * (2 * w)) (step_of j xs) xs) where
    abbrev s : ℕ
    s = b * (2 * w)

    abbrev block : List ℕ
    block = take (s + 2 * w - s) (drop s t)

    read : (i : ℕ) → i < 2 * w → get_or block i 0 ≡ get_or xs (s + i) 0
    read i h =
        get_or-take (s + 2 * w - s) (drop s t) i 0 (omega arith) ∙ get_or-drop s t i 0 ∙ ap (λ (l : List ℕ). get_or l (s + i) 0) et
        ∙ filled_high s (step_of j xs) xs (s + i) (omega arith) (omega arith)

    bits : (i m : ℕ) → i < 2 * w → m < 64 → bit_at block (64 * i + m) ≡ bit_at xs (64 * (s + i) + m)
    bits i m h l = bit_at_lem block i m l ∙ ap (λ (x : ℕ). bit x m) (read i h) ∙ sym (bit_at_lem xs (s + i) m l)

    pub block_more : (ys : List ℕ) → length block ≡ 2 * w → ys ≡ take w block ++ words_of w (λ p. bit_at block (64 * w + p) ⊕ bit_at block p)
        → put_mid s (s + 2 * w - s) t ys ≡ filled ((b + 1) * (2 * w)) (step_of j xs) xs
    block_more ys size e =
        let two : w + w ≡ 2 * w = omega arith in
        parts_more b (2 * w) (step_of j xs) xs t ys et
        (e ∙ ap₂ (λ (x y : List ℕ). x ++ y)
        (sym (listed_get_d (take w block)) ∙ ap (λ (k : ℕ). listed k (λ i. get_or (take w block) i 0)) (length-take-le w block (omega arith))
        ∙ listed_cong w _ _ (λ i h.
        get_or-take w block i 0 h ∙ read i (omega arith) ∙ one_word (length xs) xs (s + i) is (omega arith)
        ∙ word_cong _ _ (λ m l. sym (stays i m h l))))
        (sym (words_listed w (λ i. step_of j xs (s + (w + i))) _ (λ i h. word_cong _ _ (λ m l.
        let p : 64 * w + (64 * i + m) ≡ 64 * (w + i) + m = omega arith in
        adds i m h l ∙ sym (ap₂ ◌⊕◌ (ap (bit_at block) p ∙ bits (w + i) m (omega arith) l) (bits i m (omega arith) l))))))
        ∙ sym (listed_add w w (λ i. step_of j xs (s + i))) ∙ ap (λ (k : ℕ). listed k (λ i. step_of j xs (s + i))) two)

-- all blocks
module _ (j c w blocks : ℕ) (ew : w ≡ 2 ^ j) (eb : blocks ≡ 2 ^ (c - j - 1)) (h : j < c) where
  pub whole_blocks : 2 ^ c ≡ blocks * (2 * w)
  whole_blocks =
      let e : c - j - 1 + (1 + j) ≡ c = omega arith in
      sym (ap (λ (k : ℕ). 2 ^ k) e) ∙ pow-add 2 (c - j - 1) (1 + j) ∙ ap₂ (λ (x y : ℕ). x * y) (sym eb) (pow-add 2 1 j ∙ ap (λ (x : ℕ). 2 * x) (sym ew))

  pub block_room : (b : ℕ) → b < blocks → b * (2 * w) + 2 * w ≤ 2 ^ c
  block_room b l = part_fits blocks (2 * w) b (2 * w) (2 ^ c) refl l whole_blocks

  pub blocks_done : (b : ℕ) (xs t : List ℕ) → b ≡ blocks → length xs ≡ 2 ^ c → t ≡ filled (b * (2 * w)) (step_of j xs) xs
      → t ≡ words_of (2 ^ c) (stepped (bit_at xs) (6 + j))
  blocks_done b xs t e size et =
      let all : b * (2 * w) ≡ length xs = ap (λ (x : ℕ). x * (2 * w)) e ∙ sym (size ∙ whole_blocks) in
      words_filled (2 ^ c) (stepped (bit_at xs) (6 + j)) xs t (b * (2 * w)) size et (omega arith) (omega arith)
