-- Bytes that are 0 or 1: the code's operations on them as the ring's, and question 8 by the union of all bytes.
-- Assumes nothing.
use mathlib.Core.Path.{◌≡◌, refl, sym, ap, ◌∙◌}
use mathlib.Core.Bool.{Bool, true, ◌&&◌, and-true, and_assoc}
use mathlib.Core.List.{List, [], ◌∷◌, ◌++◌}
use Prim.Native.Nat.{ℕ, zero, suc, ◌+◌, ◌≤◌, ◌<◌}
use native.Mathlib.Numerals.{add-one}
use native.Mathlib.Decide.{dec_lt}
use native.Mathlib.Omega.{arith}
use lib.Dec.{eqb, leb}
use lib.Bits.{bit_or, bit_xor, or_lt, or_add_and, and_le_l, and_le_r}
use lib.ListN.{length, get_or, take, drop, length-take, get_or-eq_default}
use lib.Seq.{take-suc, take-length, get_or-take, get_or-drop}
use borrow.Author.Tests.{le-leb, leb-true}
use Rattle.ring.specs.Letters.{digit}
use Rattle.ring.specs.Polynomial.{◌⊕◌}
use Rattle.ring.specs.Table.{AreBits}
use Rattle.ring.proofs.Bool.{bool_iff, and_left, and_right, both}
use Rattle.tables.specs.Questions.{are_bits}

pub xor_bytes : (a b : ℕ) → a < 2 → b < 2 → bit_xor a b ≡ digit (eqb a 1 ⊕ eqb b 1)
xor_bytes zero zero ha hb = refl
xor_bytes zero (suc zero) ha hb = refl
xor_bytes zero (suc (suc b)) ha hb = absurd (omega arith)
xor_bytes (suc zero) zero ha hb = refl
xor_bytes (suc zero) (suc zero) ha hb = refl
xor_bytes (suc zero) (suc (suc b)) ha hb = absurd (omega arith)
xor_bytes (suc (suc a)) b ha hb = absurd (omega arith)

pub byte_digit : (a : ℕ) → a < 2 → a ≡ digit (eqb a 1)
byte_digit zero h = refl
byte_digit (suc zero) h = refl
byte_digit (suc (suc a)) h = absurd (omega arith)

-- a union of bytes is at most 1 exactly if both are
pub or_one : (a b : ℕ) → leb (bit_or a b) 1 ≡ (leb a 1 && leb b 1)
or_one a b =
    bool_iff (leb (bit_or a b) 1) (leb a 1 && leb b 1)
    (λ e.
    let h : bit_or a b ≤ 1 = leb-true _ _ e in
    let ha : a ≤ 1 = omega (arith, or_add_and a b, and_le_r a b) in
    let hb : b ≤ 1 = omega (arith, or_add_and a b, and_le_l a b) in
    both (le-leb _ _ ha) (le-leb _ _ hb))
    (λ e.
    let ha : a ≤ 1 = leb-true _ _ (and_left (leb a 1) (leb b 1) e) in
    let hb : b ≤ 1 = leb-true _ _ (and_right (leb a 1) (leb b 1) e) in
    let h : bit_or a b ≤ 1 = omega (arith, or_lt 1 a b (omega arith) (omega arith)) in
    le-leb _ _ h)

bits_snoc : (xs : List ℕ) (x : ℕ) → are_bits (xs ++ (x ∷ [])) ≡ (are_bits xs && leb x 1)
unfolding are_bits
bits_snoc [] x = and-true (leb x 1)
bits_snoc (y ∷ xs) x = ap (λ (p : Bool). leb y 1 && p) (bits_snoc xs x) ∙ sym (and_assoc (leb y 1) (are_bits xs) (leb x 1))

pub bits_more : (s : List ℕ) (union i : ℕ) → i < length s → leb union 1 ≡ are_bits (take i s)
    → leb (bit_or union (get_or s i 0)) 1 ≡ are_bits (take (i + 1) s)
bits_more s union i l e = or_one union (get_or s i 0) ∙ rw (e, add-one, take-suc s i 0 l) (sym (bits_snoc (take i s) (get_or s i 0)))

pub bits_end : (s : List ℕ) (union i : ℕ) → i ≤ length s → length s ≤ i → leb union 1 ≡ are_bits (take i s) → leb union 1 ≡ are_bits s
bits_end s union i h l e = let n : i ≡ length s = omega arith in e ∙ rw (n, take-length)

-- what question 8 tells
pub are_bits_lem : (t : List ℕ) → are_bits t ≡ true → AreBits t
unfolding are_bits
are_bits_lem [] e i = omega arith
are_bits_lem (b ∷ t) e zero = omega (arith, leb-true b 1 (and_left (leb b 1) (are_bits t) e))
are_bits_lem (b ∷ t) e (suc i) = are_bits_lem t (and_right (leb b 1) (are_bits t) e) i

-- and what a yes to it needs
pub bits_are : (t : List ℕ) → AreBits t → are_bits t ≡ true
unfolding are_bits
bits_are [] h = refl
bits_are (b ∷ t) h = both (le-leb b 1 (omega (arith, h 0))) (bits_are t (λ i. h (suc i)))

-- a part of bytes that are 0 or 1
pub bits_drop : (k : ℕ) (t : List ℕ) → AreBits t → AreBits (drop k t)
bits_drop k t bits i = rw (get_or-drop k t i 0) (bits (k + i))

pub bits_take : (k : ℕ) (t : List ℕ) → AreBits t → AreBits (take k t)
bits_take k t bits i = go (dec_lt i k)
  where
    go : Dec (i < k) → get_or (take k t) i 0 < 2
    go (yes l) = rw (get_or-take k t i 0 l) (bits i)
    go (no l) = let h : length (take k t) ≤ i = omega (arith, length-take k t) in rw (get_or-eq_default (take k t) 0 h) (omega arith)
