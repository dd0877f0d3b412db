-- The machine's counts on a word, and what they tell of the points: the number of ones, and the first one. Crossing words keeps their ones,
-- and so does adding three of them up, point by point, if what is carried counts twice.
-- Assumes nothing.
use mathlib.Core.Path.{◌≡◌, refl, sym, ap, ap₂, ◌∙◌}
use mathlib.Core.Bool.{Bool, true, false, ◌&&◌}
use mathlib.Core.List.{List}
use Prim.Native.Nat.{ℕ, zero, suc, ◌+◌, ◌-◌, ◌*◌, ◌/◌, ◌%◌, ◌^◌, ◌≤◌, ◌<◌}
use native.Mathlib.Nat.{pow-suc, zero-div, zero-add, mod-lt}
use native.Mathlib.Decide.{dec_lt}
use native.Mathlib.Omega.{arith}
use lib.Arith.{lt-one}
use lib.Bits.{bit_and, bit_or, bit_xor, and_mask}
use lib.Count.{ones, ones_step, under, count_trailing_zeros}
use lib.ListN.{length, get_or}
use lib.Pow.{pow_mono, pow_pos}
use borrow.Author.Tests.{eq-eqb, ne_eqb}
use mathlib.Core.Logic.{◌≢◌}
use Rattle.ring.specs.Letters.{digit, bit}
use Rattle.ring.specs.Polynomial.{◌⊕◌, count}
use Rattle.ring.specs.Table.{present, table}
use Rattle.ring.specs.Length.{monomial_count}
use Rattle.ring.proofs.Bitwise.{inclusive, and_bit, or_bit, xor_bit}
use Rattle.ring.proofs.Length.{monomials-table}
use Rattle.ring.proofs.Mask.{low}
use Rattle.ring.proofs.Parity.{count_cong, count_first, count_add, count_more}
use Rattle.ring.proofs.Points.{bit_zero, bit_suc, bit_none, digit_low}
use Rattle.words.specs.Inner.Words.{words_of, bit_at, First, crossed, ones_of}
use Rattle.words.proofs.Bits.{low_bit}
use Rattle.words.proofs.Crossing.{crossed_in}
use Rattle.words.proofs.Words.{bit_at_lem, at_known}

-- ---- the number of ones
ones_below : (k n : ℕ) → n < 2 ^ k → ones n ≡ count k (bit n)
unfolding count ones
ones_below zero n h = ap ones (lt-one h)
ones_below (suc k) n h =
    ones_step n
    ∙ ap₂ ◌+◌ (sym (digit_low n) ∙ ap digit (sym (bit_zero n)))
    (ones_below k (n / 2) (omega (arith, pow-suc 2 k)) ∙ count_cong k _ _ (λ i l. sym (bit_suc n i)))
    ∙ sym (count_first k (bit n))

pub ones-count : (n : ℕ) → n < 2 ^ 64 → ones n ≡ ones_of n
ones-count n l = ones_below 64 n l

-- of the first k points
pub ones_front : (v s k m r : ℕ) → s ≡ 2 ^ k → k < 64 → m ≡ s - 1 → r ≡ ones_of (bit_and v m) → r ≡ count k (bit v)
ones_front v s k m r es l em er =
    let e : k + (64 - k) ≡ 64 = omega arith in
    er ∙ ap ones_of (ap (bit_and v) (em ∙ ap (λ (x : ℕ). x - 1) es) ∙ and_mask v k)
    ∙ ap (λ (x : ℕ). count x (bit (v % 2 ^ k))) (sym e)
    ∙ count_more k (64 - k) (bit (v % 2 ^ k)) (λ j h. bit_none (v % 2 ^ k) j (behind j h))
    ∙ count_cong k _ _ (λ i h. low_bit v i k h)
  where
    behind : (j : ℕ) → k ≤ j → v % 2 ^ k < 2 ^ j
    behind j h = let m : 2 ^ k ≤ 2 ^ j = pow_mono h in omega (arith, mod-lt v (pow_pos k))

-- ---- words added up
adder : (a b c : Bool) → digit a + digit b + digit c ≡ digit (a ⊕ b ⊕ c) + 2 * digit (inclusive (a && b) ((a ⊕ b) && c))
adder true true true = refl
adder true true false = refl
adder true false true = refl
adder true false false = refl
adder false true true = refl
adder false true false = refl
adder false false true = refl
adder false false false = refl

adders : (k : ℕ) (a b c : ℕ → Bool)
    → count k a + count k b + count k c
    ≡ count k (λ i. a i ⊕ b i ⊕ c i) + 2 * count k (λ i. inclusive (a i && b i) ((a i ⊕ b i) && c i))
unfolding count
adders zero a b c = refl
adders (suc k) a b c = omega (arith, adders k a b c, adder (a k) (b k) (c k))

-- what three words carry counts twice
pub carried : (a b c : ℕ)
    → ones_of a + ones_of b + ones_of c
    ≡ ones_of (bit_xor (bit_xor a b) c) + 2 * ones_of (bit_or (bit_and a b) (bit_and (bit_xor a b) c))
carried a b c =
    adders 64 (bit a) (bit b) (bit c)
    ∙ sym (ap₂ (λ (x y : ℕ). x + 2 * y)
    (count_cong 64 _ _ (λ i l. xor_bit (bit_xor a b) c i ∙ ap (λ (x : Bool). x ⊕ bit c i) (xor_bit a b i)))
    (count_cong 64 _ _ (λ i l.
    or_bit (bit_and a b) (bit_and (bit_xor a b) c) i
    ∙ ap₂ inclusive (and_bit a b i) (and_bit (bit_xor a b) c i ∙ ap (λ (x : Bool). x && bit c i) (xor_bit a b i)))))

-- .. so that the ones of eight words are those of four: of seven their sum, what is carried, and what that carries, and of the eighth
pub eight_words : (a b c d e f g h first second third fours p q r s : ℕ)
    → (let o : ℕ → ℕ = ones_of in
    let abc : ℕ = bit_xor (bit_xor a b) c in
    let def : ℕ = bit_xor (bit_xor d e) f in
    let all : ℕ = bit_xor (bit_xor abc def) g in
    let twos : ℕ = bit_xor (bit_xor first second) third in
    o a + o b + o c ≡ o abc + 2 * o first → o d + o e + o f ≡ o def + 2 * o second → o abc + o def + o g ≡ o all + 2 * o third
    → o first + o second + o third ≡ o twos + 2 * o fours → p ≡ o all → q ≡ o h → r ≡ o twos → s ≡ o fours
    → p + q + 2 * (r + 2 * s) ≡ o a + o b + o c + o d + o e + o f + o g + o h)
eight_words a b c d e f g h first second third fours p q r s e1 e2 e3 e4 ep eq er es = omega arith

-- ---- several words
pub count-start : (test : ℕ → Bool) (k : ℕ) → k ≡ 0 → 0 ≡ count (64 * k) test
unfolding count
count-start test k e = rw e

pub count_word : (ws : List ℕ) (i : ℕ) → count (64 * (i + 1)) (bit_at ws) ≡ count (64 * i) (bit_at ws) + ones_of (get_or ws i 0)
count_word ws i =
    let n : 64 * (i + 1) ≡ 64 * i + 64 = omega arith in
    ap (λ (x : ℕ). count x (bit_at ws)) n ∙ count_add (64 * i) 64 (bit_at ws)
    ∙ ap (λ (x : ℕ). count (64 * i) (bit_at ws) + x) (count_cong 64 _ _ (λ j m. bit_at_lem ws i j m))

-- every second of sixteen, and the others
pub sixteen_words : (ws : List ℕ) (r s : ℕ)
    → (let at : ℕ → ℕ = λ i. ones_of (get_or ws i 0) in
    r ≡ at 0 + at 2 + at 4 + at 6 + at 8 + at 10 + at 12 + at 14 → s ≡ at 1 + at 3 + at 5 + at 7 + at 9 + at 11 + at 13 + at 15
    → r + s ≡ count (64 * 16) (bit_at ws))
sixteen_words ws r s er es =
    let none = count-start (bit_at ws) 0 refl in
    let more = count_word ws in
    omega (
      arith,
      none,
      more 0,
      more 1,
      more 2,
      more 3,
      more 4,
      more 5,
      more 6,
      more 7,
      more 8,
      more 9,
      more 10,
      more 11,
      more 12,
      more 13,
      more 14,
      more 15,
    )

-- crossed, a word has as many
word_crossed : (h : ℕ → Bool) → count 64 (λ i. h (crossed i)) ≡ count 64 h
unfolding count crossed
word_crossed h = omega arith

count-crossed : (k : ℕ) (h : ℕ → Bool) → count (64 * k) (λ p. h (crossed p)) ≡ count (64 * k) h
unfolding count
count-crossed zero h = refl
count-crossed (suc k) h =
    let n : 64 * suc k ≡ 64 * k + 64 = omega arith in
    rw (n, count_add (64 * k) 64 (λ p. h (crossed p)), count_add (64 * k) 64 h)
    (ap₂ ◌+◌ (count-crossed k h)
    (count_cong 64 _ _ (λ i l. ap h (crossed_in k i l)) ∙ word_crossed (λ i. h (64 * k + i))))

-- ---- tables
-- a table has as many monomials
pub counted : (n r : ℕ) (h : ℕ → Bool) (out : List ℕ) → out ≡ table n h → r ≡ count (2 ^ n) h → r ≡ monomial_count n (present out)
unfolding monomial_count
counted n r h out eo e = e ∙ sym (monomials-table n h) ∙ ap (λ (t : List ℕ). monomial_count n (present t)) (sym eo)

-- .. as the first word has ones
pub counted_few : (n r v : ℕ) (ws out : List ℕ) → n < 6 → out ≡ table n (bit_at ws) → v ≡ get_or ws 0 0 → r ≡ count (2 ^ n) (bit v)
    → r ≡ monomial_count n (present out)
counted_few n r v ws out l eo ev e =
    let m : n ≤ 5 = omega arith in
    let b : 2 ^ n ≤ 2 ^ 5 = pow_mono m in
    counted n r (bit_at ws) out eo
    (e ∙ count_cong (2 ^ n) _ _ (λ p h.
    ap (λ (x : ℕ). bit x p) ev ∙ sym (bit_at_lem ws 0 p (omega arith)) ∙ ap (bit_at ws) (zero-add p)))

-- .. or the crossed words
pub counted-crossed : (n r : ℕ) (ws ws' out : List ℕ) → 64 * length ws ≡ 2 ^ n → ws' ≡ words_of (length ws) (λ p. bit_at ws (crossed p))
    → out ≡ table n (bit_at ws) → r ≡ count (64 * length ws') (bit_at ws') → length ws' ≡ length ws
    → r ≡ monomial_count n (present out)
counted-crossed n r ws ws' out size e eo er el =
    counted n r (bit_at ws) out eo
    (er ∙ ap (λ (k : ℕ). count (64 * k) (bit_at ws')) el
    ∙ count_cong (64 * length ws) _ _ (λ p l. at_known (length ws) (λ p. bit_at ws (crossed p)) ws' e p l)
    ∙ count-crossed (length ws) (bit_at ws) ∙ ap (λ (k : ℕ). count k (bit_at ws)) size)

-- ---- the first one
pub trailing_first : (k n : ℕ) → n < 2 ^ k → 0 < n → (count_trailing_zeros k n < k) × First k (bit n) (count_trailing_zeros k n)
unfolding count_trailing_zeros low
trailing_first zero n l p = absurd (omega arith)
trailing_first (suc k) n l p = go (n % 2) refl (trailing_first k (n / 2) (omega (arith, pow-suc 2 k)))
  where
    go : (d : ℕ) → n % 2 ≡ d → (0 < n / 2 → (count_trailing_zeros k (n / 2) < k) × First k (bit (n / 2)) (count_trailing_zeros k (n / 2)))
        → (under d (count_trailing_zeros k (n / 2)) < suc k) × First (suc k) (bit n) (under d (count_trailing_zeros k (n / 2)))
    go zero e ih =
        let r = ih (omega arith) in (
          omega (arith, r.0),
          record {
            inside = omega (arith, r.0);
            zeros = before r.1.zeros;
            one = λ _. bit_suc n
                (count_trailing_zeros k (n / 2)) ∙ r.1.one r.0;
          },
        )
      where
        before : ((j : ℕ) → j < count_trailing_zeros k (n / 2) → bit (n / 2) j ≡ false) → (j : ℕ) → j < suc (count_trailing_zeros k (n / 2))
            → bit n j ≡ false
        before f zero m = bit_zero n ∙ ne_eqb (n % 2) 1 (omega arith)
        before f (suc j) m = bit_suc n j ∙ f j (omega arith)
    go (suc zero) e ih = (omega arith, record { inside = omega arith; zeros = λ j m. absurd (omega arith); one = λ _. lowest })
      where
        lowest : bit n 0 ≡ true
        lowest = bit_zero n ∙ eq-eqb (n % 2) 1 e
    go (suc (suc d)) e ih = absurd (omega arith)

zero_bit : (j : ℕ) → bit 0 j ≡ false
unfolding bit
zero_bit j = rw (zero-div (2 ^ j))

-- words without ones
none_below : (ws : List ℕ) (i : ℕ) → ((k : ℕ) → k < i → get_or ws k 0 ≡ 0) → (p : ℕ) → p < 64 * i → bit_at ws p ≡ false
unfolding bit_at
none_below ws i none p l = ap (λ (x : ℕ). bit x (p % 64)) (none (p / 64) (omega arith)) ∙ zero_bit (p % 64)

-- the first word that has one
pub first_found : (ws : List ℕ) (i t : ℕ) → i < length ws → ((p : ℕ) → p < 64 * i → bit_at ws p ≡ false) → t < 64
    → First 64 (bit (get_or ws i 0)) t
    → First (64 * length ws) (bit_at ws) (64 * i + t)
first_found ws i t l before h f =
    record { inside = omega arith; zeros = λ p m. go p m (dec_lt p (64 * i)); one = λ _. bit_at_lem ws i t h ∙ f.one h }
  where
    go : (p : ℕ) → p < 64 * i + t → Dec (p < 64 * i) → bit_at ws p ≡ false
    go p m (yes k) = before p k
    go p m (no k) =
        let e : 64 * i + (p - 64 * i) ≡ p = omega (arith, k) in
        ap (bit_at ws) (sym e) ∙ bit_at_lem ws i (p - 64 * i) (omega (arith, k)) ∙ f.zeros (p - 64 * i) (omega (arith, k))

pub first_at : (ws : List ℕ) (i : ℕ) → i < length ws → get_or ws i 0 < 2 ^ 64 → get_or ws i 0 ≢ 0 → ((k : ℕ) → k < i → get_or ws k 0 ≡ 0)
    → First (64 * length ws) (bit_at ws) (64 * i + count_trailing_zeros 64 (get_or ws i 0))
first_at ws i l small some none =
    let first = trailing_first 64 (get_or ws i 0) small (omega (arith, some)) in
    first_found ws i _ l (none_below ws i none) first.0 first.1

pub first_none : (ws : List ℕ) → ((k : ℕ) → k < length ws → get_or ws k 0 ≡ 0) → First (64 * length ws) (bit_at ws) (64 * length ws)
first_none ws none = record { inside = omega arith; zeros = none_below ws (length ws) none; one = λ m. absurd (omega arith) }
