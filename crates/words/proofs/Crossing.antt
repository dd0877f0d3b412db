-- Words crossed, their three lowest letters and the next three exchanged: so bytes go into words and back eight at a time.
-- Assumes nothing.
use mathlib.Core.Path.{◌≡◌, refl, sym, ap, ap₂, ◌∙◌}
use mathlib.Core.Bool.{Bool, true, false, not, ◌&&◌, cond, and_comm, and-false, beq, true≢false}
use mathlib.Core.List.{List}
use Prim.Native.Nat.{ℕ, zero, suc, ◌+◌, ◌-◌, ◌*◌, ◌/◌, ◌%◌, ◌^◌, ◌≤◌, ◌<◌}
use native.Mathlib.Decide.{dec_lt}
use native.Mathlib.Nat.{mod-lt, mul_comm, mul-one, zero-add, sub-zero, pow-suc, add-zero}
use native.Mathlib.Omega.{arith}
use lib.Dec.{eqb, ltb, leb}
use lib.Bits.{bit_and, bit_xor, and_le_r, xor_lt}
use lib.ListN.{length, get_or, take, drop, get_or-eq_default}
use lib.Pow.{pow_pos, pow_mono, pow-add}
use lib.Seq.{get_or-take, get_or-drop}
use borrow.Author.Tests.{eqb-true, ltb-true, le-leb, lt-leb}
use Rattle.ring.specs.Letters.{digit, bit, point_where}
use Rattle.ring.specs.Lists.{listed}
use Rattle.ring.specs.Polynomial.{◌⊕◌, every_below}
use Rattle.ring.specs.Table.{present, AreBits, tabulate, table}
use Rattle.ring.proofs.Bool.{same_bool, digit_lt}
use Rattle.ring.proofs.Bitwise.{and_bit, xor_bit}
use Rattle.ring.proofs.Every.{every_all}
use Rattle.std.specs.Int.{w64, from_le_bytes}
use Rattle.ring.proofs.Lists.{tabulate-listed, listed_cong}
use Rattle.ring.proofs.Points.{bit_none, same_letters}
use Rattle.ring.proofs.Table.{tabulate_cong}
use Rattle.tables.proofs.Bits.{byte_digit}
use Rattle.words.specs.Inner.Words.{word_of, words_of, bit_at, crossed, eight_of}
use Rattle.words.proofs.Bits.{shl_bit, shr_bit, shl_none}
use Rattle.words.proofs.Words.{word_bit, word_is, word_cong, words_cong, size_words, bit_at_lem, at_known}
use Rattle.words.proofs.Packing.{small_size}
use Rattle.words.proofs.Letters.{room}
use Rattle.words.proofs.Holds.{Holds, word_holds, also_holds}

-- ---- points
crossed_digits : (w a b : ℕ) → a < 8 → b < 8 → crossed (w * 64 + a * 8 + b) ≡ w * 64 + b * 8 + a
unfolding crossed
crossed_digits w a b la lb =
    let x : (w * 64 + a * 8 + b) / 64 ≡ w = omega arith in
    let y : (w * 64 + a * 8 + b) % 8 ≡ b = omega arith in
    let z : (w * 64 + a * 8 + b) / 8 ≡ w * 8 + a = omega arith in
    let o : (w * 8 + a) % 8 ≡ a = omega arith in
    rw (x, y, z, o)

pub crossed_twice : (p : ℕ) → crossed (crossed p) ≡ p
unfolding crossed
crossed_twice p =
    let e : p / 64 * 64 + p / 8 % 8 * 8 + p % 8 ≡ p = omega arith in
    crossed_digits (p / 64) (p % 8) (p / 8 % 8) (omega arith) (omega arith) ∙ e

pub crossed_lt : (k p : ℕ) → p < 64 * k → crossed p < 64 * k
unfolding crossed
crossed_lt k p l = omega arith

pub crossed_in : (w i : ℕ) → i < 64 → crossed (64 * w + i) ≡ 64 * w + crossed i
unfolding crossed
crossed_in w i l =
    let x : (64 * w + i) / 64 ≡ w = omega arith in
    let y : (64 * w + i) % 8 ≡ i % 8 = omega arith in
    let z : (64 * w + i) / 8 ≡ 8 * w + i / 8 = omega arith in
    let c : (8 * w + i / 8) % 8 ≡ i / 8 % 8 = omega arith in
    let o : i / 64 ≡ 0 = omega arith in
    rw (x, y, z, c, o) (omega arith)

-- ---- bytes into a crossed word
all_rows : (x : ℕ → Bool)
    → ((((((eight_of x 56 * 2 + eight_of x 48) * 2 + eight_of x 40) * 2 + eight_of x 32) * 2 + eight_of x 24) * 2 + eight_of x 16) * 2 + eight_of x 8) * 2 + eight_of x 0
    ≡ word_of (λ i. x (crossed i))
unfolding word_of point_where crossed eight_of
all_rows x = omega arith

-- the bytes as they are read
pub eight_read : (t bytes : List ℕ) (p : ℕ) → AreBits t → p + 8 ≤ length t → bytes ≡ take (p + 8 - p) (drop p t)
    → (from_le_bytes w64 bytes ≡ eight_of (present t) p) × (from_le_bytes w64 bytes ≤ 0x0101_0101_0101_0101)
unfolding eight_of present
eight_read t bytes p bits fits e =
    let sum : from_le_bytes w64 bytes
    ≡ get_or bytes 0 0 + get_or bytes 1 0 * 0x100 + get_or bytes 2 0 * 0x1_0000 + get_or bytes 3 0 * 0x100_0000 + get_or bytes 4 0 * 0x1_0000_0000
    + get_or bytes 5 0 * 0x100_0000_0000 + get_or bytes 6 0 * 0x1_0000_0000_0000 + get_or bytes 7 0 * 0x100_0000_0000_0000 = refl in
    rw sum (rw (read 0 (omega arith), read 1 (omega arith), read 2 (omega arith), read 3 (omega arith), read 4 (omega arith), read 5 (omega arith), read 6 (omega arith), read 7 (omega arith), add-zero) (
      omega (arith, at p, at (p + 1), at (p + 2), at (p + 3), at (p + 4), at (p + 5), at (p + 6), at (p + 7)),
      omega (arith, bits p, bits (p + 1), bits (p + 2), bits (p + 3), bits (p + 4), bits (p + 5), bits (p + 6), bits (p + 7)),
    ))
  where
    at : (i : ℕ) → get_or t i 0 ≡ digit (eqb (get_or t i 0) 1)
    at i = byte_digit (get_or t i 0) (bits i)

    read : (i : ℕ) → i < 8 → get_or bytes i 0 ≡ get_or t (p + i) 0
    read i l = ap (λ (x : List ℕ). get_or x i 0) e ∙ get_or-take (p + 8 - p) (drop p t) i 0 (omega arith) ∙ get_or-drop p t i 0

-- eight rows of eight bytes, the last first
pub rows_word : (x : ℕ → Bool) (a b c d e f g h : ℕ) → a ≡ eight_of x 56 → b ≡ eight_of x 48 → c ≡ eight_of x 40 → d ≡ eight_of x 32
    → e ≡ eight_of x 24 → f ≡ eight_of x 16 → g ≡ eight_of x 8 → h ≡ eight_of x 0
    → ((((((a * 2 + b) * 2 + c) * 2 + d) * 2 + e) * 2 + f) * 2 + g) * 2 + h ≡ word_of (λ i. x (crossed i))
rows_word x a b c d e f g h ea eb ec ed ee ef eg eh = rw (ea, eb, ec, ed, ee, ef, eg, eh) (all_rows x)

-- k such rows from row j on
unfoldable pub rows_from : (ℕ → Bool) → ℕ → ℕ → ℕ
rows_from x j zero = 0
rows_from x j (suc k) = rows_from x (suc j) k * 2 + eight_of x (j * 8)

eight_most : (x : ℕ → Bool) (p : ℕ) → eight_of x p ≤ 0x0101_0101_0101_0101
unfolding eight_of
eight_most x p =
    omega (
      arith,
      digit_lt (x p),
      digit_lt (x (p + 1)),
      digit_lt (x (p + 2)),
      digit_lt (x (p + 3)),
      digit_lt (x (p + 4)),
      digit_lt (x (p + 5)),
      digit_lt (x (p + 6)),
      digit_lt (x (p + 7)),
    )

rows_most : (x : ℕ → Bool) (j k : ℕ) → rows_from x j k + 0x0101_0101_0101_0101 ≤ 0x0101_0101_0101_0101 * 2 ^ k
unfolding rows_from
rows_most x j zero = omega arith
rows_most x j (suc k) = omega (arith, eight_most x (j * 8), rows_most x (suc j) k, pow-suc 2 k)

-- rows behind the last byte add nothing
rows_none : (x : ℕ → Bool) (j k : ℕ) → ((p : ℕ) → j * 8 ≤ p → x p ≡ false) → rows_from x j k ≡ 0
unfolding rows_from eight_of
rows_none x j zero h = refl
rows_none x j (suc k) h =
    rw (
      h (j * 8) (omega arith),
      h (j * 8 + 1) (omega arith),
      h (j * 8 + 2) (omega arith),
      h (j * 8 + 3) (omega arith),
      h (j * 8 + 4) (omega arith),
      h (j * 8 + 5) (omega arith),
      h (j * 8 + 6) (omega arith),
      h (j * 8 + 7) (omega arith),
      rows_none x (suc j) k (λ p l. h p (omega arith)),
    )

rows_enough : (x : ℕ → Bool) (j k m : ℕ) → k ≤ m → ((p : ℕ) → (j + k) * 8 ≤ p → x p ≡ false) → rows_from x j k ≡ rows_from x j m
unfolding rows_from
rows_enough x j zero m l h = sym (rows_none x j m (λ p b. h p (omega arith)))
rows_enough x j (suc k) zero l h = absurd (omega arith)
rows_enough x j (suc k) (suc m) l h =
    ap (λ (r : ℕ). r * 2 + eight_of x (j * 8)) (rows_enough x (suc j) k m (omega arith) (λ p b. h p (omega arith)))

rows_whole : (x : ℕ → Bool) → rows_from x 0 8 ≡ word_of (λ i. x (crossed i))
unfolding word_of point_where crossed eight_of rows_from
rows_whole x = omega arith

-- one row after another, from the last on
pub rows_start : (x : ℕ → Bool) (k : ℕ) → 0 ≡ rows_from x k (k - k)
unfolding rows_from
rows_start x k = let z : k - k ≡ 0 = omega arith in rw z refl

module _ (x : ℕ → Bool) (k j v : ℕ) (e : v ≡ rows_from x j (k - j)) (pos : 0 < j) (few : k ≤ 8) where
  -- a further row fits into the word
  pub rows_bound : v * 2 + 0x0101_0101_0101_0101 < 2 ^ 64
  rows_bound =
      let few : k - j ≤ 7 = omega arith in
      let most : 2 ^ (k - j) ≤ 2 ^ 7 = pow_mono few in
      omega (arith, e, rows_most x j (k - j))

  pub rows_next : (w : ℕ) → j ≤ k → w ≡ eight_of x ((j - 1) * 8) → v * 2 + w ≡ rows_from x (j - 1) (k - (j - 1))
  unfolding rows_from
  rows_next w l ew =
      let s : k - (j - 1) ≡ suc (k - j) = omega arith in
      let i : suc (j - 1) ≡ j = omega arith in
      rw (s, i) (ap₂ (λ (a b : ℕ). a * 2 + b) e ew)

pub rows_end : (t : List ℕ) (k j v : ℕ) → v ≡ rows_from (present t) j (k - j) → j ≡ 0 → k ≤ 8 → length t ≡ k * 8
    → v ≡ word_of (λ i. present t (crossed i))
unfolding present
rows_end t k j v e z few size =
    let s : k - j ≡ k = omega arith in
    e ∙ ap₂ (rows_from (present t)) z s
    ∙ rows_enough (present t) 0 k 8 few (λ p l. ap (λ (y : ℕ). eqb y 1) (get_or-eq_default t 0 (omega arith)))
    ∙ rows_whole (present t)

-- a crossed word crossed back
pub word_back : (h : ℕ → Bool) (v w : ℕ) → v ≡ word_of (λ i. h (crossed i)) → w ≡ word_of (λ i. bit v (crossed i)) → w ≡ word_of h
word_back h v w e e' =
    e' ∙ word_cong _ _ (λ i l.
    ap (λ (y : ℕ). bit y (crossed i)) e ∙ word_bit _ (crossed i) (omega (arith, crossed_lt 1 i (omega arith))) ∙ ap h (crossed_twice i))

pub part_crossed : (t : List ℕ) (start d w v : ℕ) → start ≡ 64 * w → d ≡ 64 → v ≡ word_of (λ i. present (take d (drop start t)) (crossed i))
    → v ≡ word_of (λ i. present t (crossed (64 * w + i)))
unfolding present
part_crossed t start d w v es ed e =
    e ∙ word_cong _ _ (λ i m.
    ap (λ (x : ℕ). eqb x 1)
    (get_or-take d (drop start t) (crossed i) 0 (omega (arith, crossed_lt 1 i m)) ∙ get_or-drop start t (crossed i) 0
    ∙ ap (λ (x : ℕ). get_or t x 0) (ap (λ (x : ℕ). x + crossed i) es ∙ sym (crossed_in w i m))))

-- ---- the code's way to cross a word
-- the bits of the mask change places with those s higher
abbrev pub exchange : ℕ → ℕ → ℕ → ℕ
exchange s m v = bit_xor (bit_xor v (bit_and (bit_xor v (v / 2 ^ s)) m)) (bit_and (bit_xor v (v / 2 ^ s)) m * 2 ^ s % 2 ^ 64)

exchanged : ℕ → ℕ → ℕ → ℕ
exchanged s m i = cond (bit m i) (s + i) (cond (leb s i && bit m (i - s)) (i - s) i)

apart : ℕ → ℕ → ℕ → Bool
apart s m i = not (bit m i && (leb s i && bit m (i - s)))

up : (x y : Bool) → (x ⊕ (x ⊕ y)) ⊕ false ≡ y
up true true = refl
up true false = refl
up false true = refl
up false false = refl

down : (x z : Bool) → (x ⊕ false) ⊕ (z ⊕ x) ≡ z
down true true = refl
down true false = refl
down false true = refl
down false false = refl

stays : (x : Bool) → (x ⊕ false) ⊕ false ≡ x
stays true = refl
stays false = refl

module _ (v s m i : ℕ) (l : i < 64) (ls : s < 64) where
  abbrev moved : ℕ
  moved = bit_and (bit_xor v (v / 2 ^ s)) m

  moved_bit : (j : ℕ) → bit moved j ≡ (bit m j && (bit v j ⊕ bit v (s + j)))
  moved_bit j =
      and_bit (bit_xor v (v / 2 ^ s)) m j ∙ and_comm (bit (bit_xor v (v / 2 ^ s)) j) (bit m j)
      ∙ ap (λ (b : Bool). bit m j && b) (xor_bit v (v / 2 ^ s) j ∙ ap (λ (b : Bool). bit v j ⊕ b) (shr_bit v s j))

  raised_bit : bit (moved * 2 ^ s % 2 ^ 64) i ≡ (leb s i && (bit m (i - s) && (bit v (i - s) ⊕ bit v i)))
  raised_bit = go (dec_lt i s)
    where
      go : Dec (i < s) → bit (moved * 2 ^ s % 2 ^ 64) i ≡ (leb s i && (bit m (i - s) && (bit v (i - s) ⊕ bit v i)))
      go (yes h) = rw (lt-leb s i h) (shl_none moved s i 64 h (omega arith))
      go (no h) =
          let k : s ≤ i = omega (arith, h) in
          let e : s + (i - s) ≡ i = omega arith in
          rw (le-leb s i k)
          (shl_bit moved s i 64 k l ∙ moved_bit (i - s) ∙ ap (λ (j : ℕ). bit m (i - s) && (bit v (i - s) ⊕ bit v j)) e)

  exchange_bit : apart s m i ≡ true → bit (exchange s m v) i ≡ bit v (exchanged s m i)
  unfolding apart exchanged
  exchange_bit h =
      xor_bit (bit_xor v moved) (moved * 2 ^ s % 2 ^ 64) i
      ∙ ap₂ ◌⊕◌ (xor_bit v moved i ∙ ap (λ (b : Bool). bit v i ⊕ b) (moved_bit i)) raised_bit
      ∙ go (bit m i) (leb s i) (bit m (i - s)) h
    where
      go : (M L K : Bool) → not (M && (L && K)) ≡ true
          → ((bit v i ⊕ (M && (bit v i ⊕ bit v (s + i)))) ⊕ (L && (K && (bit v (i - s) ⊕ bit v i))))
          ≡ bit v (cond M (s + i) (cond (L && K) (i - s) i))
      go true true true h = absurd (true≢false (sym h))
      go true true false h = up (bit v i) (bit v (s + i))
      go true false K h = up (bit v i) (bit v (s + i))
      go false true true h = down (bit v i) (bit v (i - s))
      go false true false h = stays (bit v i)
      go false false K h = stays (bit v i)

exchange_lt : (s m v : ℕ) → m < 2 ^ 64 → v < 2 ^ 64 → exchange s m v < 2 ^ 64
exchange_lt s m v lm lv =
    xor_lt 64 _ _ (xor_lt 64 v _ lv (and_lt_r (bit_xor v (v / 2 ^ s)))) (mod-lt (bit_and (bit_xor v (v / 2 ^ s)) m * 2 ^ s) (pow_pos 64))
  where
    and_lt_r : (x : ℕ) → bit_and x m < 2 ^ 64
    and_lt_r x = omega (arith, and_le_r x m)

pub cross_word : (v : ℕ) → v < 2 ^ 64
    → exchange 28 0x0000_0000_f0f0_f0f0 (exchange 14 0x0000_cccc_0000_cccc (exchange 7 0x00aa_00aa_00aa_00aa v))
    ≡ word_of (λ i. bit v (crossed i))
unfolding apart exchanged every_below bit crossed
cross_word v l =
    word_is _ _ (exchange_lt 28 _ _ (omega arith) (exchange_lt 14 _ _ (omega arith) (exchange_lt 7 _ v (omega arith) l))) (λ i k.
    let j : ℕ = exchanged 28 0x0000_0000_f0f0_f0f0 i in
    let h : ℕ = exchanged 14 0x0000_cccc_0000_cccc j in
    let lj : j < 64 = ltb-true _ _ (every_all 64 (λ i. ltb (exchanged 28 0x0000_0000_f0f0_f0f0 i) 64) refl i k) in
    let lh : h < 64 = ltb-true _ _ (every_all 64 (λ i. ltb (exchanged 14 0x0000_cccc_0000_cccc i) 64) refl j lj) in
    exchange_bit _ 28 0x0000_0000_f0f0_f0f0 i k (omega arith) (every_all 64 (apart 28 0x0000_0000_f0f0_f0f0) refl i k)
    ∙ exchange_bit _ 14 0x0000_cccc_0000_cccc j lj (omega arith) (every_all 64 (apart 14 0x0000_cccc_0000_cccc) refl j lj)
    ∙ exchange_bit v 7 0x00aa_00aa_00aa_00aa h lh (omega arith) (every_all 64 (apart 7 0x00aa_00aa_00aa_00aa) refl h lh)
    ∙ ap (bit v) (eqb-true _ _
    (every_all 64 (λ i. eqb (exchanged 7 0x00aa_00aa_00aa_00aa (exchanged 14 0x0000_cccc_0000_cccc (exchanged 28 0x0000_0000_f0f0_f0f0 i)))
    (crossed i)) refl i k)))

-- ---- words
pub cross_holds : (xs : List ℕ) (w v : ℕ) → v ≡ word_of (λ b. bit (get_or xs w 0) (crossed b)) → Holds v (λ b. bit_at xs (crossed (64 * w + b)))
cross_holds xs w v ev =
    also_holds (word_holds v _ ev) (λ b k.
    sym (bit_at_lem xs w (crossed b) (crossed_lt 1 b k)) ∙ ap (bit_at xs) (sym (crossed_in w b k)))

-- words gathered crossed, and crossed again
pub crossed_back : (k m : ℕ) (h : ℕ → Bool) (ws ws' : List ℕ) → m ≡ k → ws ≡ words_of m (λ p. h (crossed p))
    → ws' ≡ words_of (length ws) (λ p. bit_at ws (crossed p))
    → ws' ≡ words_of k h
crossed_back k m h ws ws' em e e' =
    e' ∙ ap (λ (x : ℕ). words_of x (λ p. bit_at ws (crossed p))) (size_words m (λ p. h (crossed p)) ws e ∙ em)
    ∙ words_cong k _ _ (λ p l. at_known m (λ p. h (crossed p)) ws e (crossed p) (rw em (crossed_lt k p l)) ∙ ap h (crossed_twice p))

-- ---- a crossed word into bytes
crossed_small : (j i : ℕ) → j < 8 → i < 8 → crossed (j * 8 + i) ≡ j + 8 * i
unfolding crossed
crossed_small j i lj li =
    let x : (j * 8 + i) / 64 ≡ 0 = omega arith in
    let y : (j * 8 + i) % 8 ≡ i = omega arith in
    let z : (j * 8 + i) / 8 ≡ j = omega arith in
    let o : j % 8 ≡ j = omega arith in
    rw (x, y, z, o) (omega arith)

lowest : ℕ → Bool
lowest zero = true
lowest (suc k) = false

lows : ℕ → ℕ → Bool
lows i k = beq (eqb (0x0101_0101_0101_0101 / 2 ^ (8 * i + k) % 2) 1) (lowest k)

-- byte i of the word that the code makes
row_byte : (v j i : ℕ) → j < 8 → i < 8 → bit_and (v / 2 ^ j) 0x0101_0101_0101_0101 / 2 ^ (8 * i) % 256 ≡ digit (bit v (crossed (j * 8 + i)))
unfolding lows lowest every_below bit
row_byte v j i lj li =
    rw (crossed_small j i lj li) (same_letters 8 _ _ (mod-lt (x / 2 ^ (8 * i)) (pow_pos 8)) (small (bit v (j + 8 * i))) bits)
  where
    x : ℕ
    x = bit_and (v / 2 ^ j) 0x0101_0101_0101_0101

    small : (b : Bool) → digit b < 2 ^ 8
    small true = omega arith
    small false = omega arith

    low_of : (b : Bool) (k : ℕ) → (b && lowest k) ≡ bit (digit b) k
    low_of true zero = refl
    low_of false zero = refl
    low_of true (suc k) = sym (bit_none 1 (suc k) (omega (arith, pow-suc 2 k, pow_pos k)))
    low_of false (suc k) = sym (bit_none 0 (suc k) (pow_pos (suc k)))

    sums : (k : ℕ) → k < 8 → (bit v (j + (8 * i + k)) && lowest k) ≡ (bit v (j + 8 * i) && lowest k)
    sums zero l = ap (λ (y : ℕ). bit v y && true) (flat j i)
      where
        flat : (j i : ℕ) → j + (8 * i + 0) ≡ j + 8 * i
        flat j i = omega arith
    sums (suc k) l = and-false (bit v (j + (8 * i + suc k))) ∙ sym (and-false (bit v (j + 8 * i)))

    bits : (k : ℕ) → k < 8 → bit (x / 2 ^ (8 * i) % 2 ^ 8) k ≡ bit (digit (bit v (j + 8 * i))) k
    bits k l =
        ap (λ (y : ℕ). bit (y % 2 ^ 8) k) (sym (mul-one (x / 2 ^ (8 * i))))
        ∙ shl_bit (x / 2 ^ (8 * i)) 0 k 8 (omega arith) l ∙ ap (bit (x / 2 ^ (8 * i))) (sub-zero k)
        ∙ shr_bit x (8 * i) k
        ∙ and_bit (v / 2 ^ j) 0x0101_0101_0101_0101 (8 * i + k)
        ∙ ap₂ ◌&&◌ (shr_bit v j (8 * i + k)) (same_bool _ _ (every_all 8 (lows i) (every_all 8 (λ i. every_below 8 (lows i)) refl i li) k l))
        ∙ sums k l
        ∙ low_of (bit v (j + 8 * i)) k

pub row_listed : (v j : ℕ) (ys : List ℕ) → j < 8 → ys ≡ listed 8 (λ i. bit_and (v / 2 ^ j) 0x0101_0101_0101_0101 / 2 ^ (8 * i) % 256)
    → ys ≡ listed 8 (λ i. digit (bit v (crossed (j * 8 + i))))
row_listed v j ys l e = e ∙ listed_cong 8 _ _ (λ i k. row_byte v j i l k)

-- the points of one word among those of all, and their bytes
word_point : (words : List ℕ) (w v i : ℕ) → v ≡ get_or words w 0 → i < 64 → bit v (crossed i) ≡ bit_at words (crossed (w * 64 + i))
word_point words w v i ev l =
    ap (λ (x : ℕ). bit x (crossed i)) ev ∙ sym (bit_at_lem words w (crossed i) (crossed_lt 1 i l))
    ∙ ap (bit_at words) (sym (crossed_in w i l) ∙ ap (λ (x : ℕ). crossed (x + i)) (mul_comm 64 w))

pub word_listed : (words : List ℕ) (w v k : ℕ) (ys : List ℕ) → v ≡ get_or words w 0 → k ≡ 64 → ys ≡ tabulate k (λ p. bit v (crossed p))
    → ys ≡ listed 64 (λ i. digit (bit_at words (crossed (w * 64 + i))))
word_listed words w v k ys ev ek e =
    e ∙ ap (λ (x : ℕ). tabulate x (λ p. bit v (crossed p))) ek ∙ tabulate-listed 64 (λ p. bit v (crossed p))
    ∙ listed_cong 64 _ _ (λ i l. ap digit (word_point words w v i ev l))

-- words crossed, and then their bytes
pub large_bytes : (n : ℕ) (ws ws' out out' : List ℕ) → length ws ≡ 2 ^ (n - 6) → length out ≡ 2 ^ n
    → ws' ≡ words_of (length ws) (λ p. bit_at ws (crossed p))
    → out' ≡ tabulate (length out) (λ p. bit_at ws' (crossed p)) → out' ≡ table n (bit_at ws)
unfolding table
large_bytes n ws ws' out out' size all e eo =
    eo ∙ tabulate_cong (length out) _ _
    (λ p l. at_known (length ws) (λ p. bit_at ws (crossed p)) ws' e (crossed p) (crossed_lt (length ws) p (omega (arith, room n)))
    ∙ ap (bit_at ws) (crossed_twice p))
    ∙ ap (λ (x : ℕ). tabulate x (bit_at ws)) all

pub small_bytes : (n v : ℕ) (ws ws' out out' : List ℕ) → n < 6 → length ws ≡ 2 ^ (n - 6) → length out ≡ 2 ^ n
    → ws' ≡ words_of (length ws) (λ p. bit_at ws (crossed p))
    → v ≡ get_or ws' 0 0 → out' ≡ tabulate (length out) (λ p. bit v (crossed p)) → out' ≡ table n (bit_at ws)
small_bytes n v ws ws' out out' h size all e ev eo =
    let few : length out ≤ 64 = small_size n out h all in
    large_bytes n ws ws' out out' size all e
    (eo ∙ tabulate_cong (length out) _ _ (λ p l.
    word_point ws' 0 v p ev (omega arith) ∙ ap (λ (x : ℕ). bit_at ws' (crossed x)) (zero-add p)))

pub eights : (n k : ℕ) (out : List ℕ) → k ≡ 2 ^ (n - 3) → 3 ≤ n → n < 6 → length out ≡ 2 ^ n → (k ≤ 8) × (length out ≡ k * 8)
eights n k out ek l h size =
    let m : n - 3 ≤ 3 = omega arith in
    let b : 2 ^ (n - 3) ≤ 2 ^ 3 = pow_mono m in
    let e : n - 3 + 3 ≡ n = omega arith in
    (omega arith, size ∙ ap (λ (x : ℕ). 2 ^ x) (sym e) ∙ pow-add 2 (n - 3) 3 ∙ ap (λ (x : ℕ). x * 8) (sym ek))
