-- Blocks of words at the front of a stack: the loops that fill one, what the first k words of a stack then are, and which values the
-- words have that the readers put there and join.
-- Assumes nothing.
use mathlib.Core.Path.{◌≡◌, refl, sym, ap, ap₂, ◌∙◌}
use mathlib.Core.Bool.{Bool, true, false, ◌&&◌, cond}
use mathlib.Core.Logic.{⊎_elim}
use mathlib.Core.List.{List, [], ◌++◌, append-nil}
use Prim.Native.Nat.{ℕ, ◌+◌, ◌-◌, ◌*◌, ◌/◌, ◌%◌, ◌^◌, ◌≤◌, ◌<◌}
use native.Mathlib.Omega.{arith}
use borrow.Author.Tests.{eqb-true}
use lib.Bits.{bit_and, bit_or, bit_xor, and_lt, or_lt, xor_lt}
use lib.Dec.{eqb}
use lib.ListN.{length, get_or, drop, take, get_or-append, drop_of_length-le}
use lib.Seq.{take_at, length-take-le, get_or-take, get_or-append-add}
use Rattle.ring.specs.Letters.{bit}
use Rattle.ring.specs.Lists.{listed}
use Rattle.ring.specs.Polynomial.{◌⊕◌}
use Rattle.ring.proofs.Bool.{or_cases}
use Rattle.ring.proofs.Bitwise.{inclusive, and_bit, or_bit, xor_bit}
use Rattle.ring.proofs.Lists.{length-listed, get_d_listed, listed_cong, listed_get_d}
use Rattle.tables.proofs.Filled.{filled, length-filled}
use Rattle.grammar.specs.Symbols.{plus_sign, or_sign, is_single}
use Rattle.grammar.specs.Grammar.{Tree, constant, negation, times}
use Rattle.grammar.specs.Meaning.{at_point}
use Rattle.grammar.specs.Reader.{is, joins_sum, joined}
use Rattle.words.specs.Inner.Words.{words_of, low_letters}
use Rattle.words.proofs.Words.{word_is, word_lt, word_bit, word_cong}
use Rattle.words.proofs.Turned.{low_letter, high_letter}
use Rattle.parser.specs.Inner.Codes.{meant}
use Rattle.parser.specs.Inner.Blocks.{ones, word_at, sum_of, paired}
use Rattle.parser.proofs.Codes.{sum_sign}

-- ---- what `put_each` puts in the place of the first k words
pub made_front : (k : ℕ) (xs t : List ℕ) (h : ℕ → ℕ) → k ≤ length xs → length t ≡ length (take k xs) → ((i : ℕ) → i < k → get_or t i 0 ≡ h i)
    → t ++ drop k xs ≡ filled k h xs
unfolding filled
made_front k xs t h room size each =
    let long : length t ≡ k = size ∙ length-take-le k xs room in
    ap (λ (l : List ℕ). l ++ drop k xs)
    (sym (listed_get_d t) ∙ ap (λ (n : ℕ). listed n (λ i. get_or t i 0)) long ∙ listed_cong k _ _ each)

-- the first k words alone, and what stood behind them
pub filled_apart : (k : ℕ) (h : ℕ → ℕ) (xs first new : List ℕ) {behind : List ℕ} → length first ≡ k → behind ≡ drop k xs → new ≡ filled k h first
    → new ++ behind ≡ filled k h xs
unfolding filled
filled_apart k h xs first new size eb e =
    let none : drop k first ≡ [] = drop_of_length-le first {i = k} (omega arith) in
    rw (e, none, append-nil, eb)

-- ---- what stands at the front
pub front_filled : (k : ℕ) (f : ℕ → ℕ) (xs : List ℕ) → take k (filled k f xs) ≡ listed k f
unfolding filled
front_filled k f xs = take_at (listed k f) (drop k xs) k (length-listed k f)

pub front_word : (k : ℕ) (f : ℕ → ℕ) (a : List ℕ) (i : ℕ) → take k a ≡ listed k f → i < k → get_or a i 0 ≡ f i
front_word k f a i e l = sym (get_or-take k a i 0 l) ∙ ap (λ (t : List ℕ). get_or t i 0) e ∙ get_d_listed k f i 0 l

-- the words of values, put in the place of the first block
pub front_values : (k : ℕ) (h : ℕ → Bool) (f : ℕ → ℕ) (xs new : List ℕ) → new ≡ filled k f xs → ((w : ℕ) → w < k → f w ≡ word_at h w)
    → take k new ≡ words_of k h
unfolding words_of word_at
front_values k h f xs new e each = ap (take k) e ∙ front_filled k f xs ∙ listed_cong k f _ each

-- the second block joined to the first
module _ (op : ℕ → ℕ → ℕ) (k : ℕ) (g h : ℕ → Bool) (a b : List ℕ) (ea : take k a ≡ words_of k g) (eb : take k b ≡ words_of k h) where
  first : (i : ℕ) → i < k → get_or (take k a ++ b) i 0 ≡ word_at g i
  unfolding words_of word_at
  first i l =
      rw ea (get_or-append (listed k (word_at g)) b 0 i (omega (arith, length-listed k (word_at g))) ∙ get_d_listed k (word_at g) i 0 l)

  second : (i : ℕ) → i < k → get_or (take k a ++ b) (k + i) 0 ≡ word_at h i
  unfolding words_of word_at
  second i l =
      rw ea (ap (λ (n : ℕ). get_or (listed k (word_at g) ++ b) (n + i) 0) (sym (length-listed k (word_at g)))
      ∙ get_or-append-add (listed k (word_at g)) b i 0)
      ∙ front_word k (word_at h) b i eb l

  pub front_joined : (both : ℕ → Bool) (new : List ℕ) → new ≡ filled k (paired op k (take k a ++ b)) (take k a ++ b)
      → ((w : ℕ) → op (word_at g w) (word_at h w) ≡ word_at both w) → take k new ≡ words_of k both
  unfolding paired
  front_joined both new e each = front_values k both _ _ new e (λ i l. ap₂ op (first i l) (second i l) ∙ each i)

pub size-filled : (k : ℕ) (f : ℕ → ℕ) (xs new : List ℕ) → new ≡ filled k f xs → k ≤ length xs → length new ≡ length xs
size-filled k f xs new e h = ap length e ∙ length-filled k f xs h

-- ---- words joined bit by bit
module _ (op : ℕ → ℕ → ℕ) (g : Bool → Bool → Bool) (bits : (a b i : ℕ) → bit (op a b) i ≡ g (bit a i) (bit b i))
    (small : (a b : ℕ) → a < 2 ^ 64 → b < 2 ^ 64 → op a b < 2 ^ 64) where
  by_bits : (f h : ℕ → Bool) (w : ℕ) → op (word_at f w) (word_at h w) ≡ word_at (λ p. g (f p) (h p)) w
  unfolding word_at
  by_bits f h w = word_is _ _ (small _ _ (word_lt _) (word_lt _)) (λ i l. bits _ _ i ∙ ap₂ g (word_bit _ i l) (word_bit _ i l))

pub times_word : (U : ℕ) (e f : Tree) (w : ℕ)
    → bit_and (word_at (at_point U e) w) (word_at (at_point U f) w) ≡ word_at (at_point U (times e f)) w
unfolding at_point
times_word U e f w = by_bits bit_and ◌&&◌ and_bit (and_lt 64) (at_point U e) (at_point U f) w

plus_word : (f h : ℕ → Bool) (w : ℕ) → bit_xor (word_at f w) (word_at h w) ≡ word_at (λ p. f p ⊕ h p) w
plus_word f h w = by_bits bit_xor ◌⊕◌ xor_bit (xor_lt 64) f h w

either_word : (f h : ℕ → Bool) (w : ℕ) → bit_or (word_at f w) (word_at h w) ≡ word_at (λ p. inclusive (f p) (h p)) w
either_word f h w = by_bits bit_or inclusive or_bit (or_lt 64) f h w

-- the signs of sums
pub sum_word : (x : ℕ) → joins_sum (meant x) ≡ true → (U : ℕ) (e f : Tree) (w : ℕ)
    → sum_of x (word_at (at_point U e) w) (word_at (at_point U f) w) ≡ word_at (at_point U (joined (is or_sign (meant x)) e f)) w
unfolding sum_of at_point meant is_single
sum_word x t U e f w =
    ⊎_elim (λ q. rw (eqb-true x plus_sign q) (plus_word (at_point U e) (at_point U f) w))
    (λ q. rw (eqb-true x or_sign q) (either_word (at_point U e) (at_point U f) w))
    (or_cases (eqb x plus_sign) (eqb x or_sign) (sym (sum_sign x) ∙ t))

-- ---- what a factor of one symbol puts there
constant_word : (b : Bool) (w : ℕ) → cond b ones 0 ≡ word_at (λ p. b) w
unfolding word_at bit
constant_word true w = high_letter 6 1 true (omega arith) refl ∙ word_cong _ _ (λ i l. rw (over i l))
  where
    over : (i : ℕ) → i < 64 → (64 * 1 + i) / 2 ^ 6 % 2 ≡ 1
    over i l = omega arith
constant_word false w = high_letter 6 0 false (omega arith) refl ∙ word_cong _ _ (λ i l. rw (over i l))
  where
    over : (i : ℕ) → i < 64 → (64 * 0 + i) / 2 ^ 6 % 2 ≡ 0
    over i l = omega arith

module _ (U k : ℕ) (a new : List ℕ) where
  pub constant-values : (b : Bool) → new ≡ filled k (λ i. cond b ones 0) a
      → take k new ≡ words_of k (at_point U (constant b))
  unfolding at_point
  constant-values b e = front_values k (λ p. b) _ a new e (λ w l. constant_word b w)

  -- the complement of the first block
  pub negation_values : (t : Tree) → take k a ≡ words_of k (at_point U t) → new ≡ filled k (λ i. bit_xor (get_or a i 0) ones) a
      → take k new ≡ words_of k (at_point U (negation t))
  unfolding at_point words_of word_at
  negation_values t ea e =
      front_values k (at_point U (negation t)) _ a new e
      (λ w l. ap₂ bit_xor (front_word k (word_at (at_point U t)) a w ea l) (constant_word true w)
      ∙ plus_word (at_point U t) (λ p. true) w)

-- a letter
pub low_word : (j w word : ℕ) → j < 6 → word ≡ get_or low_letters j 0 → word ≡ word_at (λ p. bit p j) w
unfolding word_at
low_word j w word l ew = ew ∙ low_letter j w l

pub high_word : (j w : ℕ) (b : Bool) → 6 ≤ j → eqb (w / 2 ^ (j - 6) % 2) 1 ≡ b → cond b ones 0 ≡ word_at (λ p. bit p j) w
unfolding word_at
high_word j w b h e = high_letter j w b h e
