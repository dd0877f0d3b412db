-- What a word holds, by the operators that made it, so that a proof of a store goes down the code's own expression;
-- and loops that answer words from the front.
-- Assumes nothing.
use mathlib.Core.Path.{◌≡◌, refl, sym, ap, ap₂, ◌∙◌}
use mathlib.Core.Bool.{Bool, true, false, ◌&&◌, beq, cond}
use mathlib.Core.List.{List}
use Prim.Native.Nat.{ℕ, ◌+◌, ◌*◌, ◌/◌, ◌%◌, ◌^◌, ◌<◌}
use native.Mathlib.Omega.{arith}
use lib.Dec.{eqb}
use lib.Bits.{bit_and, bit_xor, and_lt, xor_lt}
use lib.ListN.{length, get_or, set}
use Rattle.ring.specs.Letters.{bit}
use Rattle.ring.specs.Lists.{listed}
use Rattle.ring.specs.Polynomial.{◌⊕◌, every_below}
use Rattle.ring.proofs.Bool.{same_bool}
use Rattle.ring.proofs.Every.{every_all}
use Rattle.ring.proofs.Lists.{listed_get_d}
use Rattle.ring.proofs.Bitwise.{and_bit, xor_bit}
use Rattle.tables.proofs.Filled.{filled, filled_more}
use Rattle.words.specs.Inner.Words.{word_of, words_of}
use Rattle.words.proofs.Words.{word_is, word_lt, word_bit, words_listed}

-- the machine word v has the bits h
pub record Holds (v : ℕ) (h : ℕ → Bool) : Type 0 where
  pub small : v < 2 ^ 64
  pub bits : (i : ℕ) → i < 64 → bit v i ≡ h i

-- any word, one that is known, and one that is read
pub own_holds : (v : ℕ) → v < 2 ^ 64 → Holds v (bit v)
own_holds v l = record { small = l; bits = λ i _. refl }

pub word_holds : (v : ℕ) (h : ℕ → Bool) → v ≡ word_of h → Holds v h
word_holds v h e = record { small = rw e (word_lt h); bits = λ i l. ap (λ (x : ℕ). bit x i) e ∙ word_bit h i l }

-- the operators
pub and_holds : {v w : ℕ} {g h : ℕ → Bool} → Holds v g → Holds w h → Holds (bit_and v w) (λ i. g i && h i)
and_holds {v} {w} a b =
    record { small = and_lt 64 v w a.small b.small; bits = λ i l. and_bit v w i ∙ ap₂ ◌&&◌ (a.bits i l) (b.bits i l) }

pub xor_holds : {v w : ℕ} {g h : ℕ → Bool} → Holds v g → Holds w h → Holds (bit_xor v w) (λ i. g i ⊕ h i)
xor_holds {v} {w} a b =
    record { small = xor_lt 64 v w a.small b.small; bits = λ i l. xor_bit v w i ∙ ap₂ ◌⊕◌ (a.bits i l) (b.bits i l) }

-- one value at all points
pub constant_holds : (b : Bool) (v : ℕ) → v ≡ cond b 0xffff_ffff_ffff_ffff 0 → Holds v (λ i. b)
unfolding bit every_below
constant_holds true v e =
    record {
      small = rw e (omega arith);
      bits = λ i l. ap (λ (x : ℕ). eqb (x / 2 ^ i % 2) 1) e
          ∙ every_all 64 (λ i. eqb (0xffff_ffff_ffff_ffff / 2 ^ i % 2) 1) refl i l;
    }
constant_holds false v e =
    record {
      small = rw e (omega arith);
      bits = λ i l. ap (λ (x : ℕ). eqb (x / 2 ^ i % 2) 1) e
          ∙ same_bool _ _ (every_all 64 (λ i. beq (eqb (0 / 2 ^ i % 2) 1) false) refl i l);
    }

-- the same word, seen otherwise
pub also_holds : {v : ℕ} {g h : ℕ → Bool} → Holds v g → ((i : ℕ) → i < 64 → g i ≡ h i) → Holds v h
also_holds a e = record { small = a.small; bits = λ i l. a.bits i l ∙ e i l }

pub holds_word : (v : ℕ) (h : ℕ → Bool) → Holds v h → v ≡ word_of h
holds_word v h a = word_is v h a.small a.bits

-- ---- loops that answer words from the front
-- the first i words hold the values h, the rest as before
abbrev pub words_to : ℕ → (ℕ → Bool) → List ℕ → List ℕ
words_to i h xs = filled i (λ w. word_of (λ b. h (64 * w + b))) xs

pub words_more : (h : ℕ → Bool) (xs t : List ℕ) (i v : ℕ) → t ≡ words_to i h xs → i < length xs → Holds v (λ b. h (64 * i + b))
    → set t i v ≡ words_to (i + 1) h xs
words_more h xs t i v e l a = filled_more i (λ w. word_of (λ b. h (64 * w + b))) xs t e v l (holds_word v (λ b. h (64 * i + b)) a)

-- a list that holds h word by word
pub words_by : (h : ℕ → Bool) (k : ℕ) (t : List ℕ) → length t ≡ k → ((w : ℕ) → w < k → Holds (get_or t w 0) (λ b. h (64 * w + b))) → t ≡ words_of k h
words_by h k t e a =
    sym (listed_get_d t) ∙ ap (λ (x : ℕ). listed x (λ w. get_or t w 0)) e
    ∙ words_listed k (λ w. get_or t w 0) h (λ w l. holds_word (get_or t w 0) (λ b. h (64 * w + b)) (a w l))

-- the same, point by point, of a list that is known to be of machine words
pub words_each : (h : ℕ → Bool) (k : ℕ) (t : List ℕ) → length t ≡ k → ((w : ℕ) → w < k → get_or t w 0 < 2 ^ 64)
    → ((w i : ℕ) → w < k → i < 64 → bit (get_or t w 0) i ≡ h (64 * w + i)) → t ≡ words_of k h
words_each h k t e s a = words_by h k t e (λ w l. record { small = s w l; bits = λ i m. a w i l m })

-- words of a number that is known otherwise
pub words_sized : (k k' : ℕ) (h : ℕ → Bool) (ws : List ℕ) → ws ≡ words_of k h → k ≡ k' → ws ≡ words_of k' h
words_sized k k' h ws e ek = e ∙ ap (λ (x : ℕ). words_of x h) ek
