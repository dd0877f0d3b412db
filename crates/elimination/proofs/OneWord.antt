-- Elimination in one word: each answer in the place of its unknown.
-- Assumes nothing.
use mathlib.Core.Path.{◌≡◌, refl, sym, ap, ap₂, ◌∙◌}
use mathlib.Core.Logic.{◌≢◌, ◌⊎◌, inl, inr}
use mathlib.Core.Bool.{Bool, true, false, ◌&&◌}
use mathlib.Core.List.{List, [], ◌∷◌}
use Prim.Native.Nat.{ℕ, suc, ◌+◌, ◌-◌, ◌*◌, ◌^◌, ◌≤◌, ◌<◌}
use native.Mathlib.Omega.{arith}
use lib.Bits.{bit_xor}
use lib.ListN.{length, get_or, take, drop, set, length-set, drop_of_length-le}
use lib.Seq.{drop-cons, get_or-set_same, get_or-set_other}
use borrow.Author.Tests.{lt-ltb, ltb-true}
use Rattle.ring.specs.Letters.{bit, assign}
use Rattle.ring.specs.Lists.{has, listed}
use Rattle.ring.specs.Polynomial.{◌⊕◌}
use Rattle.ring.proofs.Bool.{never}
use Rattle.ring.proofs.Bitwise.{xor_bit}
use Rattle.ring.proofs.Lists.{has_cases, has_first, has_rest, has_place, listed_get_d}
use Rattle.ring.proofs.Points.{assign_lt}
use Rattle.tables.proofs.Filled.{filled-start, filled_more}
use Rattle.tables.proofs.Slices.{rest_of}
use Rattle.words.specs.Inner.Words.{word_of, words_of, bit_at, low_letters, answer_words}
use Rattle.words.proofs.Bits.{low_letters_lem}
use Rattle.words.proofs.Parts.{words_parts}
use Rattle.words.proofs.Words.{word_bit, word_is, word_cong, words_filled, bit_at_lem}
use Rattle.solution.specs.Condition.{IsOrder}
use Rattle.solution.specs.Inner.ByPoints.{both_cases, remains_through, answered_through}
use Rattle.solution.proofs.Elimination.{answered_kept, answered_lt}
use Rattle.elimination.specs.Inner.Stages.{InLetters, no_repeats, answer_at, answered_words, put_placed}
use Rattle.elimination.proofs.AnyOrder.{Agree, first_in, rest_in, both_agree, remains_agree, answer_at_agree, no_first, no_rest}
use Rattle.elimination.proofs.AnyOrder.{answered_more, answer_first, answer_other}

pub length-answered : (f : ℕ → Bool) (order answers : List ℕ) → length (answered_words f order answers) ≡ length answers
unfolding answered_words
length-answered f [] answers = refl
length-answered f (x ∷ order) answers =
    length-set (answered_words (both_cases f x) order answers) x (word_of (answer_at f x order)) ∙ length-answered (both_cases f x) order answers

-- the answers turn on the values at the points of a word alone
answered_same : (f g : ℕ → Bool) (order answers : List ℕ) → InLetters 6 order → Agree 6 f g
    → answered_words f order answers ≡ answered_words g order answers
unfolding answered_words
answered_same f g [] answers b e = refl
answered_same f g (x ∷ order) answers b e =
    ap₂ (λ (t : List ℕ) (v : ℕ). set t x v)
    (answered_same (both_cases f x) (both_cases g x) order answers (rest_in 6 x order b) (both_agree 6 f g x (first_in 6 x order b) e))
    (word_cong _ _ (λ p l. answer_at_agree 6 f g x order b e p l))

-- ---- the answers in their places
-- the words hold, in the place of each unknown of the order, its answer
abbrev Placed : (ℕ → Bool) → List ℕ → List ℕ → Type 0
Placed f order answers = (x : ℕ) → has x order ≡ true → get_or answers x 0 ≡ word_of (λ p. bit (answered_through f order p) x)

-- a later unknown is another
later_other : (x y : ℕ) (order : List ℕ) → no_repeats (x ∷ order) ≡ true → has y order ≡ true → y ≢ x
later_other x y order once h e = never h (ap (λ (z : ℕ). has z order) e ∙ no_first x order once)

placed : (f : ℕ → Bool) (order answers : List ℕ) → InLetters (length answers) order → no_repeats order ≡ true
    → Placed f order (answered_words f order answers)
unfolding answered_words has
placed f [] answers b once x h = never h refl
placed f (y ∷ order) answers b once x h =
    go (has_cases x y order h) (placed (both_cases f y) order answers (rest_in _ y order b) (no_rest y order once) x)
  where
    rest : List ℕ
    rest = answered_words (both_cases f y) order answers

    inside : y < length rest
    inside = rw (length-answered (both_cases f y) order answers) (first_in _ y order b)

    go : (x ≡ y) ⊎ (has x order ≡ true)
        → (has x order ≡ true → get_or rest x 0 ≡ word_of (λ p. bit (answered_through (both_cases f y) order p) x))
        → get_or (set rest y (word_of (answer_at f y order))) x 0 ≡ word_of (λ p. bit (answered_through f (y ∷ order) p) x)
    go (inl e) ih =
        rw e (get_or-set_same rest y (word_of (answer_at f y order)) 0 inside ∙ word_cong _ _ (λ p l. sym (answer_first f y order once p)))
    go (inr r) ih =
        let other : x ≢ y = later_other y x order once r in
        get_or-set_other rest y x (word_of (answer_at f y order)) 0 other ∙ ih r
        ∙ word_cong _ _ (λ p l. sym (answer_other f y order x p other))

-- put in, they lead to their point
put_answers : (a f : ℕ → Bool) (order answers : List ℕ) → InLetters 6 order → no_repeats order ≡ true → Placed f order answers
    → (p : ℕ) → p < 64 → put_placed answers order a p ≡ a (answered_through f order p)
unfolding put_placed answered_through
put_answers a f [] answers b once at p l = refl
put_answers a f (x ∷ order) answers b once at p l =
    let own : bit (get_or answers x 0) p ≡ answer_at f x order p =
    ap (λ (w : ℕ). bit w p) (at x (has_first x order)) ∙ word_bit _ p l ∙ answer_first f x order once p in
    let later : Placed (both_cases f x) order answers =
    λ y h. at y (has_rest y x order h) ∙ word_cong _ _ (λ p l. answer_other f x order y p (later_other x y order once h)) in
    ap (λ (b : Bool). put_placed answers order a (assign p x b)) own
    ∙ put_answers a (both_cases f x) order answers (rest_in 6 x order b) (no_rest x order once) later
    (assign p x (answer_at f x order p)) (assign_lt 6 p x (answer_at f x order p) l (first_in 6 x order b))
    ∙ ap a (answered_more f x order once p)

-- ---- from unknown to unknown
-- the values with the first unknown gone
gone : (v x w : ℕ) → w ≡ word_of (λ i. bit v (assign i x true) && bit v (assign i x false)) → Agree 6 (bit w) (both_cases (bit v) x)
unfolding both_cases
gone v x w e p l = ap (λ (y : ℕ). bit y p) e ∙ word_bit _ p l

pub remains_none : (v : ℕ) (o : List ℕ) → length o ≡ 0 → v < 2 ^ 64 → v ≡ word_of (remains_through (bit v) o)
unfolding remains_through
remains_none v [] z l = word_is v (bit v) l (λ i _. refl)
remains_none v (x ∷ o) z l = absurd (omega arith)

pub answered_none : (f : ℕ → Bool) (o answers : List ℕ) → length o ≡ 0 → answers ≡ answered_words f o answers
unfolding answered_words
answered_none f [] answers z = refl
answered_none f (x ∷ o) answers z = absurd (omega arith)

module _ (v w : ℕ) where
  pub remains-next : (r : ℕ) (o : List ℕ) → InLetters 6 o → 1 ≤ length o
      → w ≡ word_of (λ i. bit v (assign i (get_or o 0 0) true) && bit v (assign i (get_or o 0 0) false))
      → r ≡ word_of (remains_through (bit w) (take (length o - 1) (drop 1 o))) → r ≡ word_of (remains_through (bit v) o)
  unfolding remains_through
  remains-next r [] b l ew er = absurd (omega arith)
  remains-next r (x ∷ o) b l ew er =
      er ∙ rw (rest_of 1 (x ∷ o))
      (word_cong _ _ (λ p m. remains_agree 6 (bit w) (both_cases (bit v) x) o (rest_in 6 x o b) (gone v x w ew) p m))

  pub answered-next : (l r : ℕ) (o answers later : List ℕ) → InLetters (length answers) o → length answers ≤ 6 → no_repeats o ≡ true
      → 1 ≤ length o → w ≡ word_of (λ i. bit v (assign i (get_or o 0 0) true) && bit v (assign i (get_or o 0 0) false))
      → later ≡ answered_words (bit w) (take (length o - 1) (drop 1 o)) answers → l ≡ get_or low_letters (get_or o 0 0) 0
      → r ≡ word_of (put_placed later (take (length o - 1) (drop 1 o)) (bit (bit_xor v l)))
      → set later (get_or o 0 0) r ≡ answered_words (bit v) o answers
  unfolding answered_words answer_at
  answered-next l r [] answers later b few once m ew ea el er = absurd (omega arith)
  answered-next l r (x ∷ o) answers later b few once m ew ea el er =
      go (rw (rest_of 1 (x ∷ o)) at ea) (rw (rest_of 1 (x ∷ o)) at er)
    where
      f : ℕ → Bool
      f = both_cases (bit v) x

      low : InLetters 6 (x ∷ o)
      low y h = omega (arith, b y h)

      own : (p : ℕ) → p < 64 → bit (bit_xor v l) (answered_through f o p) ≡ answer_at (bit v) x o p
      own p h =
          let q : ℕ = answered_through f o p in
          let q_lt : q < 64 = answered_lt 6 f o p (rest_in 6 x o low) h in
          xor_bit v l q
          ∙ ap (λ (y : Bool). bit v q ⊕ y)
          (ap (λ (y : ℕ). bit y q) el ∙ low_letters_lem x q (first_in 6 x o low) q_lt ∙ answered_kept f o p x (no_first x o once))

      go : later ≡ answered_words (bit w) o answers → r ≡ word_of (put_placed later o (bit (bit_xor v l)))
          → set later x r ≡ answered_words (bit v) (x ∷ o) answers
      go ea er =
          let e : later ≡ answered_words f o answers = ea ∙ answered_same (bit w) f o answers (rest_in 6 x o low) (gone v x w ew) in
          let at : Placed f o later = rw e (placed f o answers (rest_in _ x o b) (no_rest x o once)) in
          ap₂ (λ (t : List ℕ) (y : ℕ). set t x y) e (er
          ∙ word_cong _ _ (λ p h. put_answers (bit (bit_xor v l)) f o later (rest_in 6 x o low) (no_rest x o once) at p h ∙ own p h))

-- ---- later answers put in, from the last on
pub put_start : (answers o : List ℕ) (v i : ℕ) → i ≡ length o → v < 2 ^ 64 → v ≡ word_of (put_placed answers (drop i o) (bit v))
unfolding put_placed
put_start answers o v i e l = rw (drop_of_length-le o {i = i} (omega arith)) (word_is v (bit v) l (λ i _. refl))

-- the letter of a turn has an answer
pub letter_placed : (order : List ℕ) {n : ℕ} (k x : ℕ) → InLetters n order → (k < length order) × (x ≡ get_or order (length order - 1 - k) 0) → x < n
letter_placed order {n} k x b h = b x (ap (λ (y : ℕ). has y order) h.1 ∙ has_place order (length order - 1 - k) (omega (arith, h.0)))

pub put_next : (answers o : List ℕ) (v w r k x : ℕ) → InLetters (length answers) o → length answers ≤ 6
    → (k < length o) × (x ≡ get_or o (length o - 1 - k) 0) → w ≡ word_of (put_placed answers (drop (length o - k) o) (bit v))
    → r ≡ word_of (λ p. bit w (assign p x (bit (get_or answers x 0) p)))
    → r ≡ word_of (put_placed answers (drop (length o - (k + 1)) o) (bit v))
unfolding put_placed
put_next answers o v w r k x b few at ew er =
    let i : ℕ = length o - 1 - k in
    let next : length o - (k + 1) ≡ i = omega arith in
    let last : length o - k ≡ suc i = omega (arith, at.0) in
    let x_lt : x < 6 = omega (arith, letter_placed o k x b at) in
    rw (next, drop-cons o i 0 (omega (arith, at.0)), ← at.1, ← last) (er
    ∙ word_cong _ _ (λ p l.
    ap (λ (y : ℕ). bit y (assign p x (bit (get_or answers x 0) p))) ew
    ∙ word_bit _ (assign p x (bit (get_or answers x 0) p)) (assign_lt 6 p x (bit (get_or answers x 0) p) l x_lt)))

pub put_end : (answers o : List ℕ) (v r i : ℕ) → i ≡ 0 → r ≡ word_of (put_placed answers (drop i o) (bit v))
    → r ≡ word_of (put_placed answers o (bit v))
put_end answers o v r i z e = e ∙ ap (λ (k : ℕ). word_of (put_placed answers (drop k o) (bit v))) z

-- ---- the whole
-- up to six letters have one word
pub one : (u g : ℕ) → u + g ≤ 6 → 2 ^ (u + g - 6) ≡ 1
one u g h = let z : u + g - 6 ≡ 0 = omega arith in ap (λ (x : ℕ). 2 ^ x) z

pub a_word_each : (u g k : ℕ) → u + g ≤ 6 → k ≡ u * 2 ^ (u + g - 6) → k ≡ u
a_word_each u g k h e = omega (arith, (rw (one u g h) at e))

pub in_order : (u : ℕ) (o : List ℕ) → IsOrder u o → InLetters u o
in_order u o is x h = ltb-true x u (sym (is x) ∙ h)

module _ (u g : ℕ) (few : u + g ≤ 6) (f o : List ℕ) (is : IsOrder u o) where
  low : InLetters 6 o
  low x h = omega (arith, in_order u o is x h)

  alone : Agree 6 (bit (get_or f 0 0)) (bit_at f)
  alone p l = let e : 64 * 0 + p ≡ p = omega arith in sym (bit_at_lem f 0 p l) ∙ ap (bit_at f) e

  pub remains_words : (r : ℕ) → length f ≡ 2 ^ (u + g - 6) → r ≡ word_of (remains_through (bit (get_or f 0 0)) o)
      → set f 0 r ≡ words_of (2 ^ (u + g - 6)) (remains_through (bit_at f) o)
  remains_words r size er =
      let long : length f ≡ 1 = size ∙ one u g few in
      let e : r ≡ word_of (λ i. remains_through (bit_at f) o (64 * 0 + i)) = er
      ∙ word_cong _ _ (λ p l. let z : p ≡ 64 * 0 + p = omega arith in
      remains_agree 6 _ _ o low alone p l ∙ ap (remains_through (bit_at f) o) z) in
      words_filled (2 ^ (u + g - 6)) (remains_through (bit_at f) o) f (set f 0 r) 1 size
      (filled_more 0 _ f f (filled-start 0 _ f refl) r (omega arith) e) (omega arith) (omega arith)

  pub answered_words_lem : (answers after : List ℕ) → no_repeats o ≡ true → length answers ≡ u * 2 ^ (u + g - 6)
      → after ≡ answered_words (bit (get_or f 0 0)) o answers
      → after ≡ answer_words u (2 ^ (u + g - 6)) (λ x p. bit (answered_through (bit_at f) o p) x)
  answered_words_lem answers after once size e =
      let room : length answers ≡ u = a_word_each u g (length answers) few size in
      let e' : after ≡ answered_words (bit_at f) o answers = e ∙ answered_same _ _ o answers low alone in
      let long : length after ≡ u * 1 = omega (arith, ap length e', length-answered (bit_at f) o answers) in
      let at : Placed (bit_at f) o after = rw e' (placed (bit_at f) o answers (λ x h. omega (arith, in_order u o is x h)) once) in
      rw (one u g few) (sym (listed_get_d after)
      ∙ ap (λ (k : ℕ). listed k (λ w. get_or after w 0)) long
      ∙ words_parts u 1 (λ w. get_or after w 0) _ (omega arith) (λ x w l m.
      let z : x * 1 + w ≡ x = omega arith in
      ap (λ (k : ℕ). get_or after k 0) z ∙ at x (is x ∙ lt-ltb x u l)
      ∙ word_cong _ _ (λ i n. let s : i ≡ 64 * w + i = omega arith in ap (λ (k : ℕ). bit (answered_through (bit_at f) o k) x) s)))
