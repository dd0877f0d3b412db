-- Parts of k elements that stand one after another, and the answers by unknown from the order's slots.
-- Assumes nothing.
use mathlib.Core.Path.{◌≡◌, refl, sym, ap, ap₂, ◌∙◌}
use mathlib.Core.Bool.{Bool, true, false, ◌||◌, cond, true≢false}
use mathlib.Core.List.{List, [], ◌∷◌, ◌++◌}
use Prim.Native.Nat.{ℕ, suc, ◌+◌, ◌-◌, ◌*◌, ◌/◌, ◌%◌, ◌^◌, ◌≤◌, ◌<◌}
use native.Mathlib.Nat.{zero-mul, suc-mul, mod-lt}
use native.Mathlib.Omega.{arith}
use lib.Arith.{digits_lt, digits_div, digits_mod}
use lib.Dec.{eqb}
use lib.ListN.{length, get_or, take, drop, length-drop, get_or-append}
use lib.Seq.{drop_at, get_or-take, get_or-drop, length-take-le}
use borrow.Author.Tests.{eqb-true, eqb-false, lt-ltb}
use Rattle.ring.specs.Letters.{bit}
use Rattle.ring.specs.Lists.{has, listed}
use Rattle.ring.proofs.Lists.{listed_get_d, listed_cong}
use Rattle.words.specs.Inner.Words.{word_of, words_of, answer_words}
use Rattle.words.proofs.Parts.{part_fits, part_below, points_in, part_point, words_parts}
use Rattle.words.proofs.Words.{length_words, get_d_words, word_cong, words_cong, words_listed}
use Rattle.solution.specs.Condition.{IsOrder}
use Rattle.solution.specs.Inner.ByPoints.{both_cases, answered_through}
use Rattle.elimination.specs.Inner.Stages.{no_repeats, answer_at, slot_words, place_of, slot_word}
use Rattle.elimination.proofs.AnyOrder.{answer_first, answer_other, no_rest}

-- a part element by element
pub part_listed : (j k : ℕ) (t : List ℕ) → j * k + k ≤ length t
    → take (j * k + k - j * k) (drop (j * k) t) ≡ listed k (λ i. get_or t (j * k + i) 0)
part_listed j k t room =
    let count : j * k + k - j * k ≡ k = omega arith in
    let size : length (take k (drop (j * k) t)) ≡ k = length-take-le k (drop (j * k) t) (omega (arith, length-drop (j * k) t)) in
    ap (λ (y : ℕ). take y (drop (j * k) t)) count ∙ sym (listed_get_d (take k (drop (j * k) t)))
    ∙ ap (λ (y : ℕ). listed y (λ i. get_or (take k (drop (j * k) t)) i 0)) size
    ∙ listed_cong k _ _ (λ i l. get_or-take k (drop (j * k) t) i 0 l ∙ get_or-drop (j * k) t i 0)

-- ---- slots
-- the slot of x copied
pub slot_copied : (c k i x : ℕ) (o slots ys : List ℕ) → k ≡ 2 ^ c → i ≡ place_of o x → i * k + k ≤ length slots
    → ys ≡ take (i * k + k - i * k) (drop (i * k) slots)
    → ys ≡ listed k (λ w. slot_word (2 ^ c) o slots (x * k + w))
unfolding slot_word
slot_copied c k i x o slots ys ek ei room e =
    e ∙ part_listed i k slots room
    ∙ listed_cong k _ (λ w. slot_word k o slots (x * k + w)) (λ w l.
    ap (λ (y : ℕ). get_or slots (y * k + w) 0) ei
    ∙ sym (ap₂ (λ (y z : ℕ). get_or slots (place_of o y * k + z) 0) (digits_div x l) (digits_mod x l)))
    ∙ ap (λ (y : ℕ). listed k (λ w. slot_word y o slots (x * k + w))) ek

-- a word of the slot of x
slot_word_lem : (k : ℕ) (h : ℕ → Bool) (o : List ℕ) (x w : ℕ) → no_repeats o ≡ true → has x o ≡ true → w < k
    → get_or (slot_words k h o) (place_of o x * k + w) 0 ≡ word_of (λ i. bit (answered_through h o (64 * w + i)) x)
unfolding slot_words place_of has
slot_word_lem k h [] x w once e l = absurd (true≢false (sym e))
slot_word_lem k h (y ∷ o) x w once e l = go (eqb x y) refl e (λ r. slot_word_lem k (both_cases h y) o x w (no_rest y o once) r l)
  where
    go : (b : Bool) → eqb x y ≡ b → (b || has x o) ≡ true
        → (has x o ≡ true → get_or (slot_words k (both_cases h y) o) (place_of o x * k + w) 0
        ≡ word_of (λ i. bit (answered_through (both_cases h y) o (64 * w + i)) x))
        → get_or (words_of k (answer_at h y o) ++ slot_words k (both_cases h y) o) (cond b 0 (suc (place_of o x)) * k + w) 0
        ≡ word_of (λ i. bit (answered_through h (y ∷ o) (64 * w + i)) x)
    go true q r ih =
        let z : 0 * k + w ≡ w = omega (arith, zero-mul k) in
        rw z (get_or-append (words_of k (answer_at h y o)) _ 0 w (omega (arith, length_words k (answer_at h y o)))
        ∙ get_d_words k (answer_at h y o) w l
        ∙ word_cong _ _ (λ i m. sym (answer_first h y o once (64 * w + i))
        ∙ ap (bit (answered_through h (y ∷ o) (64 * w + i))) (sym (eqb-true x y q))))
    go false q r ih =
        let s : suc (place_of o x) * k + w ≡ k + (place_of o x * k + w) = omega (arith, suc-mul (place_of o x) k) in
        rw s (sym (get_or-drop k (words_of k (answer_at h y o) ++ slot_words k (both_cases h y) o) (place_of o x * k + w) 0)
        ∙ ap (λ (t : List ℕ). get_or t (place_of o x * k + w) 0) (drop_at (words_of k (answer_at h y o)) _ k (length_words k _))
        ∙ ih r
        ∙ word_cong _ _ (λ i m. sym (answer_other h y o x (64 * w + i) (eqb-false x y q))))

-- ---- the words of answers
-- they turn on the values at the answers' points alone
pub answers_cong : (u k : ℕ) (g h : ℕ → ℕ → Bool) → 0 < k → ((x p : ℕ) → x < u → p < 64 * k → g x p ≡ h x p)
    → answer_words u k g ≡ answer_words u k h
unfolding answer_words
answers_cong u k g h pos e =
    words_cong (u * k) _ _ (λ i l.
    let b : i < u * (64 * k) = omega (arith, points_in u k) in
    e (i / (64 * k)) (i % (64 * k)) (part_below u (64 * k) i b) (mod-lt i (omega arith)))

-- part x of them
pub answer_part_lem : (u k x : ℕ) (h : ℕ → ℕ → Bool) (ws : List ℕ) → ws ≡ answer_words u k h → x < u
    → take (x * k + k - x * k) (drop (x * k) ws) ≡ words_of k (h x)
unfolding answer_words
answer_part_lem u k x h ws e l =
    let size : length ws ≡ u * k = ap length e ∙ length_words (u * k) _ in
    part_listed x k ws (part_fits u k x k (length ws) refl l size)
    ∙ words_listed k _ _ (λ w m.
    let b : x * k + w < u * k = digits_lt l m in
    ap (λ (t : List ℕ). get_or t (x * k + w) 0) e ∙ get_d_words (u * k) _ (x * k + w) b
    ∙ word_cong _ _ (λ i n.
    let inner : 64 * w + i < 64 * k = omega arith in
    ap₂ h (ap (λ (z : ℕ). z / (64 * k)) (part_point k x w i) ∙ digits_div x inner)
    (ap (λ (z : ℕ). z % (64 * k)) (part_point k x w i) ∙ digits_mod x inner)))

-- the slots by unknown are the answers
pub arranged : (u k : ℕ) (h : ℕ → Bool) (o slots : List ℕ) → IsOrder u o → no_repeats o ≡ true → 0 < k → slots ≡ slot_words k h o
    → listed (u * k) (slot_word k o slots) ≡ answer_words u k (λ x p. bit (answered_through h o p) x)
unfolding slot_word
arranged u k h o slots is once pos e =
    words_parts u k (slot_word k o slots) _ pos (λ x w l m.
    ap₂ (λ (y z : ℕ). get_or slots (place_of o y * k + z) 0) (digits_div x m) (digits_mod x m)
    ∙ ap (λ (t : List ℕ). get_or t (place_of o x * k + w) 0) e
    ∙ slot_word_lem k h o x w once (is x ∙ lt-ltb x u l) m)
