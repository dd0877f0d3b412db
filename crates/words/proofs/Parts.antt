-- Parts of k words that stand one after another, each put in its turn.
-- Assumes nothing.
use mathlib.Core.Path.{◌≡◌, sym, ap, ap₂, ◌∙◌}
use mathlib.Core.Bool.{Bool}
use mathlib.Core.List.{List, append_assoc, reverse}
use Prim.Native.Nat.{ℕ, ◌+◌, ◌-◌, ◌*◌, ◌/◌, ◌%◌, ◌≤◌, ◌<◌}
use native.Mathlib.Decide.{dec_lt}
use native.Mathlib.Nat.{add-mul, one-mul, mul_assoc, mul_comm, mul-le-mul_right, mod-lt, div-add-mod'}
use native.Mathlib.Omega.{arith}
use lib.Arith.{digits_lt, digits_div, digits_mod}
use lib.ListN.{length, get_or, take, drop, length-drop}
use lib.Seq.{take_at, drop_at, drop-drop, length-take-le}
use Rattle.std.proofs.lemmas.Grind.{get_or_default_zero}
use Rattle.std.proofs.lemmas.List.{length-reverse, get_or-reverse}
use borrow.Rule.Slice.PartMut.{put_mid}
use Rattle.ring.specs.Lists.{listed}
use Rattle.ring.proofs.Lists.{length-listed, listed_add}
use Rattle.tables.proofs.Filled.{filled, filled_all}
use Rattle.words.specs.Inner.Words.{word_of, bit_at, answer_words}
use Rattle.words.proofs.Words.{words_listed, word_cong, at_known}

-- one more part of k elements put
pub parts_more : (j k : ℕ) (F : ℕ → ℕ) (t₀ t ys : List ℕ) → t ≡ filled (j * k) F t₀ → ys ≡ listed k (λ i. F (j * k + i))
    → put_mid (j * k) (j * k + k - j * k) t ys ≡ filled ((j + 1) * k) F t₀
unfolding filled
parts_more j k F t₀ t ys e ey =
    let count : j * k + k - j * k ≡ k = omega arith in
    let before : take (j * k) t ≡ listed (j * k) F = ap (take (j * k)) e
    ∙ take_at (listed (j * k) F) (drop (j * k) t₀) (j * k) (length-listed (j * k) F) in
    let from : drop (j * k) t ≡ drop (j * k) t₀ = ap (drop (j * k)) e
    ∙ drop_at (listed (j * k) F) (drop (j * k) t₀) (j * k) (length-listed (j * k) F) in
    let next : (j + 1) * k ≡ j * k + k = add-mul j 1 k ∙ ap (λ (x : ℕ). j * k + x) (one-mul k) in
    rw (count, before, from, ey, drop-drop k (j * k) t₀, next, listed_add (j * k) k F)
    (sym (append_assoc (listed (j * k) F) (listed k (λ i. F (j * k + i))) (drop (j * k + k) t₀)))

-- all parts put
pub parts_end : (count size j k : ℕ) (F : ℕ → ℕ) (t₀ t : List ℕ) → k ≡ size → j ≡ count → length t₀ ≡ count * size → t ≡ filled (j * k) F t₀
    → t ≡ listed (count * size) F
parts_end count size j k F t₀ t ek ej es e =
    let whole : j * k ≡ length t₀ = ap₂ (λ (x y : ℕ). x * y) ej ek ∙ sym es in
    e ∙ ap (λ (x : ℕ). filled x F t₀) whole ∙ filled_all F t₀ ∙ ap (λ (x : ℕ). listed x F) es

-- part j lies within, and has k elements
pub part_fits : (count size j k m : ℕ) → k ≡ size → j < count → m ≡ count * size → j * k + k ≤ m
part_fits count size j k m ek h e =
    let l : (j + 1) * k ≤ count * k = mul-le-mul_right k (omega arith) in
    omega (arith, add-mul j 1 k, one-mul k, e ∙ ap (λ (x : ℕ). count * x) (sym ek))

pub part_length_lem : (j k : ℕ) (t : List ℕ) → j * k + k ≤ length t → length (take (j * k + k - j * k) (drop (j * k) t)) ≡ k
part_length_lem j k t room =
    let count : j * k + k - j * k ≡ k = omega arith in
    ap (λ (y : ℕ). length (take y (drop (j * k) t))) count ∙ length-take-le k (drop (j * k) t) (omega (arith, length-drop (j * k) t))

-- word w of all is word w % k of part w / k
pub part_below : (u k w : ℕ) → w < u * k → w / k < u
part_below u k w l = go (dec_lt (w / k) u)
  where
    go : Dec (w / k < u) → w / k < u
    go (yes h) = h
    go (no h) =
        let m : u * k ≤ w / k * k = mul-le-mul_right k (omega (arith, h)) in
        absurd (omega (arith, m, l, div-add-mod' w k))

pub points_in : (x k : ℕ) → x * (64 * k) ≡ 64 * (x * k)
points_in x k = sym (mul_assoc x 64 k) ∙ ap (λ (y : ℕ). y * k) (mul_comm x 64) ∙ mul_assoc 64 x k

pub part_point : (k x w i : ℕ) → 64 * (x * k + w) + i ≡ x * (64 * k) + (64 * w + i)
part_point k x w i = omega (arith, points_in x k)

-- the words of answers, each by its part
pub words_parts : (u k : ℕ) (F : ℕ → ℕ) (h : ℕ → ℕ → Bool) → 0 < k
    → ((x w : ℕ) → x < u → w < k → F (x * k + w) ≡ word_of (λ i. h x (64 * w + i))) → listed (u * k) F ≡ answer_words u k h
unfolding answer_words
words_parts u k F h pos e =
    words_listed (u * k) _ _ (λ w l.
    let r : w % k < k = mod-lt w pos in
    ap F (sym (div-add-mod' w k)) ∙ e (w / k) (w % k) (part_below u k w l) r
    ∙ word_cong _ _ (λ i m.
    let inner : 64 * (w % k) + i < 64 * k = omega arith in
    let s : 64 * w + i ≡ w / k * (64 * k) + (64 * (w % k) + i) = ap (λ (y : ℕ). 64 * y + i) (sym (div-add-mod' w k))
    ∙ part_point k (w / k) (w % k) i in
    sym (ap₂ h (ap (λ (z : ℕ). z / (64 * k)) s ∙ digits_div (w / k) inner) (ap (λ (z : ℕ). z % (64 * k)) s ∙ digits_mod (w / k) inner))))

-- the value of answer x at a point
pub answer_at_lem : (u k x p : ℕ) (h : ℕ → ℕ → Bool) (ws : List ℕ) → ws ≡ answer_words u k h → x < u → p < 64 * k
    → bit_at ws (x * (64 * k) + p) ≡ h x p
unfolding answer_words
answer_at_lem u k x p h ws e hx hp =
    let l : x * (64 * k) + p < 64 * (u * k) = rw (← points_in u k) (digits_lt hx hp) in
    at_known (u * k) _ ws e (x * (64 * k) + p) l ∙ ap₂ h (digits_div x hp) (digits_mod x hp)

-- the item of a turn of a loop backwards, which has yielded k
pub from_back : (t : List ℕ) (k item : ℕ) → (k < length (reverse t)) × (item ≡ get_or (reverse t) k item)
    → (k < length t) × (item ≡ get_or t (length t - 1 - k) 0)
from_back t k item h =
    let l : k < length t = omega (arith, length-reverse t, h.0) in
    (l, h.1 ∙ get_or-reverse t k item l ∙ get_or_default_zero t _ item (omega arith))
