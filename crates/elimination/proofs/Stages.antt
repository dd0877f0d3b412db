-- The lists that the code makes: stages, slots and answers, part by part.
-- Assumes nothing.
use mathlib.Core.Path.{◌≡◌, refl, sym, ap, ap₂, ◌∙◌}
use mathlib.Core.Logic.{◌≢◌}
use mathlib.Core.Bool.{Bool, true, false, ◌&&◌, ◌||◌, cond, true≢false}
use mathlib.Core.List.{List, [], ◌∷◌, ◌++◌, append-nil}
use Prim.Native.Nat.{ℕ, suc, ◌+◌, ◌-◌, ◌*◌, ◌/◌, ◌%◌, ◌^◌, ◌≤◌, ◌<◌}
use native.Mathlib.Omega.{arith}
use native.Mathlib.Nat.{suc-mul, zero-mul}
use lib.Pow.{pow-add}
use lib.ListN.{length, get_or, take, drop, length-append, length-drop, drop_of_length-le}
use lib.Seq.{take_at, drop_at, get_or-take, length-take-le}
use borrow.Rule.Slice.PartMut.{put_mid, same_len_mid}
use Rattle.std.proofs.Common.{Option, None, Some}
use Rattle.std.specs.Option.{MatchOption, unwrap_or}
use Rattle.std.specs.List.{AllWithin, HoldsAt}
use Rattle.std.proofs.lemmas.Iterator.{index_from_first}
use lib.Dec.{eqb}
use Rattle.ring.specs.Letters.{bit, assign}
use Rattle.ring.specs.Lists.{has}
use Rattle.ring.specs.Polynomial.{◌⊕◌}
use borrow.Author.Tests.{eq-eqb, ne_eqb}
use Rattle.ring.proofs.Points.{assign_lt}
use Rattle.tables.proofs.Slices.{rest_of}
use Rattle.words.specs.Inner.Words.{words_of, bit_at, IsWords}
use Rattle.words.proofs.Words.{words_cong, at_known, at_words, size_words, length_words}
use Rattle.solution.specs.Inner.ByPoints.{both_cases, remains_through, answered_through}
use Rattle.solution.proofs.Elimination.{answered_kept, answered_lt}
use Rattle.elimination.specs.Inner.Stages.{InLetters, no_repeats, stage_words, answer_at, slot_words, put_words, place_of}
use Rattle.elimination.proofs.AnyOrder.{Agree, first_in, rest_in, both_agree, remains_agree, answer_at_agree, no_first, no_rest}
use Rattle.elimination.proofs.AnyOrder.{answered_more}

-- the points of 6 + c letters
pub points : (c : ℕ) → 64 * 2 ^ c ≡ 2 ^ (6 + c)
points c = sym (pow-add 2 6 c)

-- ---- the rest of an order
pub rest_length : (o : List ℕ) → length (take (length o - 1) (drop 1 o)) ≡ length o - 1
rest_length o = rw (rest_of 1 o) (length-drop 1 o)

pub rest_letters : (n : ℕ) (o : List ℕ) → InLetters n o → InLetters n (take (length o - 1) (drop 1 o))
rest_letters n o b = rw (rest_of 1 o) (go o b)
  where
    go : (o : List ℕ) → InLetters n o → InLetters n (drop 1 o)
    go [] b = b
    go (x ∷ xs) b = rest_in n x xs b

pub first_letter : (n : ℕ) (o : List ℕ) → InLetters n o → 1 ≤ length o → get_or o 0 0 < n
first_letter n [] b l = absurd (omega arith)
first_letter n (x ∷ xs) b l = first_in n x xs b

-- ---- slots
pub slot_room : (k c : ℕ) (o s : List ℕ) → k ≡ 2 ^ c → length s ≡ length o * 2 ^ c → 1 ≤ length o → k ≤ length s
slot_room k c [] s ek size l = absurd (omega arith)
slot_room k c (x ∷ xs) s ek size l = omega (arith, suc-mul (length xs) (2 ^ c), size, ek)

pub slots_rest : (k c : ℕ) (o s : List ℕ) → k ≡ 2 ^ c → length s ≡ length o * 2 ^ c → 1 ≤ length o
    → length (take (length s - k) (drop k s)) ≡ length (take (length o - 1) (drop 1 o)) * 2 ^ c
slots_rest k c [] s ek size l = absurd (omega arith)
slots_rest k c (x ∷ xs) s ek size l =
    rw (rest_of k s, rest_of 1 (x ∷ xs), length-drop k s) (omega (arith, suc-mul (length xs) (2 ^ c), size, ek))

pub front_length : (k : ℕ) (x s : List ℕ) → length x ≡ k → k ≤ length s → length (x ++ drop k s) ≡ length s
front_length k x s e l = omega (arith, length-append x (drop k s), length-drop k s)

-- ---- elimination
pub stages_none : (k : ℕ) (f o : List ℕ) → length o ≡ 0 → IsWords k f → f ≡ words_of k (remains_through (bit_at f) o)
unfolding remains_through
stages_none k f [] z is = is
stages_none k f (x ∷ o) z is = absurd (omega arith)

pub stages_empty : (k : ℕ) (f o s : List ℕ) → length o ≡ 0 → length s ≡ length o * k → s ≡ stage_words k (bit_at f) o
unfolding stage_words
stages_empty k f [] [] z size = refl
stages_empty k f [] (y ∷ s) z size = absurd (omega (arith, zero-mul k))
stages_empty k f (x ∷ o) s z size = absurd (omega arith)

stage_agree : (c : ℕ) (f g : ℕ → Bool) (o : List ℕ) → InLetters (6 + c) o → Agree (6 + c) f g
    → stage_words (2 ^ c) f o ≡ stage_words (2 ^ c) g o
unfolding stage_words
stage_agree c f g [] b e = refl
stage_agree c f g (x ∷ o) b e =
    ap₂ ◌++◌ (words_cong (2 ^ c) f g (λ p l. e p (omega (arith, points c))))
    (stage_agree c (both_cases f x) (both_cases g x) o (rest_in (6 + c) x o b) (both_agree (6 + c) f g x (first_in (6 + c) x o b) e))

-- what words of 6 + c letters hold
known : (c : ℕ) (h : ℕ → Bool) (ws : List ℕ) → ws ≡ words_of (2 ^ c) h → Agree (6 + c) (bit_at ws) h
known c h ws e p l = at_known (2 ^ c) h ws e p (omega (arith, points c))

words_agree : (c : ℕ) (g h : ℕ → Bool) → Agree (6 + c) g h → words_of (2 ^ c) g ≡ words_of (2 ^ c) h
words_agree c g h e = words_cong (2 ^ c) g h (λ p l. e p (omega (arith, points c)))

pub remains_more : (c : ℕ) (o f f1 f2 : List ℕ) → InLetters (6 + c) o → 1 ≤ length o
    → f1 ≡ words_of (2 ^ c) (both_cases (bit_at f) (get_or o 0 0))
    → f2 ≡ words_of (2 ^ c) (remains_through (bit_at f1) (take (length o - 1) (drop 1 o))) → f2 ≡ words_of (2 ^ c) (remains_through (bit_at f) o)
unfolding remains_through
remains_more c [] f f1 f2 b l e1 e2 = absurd (omega arith)
remains_more c (x ∷ o) f f1 f2 b l e1 e2 =
    e2 ∙ rw (rest_of 1 (x ∷ o))
    (words_agree c _ _ (remains_agree (6 + c) (bit_at f1) (both_cases (bit_at f) x) o (rest_in (6 + c) x o b) (known c _ f1 e1)))

-- a part put behind the first
mid_done : (k : ℕ) (x s ys : List ℕ) → length x ≡ k → k ≤ length s → put_mid k (length (x ++ drop k s) - k) (x ++ drop k s) ys ≡ x ++ ys
mid_done k x s ys e l =
    let size : length (x ++ drop k s) ≡ length s = front_length k x s e l in
    let short : length (drop k (x ++ drop k s)) ≤ length (x ++ drop k s) - k = omega (arith, length-drop k (x ++ drop k s)) in
    let none : drop (length (x ++ drop k s) - k) (drop k (x ++ drop k s)) ≡ [] = drop_of_length-le (drop k (x ++ drop k s)) short in
    rw (take_at x (drop k s) k e, none, append-nil)

pub stages_more : (c k : ℕ) (o f f1 x s ys : List ℕ) → k ≡ 2 ^ c → InLetters (6 + c) o → 1 ≤ length o → length s ≡ length o * 2 ^ c
    → IsWords (2 ^ c) f → x ≡ f
    → f1 ≡ words_of (2 ^ c) (both_cases (bit_at f) (get_or o 0 0)) → ys ≡ stage_words (2 ^ c) (bit_at f1) (take (length o - 1) (drop 1 o))
    → put_mid k (length (x ++ drop k s) - k) (x ++ drop k s) ys ≡ stage_words (2 ^ c) (bit_at f) o
unfolding stage_words
stages_more c k [] f f1 x s ys ek b l size is ex e1 ey = absurd (omega arith)
stages_more c k (y ∷ o) f f1 x s ys ek b l size is ex e1 ey =
    let sx : length x ≡ k = ap length ex ∙ size_words (2 ^ c) _ f is ∙ sym ek in
    mid_done k x s ys sx (slot_room k c (y ∷ o) s ek size l)
    ∙ ap₂ ◌++◌ (ex ∙ is) (ey
    ∙ rw (rest_of 1 (y ∷ o)) (stage_agree c (bit_at f1) (both_cases (bit_at f) y) o (rest_in (6 + c) y o b) (known c _ f1 e1)))

-- ---- later answers put in
pub put_none : (k : ℕ) (a s o : List ℕ) → length o ≡ 0 → IsWords k a → a ≡ words_of k (put_words k s o (bit_at a))
unfolding put_words
put_none k a s [] z is = is
put_none k a s (x ∷ o) z is = absurd (omega arith)

front_at : (k : ℕ) (s : List ℕ) (p : ℕ) → p < 64 * k → bit_at (take k s) p ≡ bit_at s p
unfolding bit_at
front_at k s p l = let h : p / 64 < k = omega arith in ap (λ (x : ℕ). bit x (p % 64)) (get_or-take k s (p / 64) 0 h)

pub put_more : (c k : ℕ) (o s a a1 a2 : List ℕ) → k ≡ 2 ^ c → InLetters (6 + c) o → 1 ≤ length o
    → a1 ≡ words_of (2 ^ c) (put_words (2 ^ c) (take (length s - k) (drop k s)) (take (length o - 1) (drop 1 o)) (bit_at a))
    → a2 ≡ words_of (2 ^ c) (λ p. bit_at a1 (assign p (get_or o 0 0) (bit_at (take k s) p)))
    → a2 ≡ words_of (2 ^ c) (put_words (2 ^ c) s o (bit_at a))
unfolding put_words
put_more c k [] s a a1 a2 ek b l e1 e2 = absurd (omega arith)
put_more c k (x ∷ o) s a a1 a2 ek b l e1 e2 =
    e2 ∙ words_agree c _ _ (λ p h.
    let m : p < 64 * k = omega (arith, points c, ek) in
    ap (λ (y : Bool). bit_at a1 (assign p x y)) (front_at k s p m)
    ∙ known c _ a1 e1 (assign p x (bit_at s p)) (assign_lt (6 + c) p x (bit_at s p) h (first_in (6 + c) x o b))
    ∙ ap₂ (λ (t r : List ℕ). put_words (2 ^ c) t r (bit_at a) (assign p x (bit_at s p))) (rest_of k s ∙ ap (λ (y : ℕ). drop y s) ek)
    (rest_of 1 (x ∷ o)))

-- the answers of the later unknowns put in lead to the answered point
pub put_answers : (c : ℕ) (g : ℕ → Bool) (o s : List ℕ) (a : ℕ → Bool) → InLetters (6 + c) o → no_repeats o ≡ true
    → s ≡ slot_words (2 ^ c) g o
    → (p : ℕ) → p < 2 ^ (6 + c) → put_words (2 ^ c) s o a p ≡ a (answered_through g o p)
unfolding put_words slot_words answered_through
put_answers c g [] s a b once e p l = refl
put_answers c g (x ∷ o) s a b once e p l =
    let front : List ℕ = words_of (2 ^ c) (answer_at g x o) in
    let rest : drop (2 ^ c) s ≡ slot_words (2 ^ c) (both_cases g x) o = ap (drop (2 ^ c)) e
    ∙ drop_at front _ (2 ^ c) (length_words (2 ^ c) _) in
    let m : p < 64 * 2 ^ c = omega (arith, points c) in
    let value : bit_at s p ≡ answer_at g x o p =
    sym (front_at (2 ^ c) s p m) ∙ ap (λ (t : List ℕ). bit_at (take (2 ^ c) t) p) e
    ∙ ap (λ (t : List ℕ). bit_at t p) (take_at front _ (2 ^ c) (length_words (2 ^ c) _)) ∙ at_words (2 ^ c) _ p m in
    ap (λ (y : Bool). put_words (2 ^ c) (drop (2 ^ c) s) o a (assign p x y)) value
    ∙ put_answers c (both_cases g x) o (drop (2 ^ c) s) a (rest_in (6 + c) x o b) (no_rest x o once) rest (assign p x (answer_at g x o p))
    (assign_lt (6 + c) p x _ l (first_in (6 + c) x o b))
    ∙ ap a (answered_more g x o once p)

-- stages of which the first is written
module _ (k c : ℕ) (o f x s : List ℕ) (ek : k ≡ 2 ^ c) (ex : x ≡ f) (sf : length f ≡ 2 ^ c) (size : length s ≡ length o * 2 ^ c)
    (l : 1 ≤ length o) where
  fronted : length (x ++ drop k s) ≡ length s
  fronted = front_length k x s (ap length ex ∙ sf ∙ sym ek) (slot_room k c o s ek size l)

  pub front_room : k ≤ length (x ++ drop k s)
  front_room = omega (arith, fronted, slot_room k c o s ek size l)

  pub front_rest : length (take (length (x ++ drop k s) - k) (drop k (x ++ drop k s))) ≡ length (take (length o - 1) (drop 1 o)) * 2 ^ c
  front_rest = slots_rest k c o (x ++ drop k s) ek (fronted ∙ size) l

pub both_copied : (k x : ℕ) (s f f1 : List ℕ) → s ≡ f → f1 ≡ words_of k (λ p. bit_at s (assign p x true) && bit_at s (assign p x false))
    → f1 ≡ words_of k (both_cases (bit_at f) x)
unfolding both_cases
both_copied k x s f f1 e e1 = e1 ∙ ap (λ (t : List ℕ). words_of k (λ p. bit_at t (assign p x true) && bit_at t (assign p x false))) e

-- ---- the answers
put_agree : (c : ℕ) (s o : List ℕ) (a b : ℕ → Bool) → InLetters (6 + c) o → Agree (6 + c) a b
    → Agree (6 + c) (put_words (2 ^ c) s o a) (put_words (2 ^ c) s o b)
unfolding put_words
put_agree c s [] a b h e p l = e p l
put_agree c s (x ∷ o) a b h e p l =
    put_agree c (drop (2 ^ c) s) o a b (rest_in (6 + c) x o h) e (assign p x (bit_at s p))
    (assign_lt (6 + c) p x (bit_at s p) l (first_in (6 + c) x o h))

-- what the code makes of the first stage and the slots behind it
pub answered_front : (c k : ℕ) (o s own1 own2 own3 out : List ℕ) → k ≡ 2 ^ c → InLetters (6 + c) o → length s ≡ length o * 2 ^ c
    → 1 ≤ length o → own1 ≡ take k s
    → own2 ≡ words_of (length own1) (λ p. bit_at own1 p ⊕ bit p (get_or o 0 0))
    → own3 ≡ words_of (2 ^ c) (put_words (2 ^ c) (take (length s - k) (drop k s)) (take (length o - 1) (drop 1 o)) (bit_at own2)) → out ≡ own3
    → out ++ drop k s ≡ words_of (2 ^ c) (put_words (2 ^ c) (drop (2 ^ c) s) (drop 1 o) (λ p. bit_at s p ⊕ bit p (get_or o 0 0)))
    ++ drop (2 ^ c) s
answered_front c k o s own1 own2 own3 out ek b size l e1 e2 e3 eo =
    let room : k ≤ length s = slot_room k c o s ek size l in
    let s1 : length own1 ≡ 2 ^ c = ap length e1 ∙ length-take-le k s room ∙ ek in
    let letters : InLetters (6 + c) (drop 1 o) = rw (rest_of 1 o) at (rest_letters (6 + c) o b) in
    let first : out ≡ words_of (2 ^ c) (put_words (2 ^ c) (drop (2 ^ c) s) (drop 1 o) (λ p. bit_at s p ⊕ bit p (get_or o 0 0))) =
    eo ∙ e3 ∙ rw (rest_of k s, rest_of 1 o, ek) (words_agree c _ _ (put_agree c (drop (2 ^ c) s) (drop 1 o) _ _ letters (λ p h.
    let m : p < 64 * k = omega (arith, points c, ek) in
    known c _ own2 (e2 ∙ ap (λ (x : ℕ). words_of x (λ p. bit_at own1 p ⊕ bit p (get_or o 0 0))) s1) p h
    ∙ ap (λ (y : Bool). y ⊕ bit p (get_or o 0 0)) (ap (λ (t : List ℕ). bit_at t p) e1 ∙ front_at k s p m)))) in
    ap₂ ◌++◌ first (ap (λ (x : ℕ). drop x s) ek)

pub length_stages : (c : ℕ) (g : ℕ → Bool) (o : List ℕ) → length (stage_words (2 ^ c) g o) ≡ length o * 2 ^ c
unfolding stage_words
length_stages c g [] = sym (zero-mul (2 ^ c))
length_stages c g (x ∷ o) =
    length-append (words_of (2 ^ c) g) (stage_words (2 ^ c) (both_cases g x) o)
    ∙ ap₂ ◌+◌ (length_words (2 ^ c) g) (length_stages c (both_cases g x) o) ∙ flip (length o) ∙ sym (suc-mul (length o) (2 ^ c))
  where
    flip : (n : ℕ) → 2 ^ c + n * 2 ^ c ≡ n * 2 ^ c + 2 ^ c
    flip n = omega arith

-- the words of the first stage
first_stage : (c : ℕ) (h : ℕ → Bool) (y : ℕ) (o s : List ℕ) → s ≡ stage_words (2 ^ c) h (y ∷ o) → Agree (6 + c) (bit_at s) h
unfolding stage_words
first_stage c h y o s e p l =
    let m : p < 64 * 2 ^ c = omega (arith, points c) in
    sym (front_at (2 ^ c) s p m) ∙ ap (λ (t : List ℕ). bit_at (take (2 ^ c) t) p) e
    ∙ ap (λ (t : List ℕ). bit_at t p) (take_at (words_of (2 ^ c) h) _ (2 ^ c) (length_words (2 ^ c) h)) ∙ at_words (2 ^ c) h p m

pub stage_self : (c : ℕ) (h : ℕ → Bool) (o s : List ℕ) → InLetters (6 + c) o → s ≡ stage_words (2 ^ c) h o
    → s ≡ stage_words (2 ^ c) (bit_at s) o
unfolding stage_words
stage_self c h [] s b e = e
stage_self c h (y ∷ o) s b e = e ∙ stage_agree c h (bit_at s) (y ∷ o) b (λ p l. sym (first_stage c h y o s e p l))

answer_agree : (c : ℕ) (f g : ℕ → Bool) (o : List ℕ) → InLetters (6 + c) o → Agree (6 + c) f g
    → slot_words (2 ^ c) f o ≡ slot_words (2 ^ c) g o
unfolding slot_words
answer_agree c f g [] b e = refl
answer_agree c f g (x ∷ o) b e =
    ap₂ ◌++◌ (words_agree c _ _ (answer_at_agree (6 + c) f g x o b e))
    (answer_agree c (both_cases f x) (both_cases g x) o (rest_in (6 + c) x o b) (both_agree (6 + c) f g x (first_in (6 + c) x o b) e))

pub answers_self : (c : ℕ) (h : ℕ → Bool) (o s : List ℕ) → InLetters (6 + c) o → s ≡ stage_words (2 ^ c) h o
    → slot_words (2 ^ c) (bit_at s) o ≡ slot_words (2 ^ c) h o
unfolding slot_words
answers_self c h [] s b e = refl
answers_self c h (y ∷ o) s b e = answer_agree c (bit_at s) h (y ∷ o) b (first_stage c h y o s e)

pub answers_none : (k : ℕ) (s o : List ℕ) → length o ≡ 0 → s ≡ stage_words k (bit_at s) o → s ≡ slot_words k (bit_at s) o
unfolding stage_words slot_words
answers_none k s [] z e = e
answers_none k s (x ∷ o) z e = absurd (omega arith)

stages_tail : (c : ℕ) (g : ℕ → Bool) (x : ℕ) (o s : List ℕ) → s ≡ stage_words (2 ^ c) g (x ∷ o)
    → drop (2 ^ c) s ≡ stage_words (2 ^ c) (both_cases g x) o
unfolding stage_words
stages_tail c g x o s e = ap (drop (2 ^ c)) e ∙ drop_at (words_of (2 ^ c) g) _ (2 ^ c) (length_words (2 ^ c) g)

pub rest_stages : (c k : ℕ) (o s : List ℕ) → k ≡ 2 ^ c → InLetters (6 + c) o → 1 ≤ length o → s ≡ stage_words (2 ^ c) (bit_at s) o
    → take (length s - k) (drop k s) ≡ stage_words (2 ^ c) (bit_at (take (length s - k) (drop k s))) (take (length o - 1) (drop 1 o))
rest_stages c k [] s ek b l e = absurd (omega arith)
rest_stages c k (x ∷ o) s ek b l e =
    rw (rest_of k s, rest_of 1 (x ∷ o), ek)
    (stage_self c (both_cases (bit_at s) x) o (drop (2 ^ c) s) (rest_in (6 + c) x o b) (stages_tail c (bit_at s) x o s e))

pub rest_once : (o : List ℕ) → no_repeats o ≡ true → no_repeats (take (length o - 1) (drop 1 o)) ≡ true
rest_once o e = rw (rest_of 1 o) (go o e)
  where
    go : (o : List ℕ) → no_repeats o ≡ true → no_repeats (drop 1 o) ≡ true
    go [] e = e
    go (x ∷ o) e = no_rest x o e

-- the slots behind the first answered, and then the first
pub answers_more : (c k : ℕ) (o s ys s1 out : List ℕ) → k ≡ 2 ^ c → InLetters (6 + c) o → no_repeats o ≡ true → 1 ≤ length o
    → s ≡ stage_words (2 ^ c) (bit_at s) o
    → ys ≡ slot_words (2 ^ c) (bit_at (take (length s - k) (drop k s))) (take (length o - 1) (drop 1 o)) → s1 ≡ put_mid k (length s - k) s ys
    → out ≡ words_of (2 ^ c) (put_words (2 ^ c) (drop (2 ^ c) s1) (drop 1 o) (λ p. bit_at s1 p ⊕ bit p (get_or o 0 0))) ++ drop (2 ^ c) s1
    → out ≡ slot_words (2 ^ c) (bit_at s) o
unfolding slot_words answer_at
answers_more c k [] s ys s1 out ek b once l e ey e1 eo = absurd (omega arith)
answers_more c k (x ∷ o) s ys s1 out ek b once l e ey e1 eo =
    let K : ℕ = 2 ^ c in
    let size : length s ≡ length (x ∷ o) * K = ap length e ∙ length_stages c (bit_at s) (x ∷ o) in
    let room : k ≤ length s = slot_room k c (x ∷ o) s ek size l in
    let short : length (drop k s) ≤ length s - k = omega (arith, length-drop k s) in
    let none : drop (length s - k) (drop k s) ≡ [] = drop_of_length-le (drop k s) short in
    let front : length (take k s) ≡ K = length-take-le k s room ∙ ek in
    let whole : s1 ≡ take k s ++ ys = e1 ∙ rw (none, append-nil) in
    let tail : drop K s1 ≡ ys = ap (drop K) whole ∙ drop_at (take k s) ys K front in
    let answers : ys ≡ slot_words K (both_cases (bit_at s) x) o =
    ey ∙ rw (rest_of k s, rest_of 1 (x ∷ o), ek)
    (answers_self c (both_cases (bit_at s) x) o (drop K s) (rest_in (6 + c) x o b) (stages_tail c (bit_at s) x o s e)) in
    let same : Agree (6 + c) (bit_at s1) (bit_at s) = λ p h.
    (let m : p < 64 * K = omega (arith, points c) in
    let n : p < 64 * k = omega (arith, points c, ek) in
    sym (front_at K s1 p m) ∙ ap (λ (t : List ℕ). bit_at t p) (ap (take K) whole ∙ take_at (take k s) ys K front) ∙ front_at k s p n) in
    eo ∙ ap₂ ◌++◌
    (words_agree c _ _ (λ p h.
    put_answers c (both_cases (bit_at s) x) o (drop K s1) _ (rest_in (6 + c) x o b) (no_rest x o once) (tail ∙ answers) p h
    ∙ ap₂ ◌⊕◌ (same _ (answered_lt (6 + c) (both_cases (bit_at s) x) o p (rest_in (6 + c) x o b) h))
    (answered_kept (both_cases (bit_at s) x) o p x (no_first x o once))))
    (tail ∙ answers)

pub length_slots : (c : ℕ) (g : ℕ → Bool) (o : List ℕ) → length (slot_words (2 ^ c) g o) ≡ length o * 2 ^ c
unfolding slot_words
length_slots c g [] = sym (zero-mul (2 ^ c))
length_slots c g (x ∷ o) =
    length-append (words_of (2 ^ c) (answer_at g x o)) (slot_words (2 ^ c) (both_cases g x) o)
    ∙ ap₂ ◌+◌ (length_words (2 ^ c) _) (length_slots c (both_cases g x) o) ∙ flip (length o) ∙ sym (suc-mul (length o) (2 ^ c))
  where
    flip : (n : ℕ) → 2 ^ c + n * 2 ^ c ≡ n * 2 ^ c + 2 ^ c
    flip n = omega arith

pub answered-size : (c k : ℕ) (h : ℕ → Bool) (o s ys : List ℕ) → k ≡ 2 ^ c → 1 ≤ length o → s ≡ stage_words (2 ^ c) (bit_at s) o
    → ys ≡ slot_words (2 ^ c) h (take (length o - 1) (drop 1 o)) → length (put_mid k (length s - k) s ys) ≡ length o * 2 ^ c
answered-size c k h o s ys ek l e ey =
    let size : length s ≡ length o * 2 ^ c = ap length e ∙ length_stages c (bit_at s) o in
    same_len_mid k (length s - k) s ys (ap length ey ∙ length_slots c h _ ∙ sym (slots_rest k c o s ek size l)) ∙ size

-- ---- places
place_lt : (o : List ℕ) (x : ℕ) → has x o ≡ true → place_of o x < length o
unfolding place_of has
place_lt [] x h = absurd (true≢false (sym h))
place_lt (y ∷ o) x h = go (eqb x y) h (place_lt o x)
  where
    go : (b : Bool) → (b || has x o) ≡ true → (has x o ≡ true → place_of o x < length o) → cond b 0 (suc (place_of o x)) < suc (length o)
    go true h ih = omega arith
    go false h ih = omega (arith, ih h)

-- what `position` tells of a letter that stands in the order
pub place_found : (o : List ℕ) (x : ℕ) (r : Option ℕ) → has x o ≡ true
    → MatchOption r (AllWithin (λ y. y ≢ x) o 0 (length o)) (λ i. (i < length o) × HoldsAt (λ y. y ≡ x) o i × AllWithin (λ y. y ≢ x) o 0 i)
    → (r ≡ Some (place_of o x)) × (place_of o x < length o)
unfolding place_of
place_found o x r h m =
    let l : place_of o x < length o = place_lt o x h in
    (go r (index_from_first (λ t. place_of t x) (λ y. y ≡ x) (λ y. y ≢ x) none hit miss o r m) l, l)
  where
    none : place_of [] x ≡ 0
    none = refl

    hit : (y : ℕ) (t : List ℕ) → y ≡ x → place_of (y ∷ t) x ≡ 0
    hit y t e = rw (eq-eqb x y (sym e))

    miss : (y : ℕ) (t : List ℕ) → y ≢ x → place_of (y ∷ t) x ≡ place_of t x + 1
    miss y t n = rw (ne_eqb x y (λ q. n (sym q))) (omega arith)

    go : (r : Option ℕ) → place_of o x ≡ unwrap_or r (length o) → place_of o x < length o → r ≡ Some (place_of o x)
    go None e l = absurd (omega arith)
    go (Some i) e l = ap Some (sym e)
