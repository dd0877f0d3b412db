-- Boole's elimination through any order on truth values in words, k words to a function. The method at points is that of
-- `solution/specs/Inner/ByPoints.antt`, which the laws of `solution` tie to the polynomials.
-- Assumes nothing.
use Rattle.std.specs.Prelude.{◌≡◌, Bool, true, not, ◌&&◌, cond, List, [], ◌∷◌, ◌++◌, ℕ, suc, ◌+◌, ◌*◌, ◌/◌, ◌%◌, ◌<◌, eqb, get_or, drop, set}
use Rattle.ring.specs.Letters.{bit, assign}
use Rattle.ring.specs.Lists.{has}
use Rattle.ring.specs.Polynomial.{◌⊕◌}
use Rattle.solution.specs.Inner.ByPoints.{both_cases, answered_through, zero_choice}
use Rattle.words.specs.Inner.Words.{word_of, words_of, bit_at}

-- the letters of a list are below n
abbrev pub InLetters : ℕ → List ℕ → Type 0
InLetters n order = (x : ℕ) → has x order ≡ true → x < n

-- at the points of k words f does not turn on the unknowns below u
abbrev pub IgnoresUnknowns : ℕ → ℕ → (ℕ → Bool) → Type 0
IgnoresUnknowns u k f = (p : ℕ) → p < 64 * k → f p ≡ f (zero_choice u p)

-- no letter stands in the list twice
unfoldable pub no_repeats : List ℕ → Bool
no_repeats [] = true
no_repeats (x ∷ order) = not (has x order) && no_repeats order

-- the conditions before each unknown goes
unfoldable pub stage_words : ℕ → (ℕ → Bool) → List ℕ → List ℕ
stage_words k f [] = []
stage_words k f (x ∷ order) = words_of k f ++ stage_words k (both_cases f x) order

-- the answer for x, the unknowns of the order being later: f + x with the later answers put in
unfoldable pub answer_at : (ℕ → Bool) → ℕ → List ℕ → ℕ → Bool
answer_at f x order p = f (answered_through (both_cases f x) order p) ⊕ bit p x

-- the answers, in the order: a slot of k words for each
unfoldable pub slot_words : ℕ → (ℕ → Bool) → List ℕ → List ℕ
slot_words k f [] = []
slot_words k f (x ∷ order) = words_of k (answer_at f x order) ++ slot_words k (both_cases f x) order

-- a with the values in `slots` put for the letters of the order, the last one first
unfoldable pub put_words : ℕ → List ℕ → List ℕ → (ℕ → Bool) → ℕ → Bool
put_words k slots [] a p = a p
put_words k slots (x ∷ order) a p = put_words k (drop k slots) order a (assign p x (bit_at slots p))

-- the stages with the answer for the first unknown in the place of its own, the later answers standing behind: f + x with these put in
abbrev pub first_answered : ℕ → List ℕ → List ℕ → List ℕ
first_answered k order stages =
    words_of k (put_words k (drop k stages) (drop 1 order) (λ p. bit_at stages p ⊕ bit p (get_or order 0 0))) ++ drop k stages

-- where x stands in the order
unfoldable pub place_of : List ℕ → ℕ → ℕ
place_of [] x = 0
place_of (y ∷ order) x = cond (eqb x y) 0 (suc (place_of order x))

-- word w of the answers by unknown, k words to an unknown, from those in the order's slots
unfoldable pub slot_word : ℕ → List ℕ → List ℕ → ℕ → ℕ
slot_word k order slots w = get_or slots (place_of order (w / k) * k + w % k) 0

-- ---- one word to an answer, as up to six letters have it
-- the answers of the order's unknowns, each in the place of its unknown; the other places as they were
unfoldable pub answered_words : (ℕ → Bool) → List ℕ → List ℕ → List ℕ
answered_words f [] answers = answers
answered_words f (x ∷ order) answers = set (answered_words (both_cases f x) order answers) x (word_of (answer_at f x order))

-- a with the values in the places of the order's letters put for them, the last one first
unfoldable pub put_placed : List ℕ → List ℕ → (ℕ → Bool) → ℕ → Bool
put_placed answers [] a p = a p
put_placed answers (x ∷ order) a p = put_placed answers order a (assign p x (bit (get_or answers x 0) p))
