-- Polynomials over a list of letters: the value of what is put into what, and the engine's own list.
-- The law to know is `value-put_in`: the value of f with σ put in is the value of f at the point of σ's values.
-- Assumes nothing.
use mathlib.Core.Path.{◌≡◌, refl, sym, ap, ap₂, ◌∙◌}
use mathlib.Core.Bool.{Bool, true, false, ◌||◌, cond, or-true, true≢false}
use mathlib.Core.List.{List, [], ◌∷◌}
use Prim.Native.Nat.{ℕ, zero, suc, ◌+◌, ◌*◌, ◌-◌, ◌^◌, ◌<◌}
use native.Mathlib.Omega.{arith}
use lib.Dec.{ltb}
use lib.ListN.{length}
use borrow.Author.Tests.{eqb-true, eq-eqb, ltb-false, lt-ltb, le-ltb}
use Rattle.ring.specs.Letters.{digit, bit, point_where}
use Rattle.ring.specs.Polynomial.{Polynomial, value, letter}
use Rattle.ring.specs.Lists.{listed}
use Rattle.ring.proofs.Lists.{length-listed}
use Rattle.ring.proofs.Points.{bit_zero, bit_suc, low_digit, half_digit, point_where_cong, point_where_bits}
use Rattle.ring.proofs.Substitute.{value-letter, value-substitute}
use Rattle.ring.proofs.Bool.{digit_lt}
use Rattle.solution.specs.Letters.{Letter, unknown, given, other, same_letter, holds, HoldsGivens, place, Valuation, point_of}
use Rattle.solution.specs.Letters.{value_over}
use Rattle.solution.specs.Substitution.{Substitution, letter_at, own_letters, put_in}

pub same_letter_true : (x l : Letter) → same_letter x l ≡ true → x ≡ l
same_letter_true (unknown i) (unknown j) e = ap unknown (eqb-true i j e)
same_letter_true (unknown i) (given j) e = absurd (true≢false (sym e))
same_letter_true (unknown i) (other j) e = absurd (true≢false (sym e))
same_letter_true (given i) (unknown j) e = absurd (true≢false (sym e))
same_letter_true (given i) (given j) e = ap given (eqb-true i j e)
same_letter_true (given i) (other j) e = absurd (true≢false (sym e))
same_letter_true (other i) (unknown j) e = absurd (true≢false (sym e))
same_letter_true (other i) (given j) e = absurd (true≢false (sym e))
same_letter_true (other i) (other j) e = ap other (eqb-true i j e)

pub same_letter_refl : (l : Letter) → same_letter l l ≡ true
same_letter_refl (unknown i) = eq-eqb i i refl
same_letter_refl (given i) = eq-eqb i i refl
same_letter_refl (other i) = eq-eqb i i refl

pub place_lt : (L : List Letter) (l : Letter) → holds L l ≡ true → place L l < length L
unfolding holds place
place_lt [] l h = absurd (true≢false (sym h))
place_lt (x ∷ L) l h = go (same_letter x l) h (place_lt L l)
  where
    go : (b : Bool) → (b || holds L l) ≡ true → (holds L l ≡ true → place L l < length L) → cond b 0 (suc (place L l)) < suc (length L)
    go true h ih = omega arith
    go false h ih = omega (arith, ih h)

-- the place of a letter has the letter's value
pub bit-place : (L : List Letter) (l : Letter) (v : Valuation) → holds L l ≡ true → bit (point_of L v) (place L l) ≡ v l
unfolding holds place point_of
bit-place [] l v h = absurd (true≢false (sym h))
bit-place (x ∷ L) l v h = go (same_letter x l) refl h (bit-place L l v)
  where
    go : (b : Bool) → same_letter x l ≡ b → (b || holds L l) ≡ true → (holds L l ≡ true → bit (point_of L v) (place L l) ≡ v l)
        → bit (point_of L v * 2 + digit (v x)) (cond b 0 (suc (place L l))) ≡ v l
    go true e h ih = bit_zero (point_of L v * 2 + digit (v x)) ∙ low_digit (point_of L v) (v x) ∙ ap v (same_letter_true x l e)
    go false e h ih =
        bit_suc (point_of L v * 2 + digit (v x)) (place L l)
        ∙ ap (λ (y : ℕ). bit y (place L l)) (half_digit (point_of L v) (digit (v x)) (digit_lt (v x))) ∙ ih h

-- the values of the n letters of a table once σ is put in: letter j has that of σ j, a given its own
unfoldable pub replaced_value : ℕ → List Letter → Substitution → Valuation → ℕ → Bool
replaced_value U L σ v j = cond (ltb j U) (value_over L (σ j) v) (v (letter_at U j))

pub replaced_value_unknown : (U : ℕ) (L : List Letter) (σ : Substitution) (v : Valuation) (j : ℕ) → j < U
    → replaced_value U L σ v j ≡ value_over L (σ j) v
unfolding replaced_value
replaced_value_unknown U L σ v j h = rw (lt-ltb j U h)

module _ (U G : ℕ) (L : List Letter) (givens : HoldsGivens G L) where
  holds_at : (j : ℕ) → j < U + G → ltb j U ≡ false → holds L (letter_at U j) ≡ true
  unfolding letter_at
  holds_at j l e = rw e (givens (j - U) (omega (arith, ltb-false j U e)))

  -- the value of f with σ put in is the value of f at the values of σ: all at once, the givens kept
  pub value-put_in : (f : Polynomial) (σ : Substitution) (v : Valuation)
      → value_over L (put_in U G L f σ) v ≡ value (U + G) f (point_where (U + G) (replaced_value U L σ v))
  unfolding value_over put_in replaced_value
  value-put_in f σ v =
      value-substitute (U + G) (length L) f (λ j. cond (ltb j U) (σ j) (letter (place L (letter_at U j)))) (point_of L v)
      ∙ ap (value (U + G) f) (point_where_cong (U + G) _ _ (λ j l. go j l (ltb j U) refl))
    where
      go : (j : ℕ) → j < U + G → (b : Bool) → ltb j U ≡ b
          → value (length L) (cond b (σ j) (letter (place L (letter_at U j)))) (point_of L v)
          ≡ cond b (value (length L) (σ j) (point_of L v)) (v (letter_at U j))
      go j l true e = refl
      go j l false e =
          value-letter (length L) (place L (letter_at U j)) (point_of L v) (place_lt L (letter_at U j) (holds_at j l e))
          ∙ bit-place L (letter_at U j) v (holds_at j l e)

-- with no unknowns there is nothing to replace
pub same_without_unknowns : (G : ℕ) (f : Polynomial) (L : List Letter) → HoldsGivens G L → (σ τ : Substitution) (v : Valuation)
    → value_over L (put_in 0 G L f σ) v ≡ value_over L (put_in 0 G L f τ) v
unfolding replaced_value
same_without_unknowns G f L givens σ τ v =
    value-put_in 0 G L givens f σ v
    ∙ ap (value (0 + G) f) (point_where_cong (0 + G) _ _ (λ j l. rw (le-ltb j 0 (omega arith))))
    ∙ sym (value-put_in 0 G L givens f τ v)

-- the engine's own list
holds_listed : (k : ℕ) (h : ℕ → Letter) (j : ℕ) → j < k → holds (listed k h) (h j) ≡ true
unfolding listed holds
holds_listed zero h j l = absurd (omega arith)
holds_listed (suc k) h zero l = rw (same_letter_refl (h 0))
holds_listed (suc k) h (suc j) l = rw (holds_listed k (λ i. h (suc i)) j (omega arith)) (or-true (same_letter (h 0) (h (suc j))))

point_of-listed : (k : ℕ) (h : ℕ → Letter) (v : Valuation) → point_of (listed k h) v ≡ point_where k (λ j. v (h j))
unfolding listed point_of point_where
point_of-listed zero h v = refl
point_of-listed (suc k) h v = ap (λ (x : ℕ). x * 2 + digit (v (h 0))) (point_of-listed k (λ i. h (suc i)) v)

pub letter_given : (U i : ℕ) → letter_at U (U + i) ≡ given i
unfolding letter_at
letter_given U i = let e : U + i - U ≡ i = omega arith in rw (le-ltb (U + i) U (omega arith), e)

pub own_holds : (U G : ℕ) → HoldsGivens G (own_letters U G)
unfolding own_letters
own_holds U G i h = rw (letter_given U i) at (holds_listed (U + G) (letter_at U) (U + i) (omega arith))

unfoldable pub own_point : ℕ → ℕ → Valuation → ℕ
own_point U G v = point_where (U + G) (λ j. v (letter_at U j))

pub value_own : (U G : ℕ) (f : Polynomial) (v : Valuation) → value_over (own_letters U G) f v ≡ value (U + G) f (own_point U G v)
unfolding own_letters value_over own_point
value_own U G f v = ap₂ (λ (k p : ℕ). value k f p) (length-listed (U + G) (letter_at U)) (point_of-listed (U + G) (letter_at U) v)

-- the valuation of a point
unfoldable pub valuation : ℕ → ℕ → Valuation
valuation U p (unknown j) = bit p j
valuation U p (given i) = bit p (U + i)
valuation U p (other k) = false

pub valuation_letter : (U p j : ℕ) → valuation U p (letter_at U j) ≡ bit p j
unfolding letter_at valuation
valuation_letter U p j = go (ltb j U) refl
  where
    go : (b : Bool) → ltb j U ≡ b → valuation U p (cond b (unknown j) (given (j - U))) ≡ bit p j
    go true e = refl
    go false e = let k : U + (j - U) ≡ j = omega (arith, ltb-false j U e) in ap (bit p) k

pub own_point_valuation : (U G p : ℕ) → p < 2 ^ (U + G) → own_point U G (valuation U p) ≡ p
unfolding own_point
own_point_valuation U G p h = point_where_cong (U + G) _ _ (λ j l. valuation_letter U p j) ∙ point_where_bits (U + G) p h

pub point_of_local : (L : List Letter) (v w : Valuation) → ((l : Letter) → holds L l ≡ true → v l ≡ w l) → point_of L v ≡ point_of L w
unfolding point_of holds
point_of_local [] v w e = refl
point_of_local (x ∷ L) v w e =
    ap₂ (λ (p : ℕ) (b : Bool). p * 2 + digit b) (point_of_local L v w (λ l h. e l (rw h (or-true (same_letter x l)))))
    (e x (rw (same_letter_refl x)))
