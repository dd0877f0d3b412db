-- The values of Boole's polynomials, and of Löwenheim's: those of the method at points.
-- Assumes nothing.
use mathlib.Core.Path.{◌≡◌, refl, sym, ap, ap₂, fun_ext, ◌∙◌}
use mathlib.Core.Bool.{Bool, true, false, ◌&&◌, cond}
use mathlib.Core.List.{List, [], ◌∷◌}
use Prim.Native.Nat.{ℕ, ◌^◌, ◌<◌}
use lib.Dec.{eqb}
use borrow.Author.Tests.{eqb-true, eqb-false}
use Rattle.ring.specs.Letters.{bit, point_where, assign}
use Rattle.ring.specs.Polynomial.{Polynomial, ◌⊕◌, value, constant, letter, sum, product, restrict, substitute}
use Rattle.ring.specs.Lists.{has}
use Rattle.ring.proofs.Lists.{has_first, has_rest}
use Rattle.ring.proofs.Points.{bit-assign, bit_assign_other, point_where_cong, point_where_bits}
use Rattle.ring.proofs.Value.{value-sum, value-product}
use Rattle.ring.proofs.Restrict.{value-restrict}
use Rattle.ring.proofs.Substitute.{value-constant, value-letter, value-substitute}
use Rattle.solution.specs.Substitution.{Substitution}
use Rattle.solution.specs.Elimination.{next_condition, remains, answer_from, boole_answers, lowenheim}
use Rattle.solution.specs.Inner.ByPoints.{chosen_value, both_cases, remains_through, chosen_point, answered_through}
use Rattle.solution.proofs.Elimination.{answered_lt}

pub value-next : (n : ℕ) (f : Polynomial) (x : ℕ) → x < n → value n (next_condition n f x) ≡ both_cases (value n f) x
unfolding next_condition both_cases
value-next n f x h =
    fun_ext (λ p. value-product n (restrict f x true) (restrict f x false) p
    ∙ ap₂ ◌&&◌ (value-restrict n f x true p h) (value-restrict n f x false p h))

pub value-remains : (n : ℕ) (f : Polynomial) (order : List ℕ) → ((x : ℕ) → has x order ≡ true → x < n)
    → value n (remains n f order) ≡ remains_through (value n f) order
unfolding remains remains_through
value-remains n f [] b = refl
value-remains n f (x ∷ order) b =
    value-remains n (next_condition n f x) order (λ y e. b y (has_rest y x order e))
    ∙ ap (λ (g : ℕ → Bool). remains_through g order) (value-next n f x (b x (has_first x order)))

value_answer : (n x : ℕ) (r s : Polynomial) (p : ℕ) → x < n
    → value n (answer_from n x r s) p ≡ chosen_value (value n r p) (value n s p) (bit p x)
unfolding answer_from chosen_value
value_answer n x r s p h =
    value-sum n (product n (letter x) (sum (sum r s) (constant true))) s p
    ∙ ap (λ (z : Bool). z ⊕ value n s p) (value-product n (letter x) (sum (sum r s) (constant true)) p
    ∙ ap₂ ◌&&◌ (value-letter n x p h) (value-sum n (sum r s) (constant true) p ∙ ap₂ ◌⊕◌ (value-sum n r s p) (value-constant n true p)))

-- the answer of x from those of the later unknowns, which lead from p to q
module _ (n : ℕ) (f : Polynomial) (x : ℕ) (hx : x < n) (p : ℕ)
    (later : Substitution) (q : ℕ) (q_lt : q < 2 ^ n) (ih : (i : ℕ) → i < n → value n (later i) p ≡ bit q i) where
  there : point_where n (λ i. value n (later i) p) ≡ q
  there = point_where_cong n _ _ ih ∙ point_where_bits n q q_lt

  side : (c : Bool) → value n (substitute n n (restrict f x c) later) p ≡ value n f (assign q x c)
  side c = value-substitute n n (restrict f x c) later p ∙ ap (value n (restrict f x c)) there ∙ value-restrict n f x c q hx

  step : (j : ℕ) → j < n
      → value n (cond (eqb j x) (answer_from n x (substitute n n (restrict f x true) later) (substitute n n (restrict f x false) later))
      (later j)) p
      ≡ bit (chosen_point (value n f) x (bit p x) q) j
  unfolding chosen_point
  step j hj = go (eqb j x) refl
    where
      go : (t : Bool) → eqb j x ≡ t
          → value n (cond t (answer_from n x (substitute n n (restrict f x true) later) (substitute n n (restrict f x false) later))
          (later j)) p
          ≡ bit (chosen_point (value n f) x (bit p x) q) j
      go true e =
          rw (eqb-true j x e) (value_answer n x _ _ p hx ∙ ap₂ (λ (r s : Bool). chosen_value r s (bit p x)) (side true) (side false)
          ∙ sym (bit-assign q x _))
      go false e = ih j hj ∙ sym (bit_assign_other q j x _ (eqb-false j x e))

pub value_answers : (n : ℕ) (f : Polynomial) (order : List ℕ) → ((x : ℕ) → has x order ≡ true → x < n)
    → (j p : ℕ) → j < n → p < 2 ^ n → value n (boole_answers n f order j) p ≡ bit (answered_through (value n f) order p) j
unfolding boole_answers answered_through
value_answers n f [] b j p hj hp = value-letter n j p hj
value_answers n f (x ∷ order) b j p hj hp =
    step n f x (b x (has_first x order)) p (boole_answers n (next_condition n f x) order) (answered_through (both_cases (value n f) x) order p)
    (answered_lt n (both_cases (value n f) x) order p (λ y e. b y (has_rest y x order e)) hp)
    (λ i l. value_answers n (next_condition n f x) order (λ y e. b y (has_rest y x order e)) i p l hp
    ∙ ap (λ (g : ℕ → Bool). bit (answered_through g order p) i) (value-next n f x (b x (has_first x order))))
    j hj

pub value-lowenheim : (n : ℕ) (f : Polynomial) (b : Substitution) (x p : ℕ) → x < n
    → value n (lowenheim n f b x) p ≡ (bit p x ⊕ (value n f p && (bit p x ⊕ value n (b x) p)))
unfolding lowenheim
value-lowenheim n f b x p h =
    value-sum n (letter x) (product n f (sum (letter x) (b x))) p
    ∙ ap₂ ◌⊕◌ (value-letter n x p h) (value-product n f (sum (letter x) (b x)) p
    ∙ ap (λ (z : Bool). value n f p && z) (value-sum n (letter x) (b x) p ∙ ap (λ (z : Bool). z ⊕ value n (b x) p) (value-letter n x p h)))
