-- Nothing is left out by polynomials over a list: every sum of products of its letters, as a designer writes it, is the value of one,
-- and so is every function of the letters' values.
-- Assumes nothing.
use mathlib.Core.Path.{◌≡◌, ap₂, ◌∙◌}
use mathlib.Core.Bool.{Bool, true, false, ◌&&◌, or-true}
use mathlib.Core.List.{List, [], ◌∷◌}
use Prim.Native.Nat.{ℕ, ◌^◌, ◌<◌}
use native.Mathlib.Nat.{pow-suc}
use native.Mathlib.Omega.{arith}
use lib.ListN.{length}
use Rattle.ring.specs.Letters.{bit}
use Rattle.ring.specs.Polynomial.{Polynomial, ◌⊕◌, value, constant, letter, sum, product}
use Rattle.ring.proofs.Value.{value-sum, value-product, involution}
use Rattle.ring.proofs.Substitute.{value-constant, value-letter}
use Rattle.ring.proofs.Bool.{digit_lt}
use Rattle.solution.specs.Letters.{Letter, same_letter, holds, place, Valuation, point_of, value_over}
use Rattle.solution.proofs.Letters.{place_lt, bit-place, same_letter_refl}

-- as it is written down: a list of monomials, each a list of letters, in any order and with repeats
pub all_ones : List Letter → Valuation → Bool
all_ones [] v = true
all_ones (l ∷ m) v = v l && all_ones m v

pub sum_of : List (List Letter) → Valuation → Bool
sum_of [] v = false
sum_of (m ∷ t) v = all_ones m v ⊕ sum_of t v

module _ (L : List Letter) where
  monomial_over : (m : List Letter) → ((l : Letter) → holds m l ≡ true → holds L l ≡ true) → (f : Polynomial)
      × ((v : Valuation) → value_over L f v ≡ all_ones m v)
  unfolding all_ones holds value_over
  monomial_over [] h = (constant true, λ v. value-constant (length L) true (point_of L v))
  monomial_over (l ∷ m) h =
      let in_L : holds L l ≡ true = h l (rw (same_letter_refl l)) in
      let r = monomial_over m (λ k e. h k (rw e (or-true (same_letter l k)))) in (
        product (length L) (letter (place L l)) r.0,
        λ v. value-product (length L) (letter (place L l)) r.0 (point_of L v)
            ∙ ap₂ ◌&&◌ (value-letter (length L) (place L l) (point_of L v) (place_lt L l in_L) ∙ bit-place L l v in_L) (r.1 v),
      )

  -- the letters of every monomial are in L
  pub Inside : List (List Letter) → Type 0
  Inside [] = Unit {0}
  Inside (m ∷ t) = ((l : Letter) → holds m l ≡ true → holds L l ≡ true) × Inside t

  pub written : (t : List (List Letter)) → Inside t → (f : Polynomial) × ((v : Valuation) → value_over L f v ≡ sum_of t v)
  unfolding Inside sum_of value_over
  written [] h = (constant false, λ v. value-constant (length L) false (point_of L v))
  written (m ∷ t) h =
      let a = monomial_over m h.0 in
      let b = written t h.1 in
      (sum a.0 b.0, λ v. value-sum (length L) a.0 b.0 (point_of L v) ∙ ap₂ ◌⊕◌ (a.1 v) (b.1 v))

-- the valuation of a point of L
from_point : List Letter → ℕ → Valuation
from_point L p l = bit p (place L l)

point_of_lt : (L : List Letter) (v : Valuation) → point_of L v < 2 ^ length L
unfolding point_of
point_of_lt [] v = omega arith
point_of_lt (x ∷ L) v = omega (arith, pow-suc 2 (length L), point_of_lt L v, digit_lt (v x))

-- every function that turns on the values of the list's letters alone is the value of a polynomial over the list
pub every_function : (L : List Letter) (h : Valuation → Bool)
    → ((v w : Valuation) → ((l : Letter) → holds L l ≡ true → v l ≡ w l) → h v ≡ h w)
    → (f : Polynomial) × ((v : Valuation) → value_over L f v ≡ h v)
unfolding value_over from_point
every_function L h local = (
  value (length L) (λ p. h (from_point L p)),
  λ v. involution (length L) (λ p. h (from_point L p)) (point_of L v) (point_of_lt L v)
      ∙ local (from_point L (point_of L v)) v (λ l e. bit-place L l v e),
)
