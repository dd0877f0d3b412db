-- Boole's method by truth values, point by point, through the unknowns of any list in any order.
-- `proofs/Values.antt` and `proofs/ByPoints.antt` show that these are the values of the polynomials that document 01 names.
-- Assumes nothing.
use Rattle.std.specs.Prelude.{Bool, true, false, ◌&&◌, List, [], ◌∷◌, ℕ, ◌*◌, ◌/◌, ◌^◌}
use Rattle.ring.specs.Letters.{bit, assign}
use Rattle.ring.specs.Polynomial.{◌⊕◌}

-- x*(r + s + 1) + s, of truth values
unfoldable pub chosen_value : Bool → Bool → Bool → Bool
chosen_value r s x = (x && (r ⊕ s ⊕ true)) ⊕ s

-- r*s: the product of the two cases of x
unfoldable pub both_cases : (ℕ → Bool) → ℕ → ℕ → Bool
both_cases f x p = f (assign p x true) && f (assign p x false)

-- what remains of f when the unknowns of the list have gone
unfoldable pub remains_through : (ℕ → Bool) → List ℕ → ℕ → Bool
remains_through f [] = f
remains_through f (x ∷ order) = remains_through (both_cases f x) order

-- the point q with the value x*(r + s + 1) + s for x, where the parameter x is b
unfoldable pub chosen_point : (ℕ → Bool) → ℕ → Bool → ℕ → ℕ
chosen_point f x b q = assign q x (chosen_value (f (assign q x true)) (f (assign q x false)) b)

-- the point to which the answers lead from p: the later unknowns first, each parameter as p has it
unfoldable pub answered_through : (ℕ → Bool) → List ℕ → ℕ → ℕ
answered_through f [] p = p
answered_through f (x ∷ order) p = chosen_point f x (bit p x) (answered_through (both_cases f x) order p)

-- the point p with every unknown, of U, at 0
unfoldable pub zero_choice : ℕ → ℕ → ℕ
zero_choice U p = p / 2 ^ U * 2 ^ U
