-- Polynomials over a finite list of letters (document 01, 'The table of a polynomial', second paragraph).
-- The list is any list: unknowns, givens and other letters, of any length and in any order.
-- Assumes nothing.
use Rattle.std.specs.Prelude.{◌≡◌, Bool, true, false, ◌||◌, cond, List, [], ◌∷◌, ℕ, suc, ◌+◌, ◌*◌, ◌<◌, eqb, length}
use Rattle.ring.specs.Letters.{digit}
use Rattle.ring.specs.Polynomial.{Polynomial, value}

-- u to z are unknown 0 to 5, a to h are given 0 to 7; every further letter that a designer may use is an other
pub data Letter : Type 0 where
  unknown : ℕ → Letter
  given : ℕ → Letter
  other : ℕ → Letter

-- are the two letters one?
abbrev pub same_letter : Letter → Letter → Bool
same_letter (unknown i) (unknown j) = eqb i j
same_letter (unknown i) (given j) = false
same_letter (unknown i) (other j) = false
same_letter (given i) (unknown j) = false
same_letter (given i) (given j) = eqb i j
same_letter (given i) (other j) = false
same_letter (other i) (unknown j) = false
same_letter (other i) (given j) = false
same_letter (other i) (other j) = eqb i j

-- is the letter in the list?
unfoldable pub holds : List Letter → Letter → Bool
holds [] l = false
holds (x ∷ L) l = same_letter x l || holds L l

-- 'one finite list of letters that holds the givens': in any order, among any other letters
abbrev pub HoldsGivens : ℕ → List Letter → Type 0
HoldsGivens G L = (i : ℕ) → i < G → holds L (given i) ≡ true

-- the place at which the letter first stands in the list
unfoldable pub place : List Letter → Letter → ℕ
place [] l = 0
place (x ∷ L) l = cond (same_letter x l) 0 (suc (place L l))

-- a value for every letter
abbrev pub Valuation : Type 0
Valuation = Letter → Bool

-- the point of a valuation: bit i is the value of the letter at place i of L
unfoldable pub point_of : List Letter → Valuation → ℕ
point_of [] v = 0
point_of (x ∷ L) v = point_of L v * 2 + digit (v x)

-- 'A polynomial over a finite list of letters is a set of monomials in those letters, valued in the same way':
-- a monomial is a mask below 2 ^ length L, bit i for the letter at place i of L
unfoldable pub value_over : List Letter → Polynomial → Valuation → Bool
value_over L f v = value (length L) f (point_of L v)
