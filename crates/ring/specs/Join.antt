-- Polynomials joined (document 02, C-12): the condition of which a substitution has to make every one zero.
-- Assumes nothing.
use Rattle.std.specs.Prelude.{false, List, [], ◌∷◌, ℕ}
use Rattle.ring.specs.Polynomial.{Polynomial, constant, sum, product}

-- 'f + h + f*h'
unfoldable pub join : ℕ → Polynomial → Polynomial → Polynomial
join n f h = sum (sum f h) (product n f h)

-- a list of polynomials joined, the last added at its head, from 'the empty table'
unfoldable pub joined : ℕ → List Polynomial → Polynomial
joined n [] = constant false
joined n (h ∷ hs) = join n (joined n hs) h

-- h is in the list
pub data Member {A : Type 0} (h : A) : List A → Type 0 where
  here : {hs : List A} → Member h (h ∷ hs)
  behind : {k : A} {hs : List A} → Member h hs → Member h (k ∷ hs)
