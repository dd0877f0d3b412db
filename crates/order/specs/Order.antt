-- The written order (document 01, 'The table of a polynomial'): 'The written order puts fewer letters first and, among equals, the smaller mask.'
-- As a relation on masks, `before`; and as the list of the masks for n letters, `order n`.
-- Assumes nothing.
use Rattle.std.specs.Prelude.{Bool, true, cond, ◌&&◌, ◌||◌, List, [], ◌∷◌, ◌++◌, ℕ, zero, suc, ◌^◌, eqb, ltb}
use Rattle.ring.specs.Letters.{bit}
use Rattle.ring.specs.Polynomial.{Polynomial, count}
use Rattle.ring.specs.Lists.{listed}

-- the number of letters of the monomial m: how many bits its mask has (bit j is for letter j, and a mask with bit j is above j)
unfoldable pub letters : ℕ → ℕ
letters m = count m (bit m)

-- 'fewer letters first and, among equals, the smaller mask': m stands before k
unfoldable pub before : ℕ → ℕ → Bool
before m k = ltb (letters m) (letters k) || (eqb (letters m) (letters k) && ltb m k)

-- those of a list that pass the test, in their order
unfoldable pub keep : (ℕ → Bool) → List ℕ → List ℕ
keep test [] = []
keep test (m ∷ ms) = cond (test m) (m ∷ keep test ms) (keep test ms)

-- the numbers below k, rising
unfoldable pub below : ℕ → List ℕ
below k = listed k (λ i. i)

-- the masks for n letters that have fewer than k: those with no letter, then those with one, and so on, each group rising
unfoldable pub groups : ℕ → ℕ → List ℕ
groups n zero = []
groups n (suc k) = groups n k ++ keep (λ m. eqb (letters m) k) (below (2 ^ n))

-- the masks for n letters in written order: none has more than n
unfoldable pub order : ℕ → List ℕ
order n = groups n (suc n)

-- the monomials that a polynomial in n letters has, in written order
unfoldable pub monomials : ℕ → Polynomial → List ℕ
monomials n f = keep f (order n)

-- each mask of the list stands before the next: 'all in order, none twice'
unfoldable pub rises : List ℕ → Bool
rises [] = true
rises (m ∷ []) = true
rises (m ∷ (k ∷ ks)) = before m k && rises (k ∷ ks)
