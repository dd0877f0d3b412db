-- Polynomials in n letters (document 01, 'The table of a polynomial'): sets of monomials, their values, and the ring's operations.
-- A monomial is a mask below 2 ^ n, bit j for letter j; mask 0 is the monomial 1.
-- Assumes nothing.
use Rattle.std.specs.Prelude.{Bool, true, false, not, ◌&&◌, cond, ℕ, zero, suc, ◌+◌, ◌%◌, ◌^◌, eqb}
use Rattle.std.specs.Int.Bits.{bit_and, bit_or}
use Rattle.ring.specs.Letters.{digit, bit}

-- a set of monomials: is the monomial with this mask present?
abbrev pub Polynomial : Type 0
Polynomial = ℕ → Bool

infixl 32 ◌⊕◌
-- exclusive or, the sum of the two-element ring
abbrev pub ◌⊕◌ : Bool → Bool → Bool
true ⊕ b = not b
false ⊕ b = b

-- how many of the numbers below k pass the test
unfoldable pub count : ℕ → (ℕ → Bool) → ℕ
count zero test = 0
count (suc k) test = count k test + digit (test k)

-- do all the numbers below k pass the test?
unfoldable pub every_below : ℕ → (ℕ → Bool) → Bool
every_below zero test = true
every_below (suc k) test = every_below k test && test k

-- is the number of those that pass odd?
unfoldable pub odd : ℕ → (ℕ → Bool) → Bool
odd k test = eqb (count k test % 2) 1

-- the letters of the monomial m are all 1 at the point p
unfoldable pub within : ℕ → ℕ → Bool
within m p = eqb (bit_and m p) m

-- 'Its value .. is 1 if the number of present monomials whose letters are all 1 there is odd, else 0'
unfoldable pub value : ℕ → Polynomial → ℕ → Bool
value n f p = odd (2 ^ n) (λ m. f m && within m p)

-- the constants: 0 has no monomial, 1 has the monomial 1 alone
unfoldable pub constant : Bool → Polynomial
constant b m = b && eqb 0 m

-- letter j alone
unfoldable pub letter : ℕ → Polynomial
letter j m = eqb (2 ^ j) m

-- the sum: 'equal monomials cancel in pairs'
unfoldable pub sum : Polynomial → Polynomial → Polynomial
sum f g m = f m ⊕ g m

-- the product, pairwise: each monomial of f with each of g gives the one with the letters of both; equal ones cancel in pairs
unfoldable pub product : ℕ → Polynomial → Polynomial → Polynomial
product n f g m = odd (2 ^ n) (λ i. odd (2 ^ n) (λ j. (f i && g j) && eqb (bit_or i j) m))

-- f with letter j set to b: a monomial with j goes if b is 0, and loses j if b is 1
unfoldable pub restrict : Polynomial → ℕ → Bool → Polynomial
restrict f j b m = cond (bit m j) false (f m ⊕ (b && f (m + 2 ^ j)))

-- the monomial i, its letters below n replaced: the product of τ j, over k letters, for each letter j of i
unfoldable pub monomial : ℕ → (ℕ → Polynomial) → ℕ → ℕ → Polynomial
monomial k τ i zero = constant true
monomial k τ i (suc n) = product k (monomial k τ i n) (cond (bit i n) (τ n) (constant true))

-- f, in n letters, with τ j, in k letters, put for each letter j, all at once: the sum over the monomials that f has
unfoldable pub substitute : ℕ → ℕ → Polynomial → (ℕ → Polynomial) → Polynomial
substitute n k f τ m = odd (2 ^ n) (λ i. f i && monomial k τ i n m)
