-- How long a polynomial is (document 02, C-17): 'Draughtsmen judge a circuit by its monomials.'
-- Assumes nothing.
use Rattle.std.specs.Prelude.{ℕ, zero, suc, ◌+◌, ◌^◌}
use Rattle.ring.specs.Polynomial.{Polynomial, count}

-- 'the number of monomials present in it', of a polynomial in n letters
unfoldable pub monomial_count : ℕ → Polynomial → ℕ
monomial_count n f = count (2 ^ n) f

-- 'the total over its unknowns', of the polynomials a j of an answer
unfoldable pub total_count : ℕ → ℕ → (ℕ → Polynomial) → ℕ
total_count zero n a = 0
total_count (suc U) n a = total_count U n a + monomial_count n (a U)
