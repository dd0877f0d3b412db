-- Facts (document 02, C-16): 'Let a route carry a fact, a table g over givens .., and count only states where g is 0'.
-- U counts the unknowns and G the givens, n = U + G; f and g are polynomials over the engine's own list of letters.
-- Assumes nothing.
use Rattle.std.specs.Prelude.{◌≡◌, Bool, true, false, not, ◌&&◌, List, ℕ, ◌+◌, ◌%◌, ◌^◌, eqb}
use Rattle.ring.specs.declared.State.{State}
use Rattle.ring.specs.Letters.{point}
use Rattle.ring.specs.Polynomial.{Polynomial, every_below, value, constant, sum, product}
use Rattle.ring.specs.Table.{IsTable, present, table}

-- 'The engine solves f*(1 + g)': f where g is 0, and 0 elsewhere
unfoldable pub where_zero : ℕ → Polynomial → Polynomial → Polynomial
where_zero n f g = product n f (sum g (constant true))

-- 22: 'has g no unknown'? No monomial of g has one of the U low letters
unfoldable pub has_no_unknown : ℕ → ℕ → Polynomial → Bool
has_no_unknown U n g = every_below (2 ^ n) (λ m. not (g m && not (eqb (m % 2 ^ U) 0)))

-- the value of g in a state: where g has no unknown, any choice does
unfoldable pub value_in_state : ℕ → ℕ → Polynomial → State → Bool
value_in_state U G g state = value (U + G) g (point U state (record { 0 = 0 }))

-- 23: 'is g 0 in some state'?
unfoldable pub some_state_counts : ℕ → ℕ → Polynomial → Bool
some_state_counts U G g = not (every_below (2 ^ G) (λ s. value_in_state U G g (record { 0 = s })))

-- a fact: a table that both are answered yes of
pub record IsFact (U G : ℕ) (g : List ℕ) : Type 0 where
  pub is-table : IsTable (U + G) g
  pub givens : has_no_unknown U (U + G) (present g) ≡ true
  pub states : some_state_counts U G (present g) ≡ true

-- the table of the fact 0 in n letters, by which every state counts
unfoldable pub no_fact : ℕ → List ℕ
no_fact n = table n (constant false)
