-- What is solved: a condition over its letters, the order in which its unknowns go, and the fact of its route (document 01, 'Boole's
-- elimination'; document 02, C-11 and C-16).
-- Assumes nothing.
use Rattle.std.specs.Prelude.{◌≡◌, List, ℕ, ◌+◌, ltb}
use Rattle.ring.specs.Letters.{digit}
use Rattle.ring.specs.Polynomial.{Polynomial}
use Rattle.ring.specs.Table.{present, table}
use Rattle.ring.specs.Lists.{listed, has, times}
use Rattle.solution.specs.Fact.{where_zero, no_fact}

-- 'condition = 0': U unknowns and G givens, the unknowns in the order in which they go, the fact's table g and the condition's table f over
-- all of them
pub record Condition : Type 0 where
  pub U : ℕ
  pub G : ℕ
  pub order : List ℕ
  pub fact : List ℕ
  pub table : List ℕ

-- n: the number of letters
abbrev pub width : Condition → ℕ
width c = c.U + c.G

-- the table of f*(1 + g), from the tables of f and g
unfoldable pub table_where_zero : ℕ → List ℕ → List ℕ → List ℕ
table_where_zero n f g = table n (where_zero n (present f) (present g))

-- the polynomial that is to be 0: 'For such a route the condition that demand 3 speaks of is f*(1 + g)'
abbrev pub polynomial : Condition → Polynomial
polynomial c = present (table_where_zero (width c) c.table c.fact)

-- the condition with the table t under the fact with the table g, its unknowns in this order
abbrev pub under_fact : ℕ → ℕ → List ℕ → List ℕ → List ℕ → Condition
under_fact U G order g t = record { U = U; G = G; order = order; fact = g; table = t }

-- the condition with the table t, its unknowns in this order, every state counting
abbrev pub ordered : ℕ → ℕ → List ℕ → List ℕ → Condition
ordered U G order t = under_fact U G order (no_fact (U + G)) t

-- 'Unknown 0 goes first, then 1, and so on'
unfoldable pub default_order : ℕ → List ℕ
default_order U = listed U (λ j. j)

-- the condition with the table t, its unknowns in that order
abbrev pub condition_of : ℕ → ℕ → List ℕ → Condition
condition_of U G t = ordered U G (default_order U) t

-- the order lists the unknowns: every one of them, and nothing else
abbrev pub IsOrder : ℕ → List ℕ → Type 0
IsOrder U order = (x : ℕ) → has x order ≡ ltb x U

-- it lists each of them once
abbrev pub ListsEach : ℕ → List ℕ → Type 0
ListsEach U order = (x : ℕ) → times x order ≡ digit (ltb x U)
