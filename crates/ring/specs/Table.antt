-- Tables of bytes (document 01, 'The table of a polynomial').
-- Assumes nothing.
use Rattle.std.specs.Prelude.{◌≡◌, Bool, cond, List, [], ◌∷◌, ℕ, zero, suc, ◌+◌, ◌*◌, ◌/◌, ◌%◌, ◌^◌, ◌<◌, eqb, ltb, length, get_or}
use Rattle.ring.specs.Letters.{digit}
use Rattle.ring.specs.Polynomial.{Polynomial, value, letter}

-- the polynomial of a table: byte m is 1 if monomial m is present
unfoldable pub present : List ℕ → Polynomial
present t m = eqb (get_or t m 0) 1

-- k bytes, byte i being 1 if h i
unfoldable pub tabulate : ℕ → (ℕ → Bool) → List ℕ
tabulate zero h = []
tabulate (suc k) h = digit (h 0) ∷ tabulate k (λ i. h (suc i))

-- the table of a polynomial in n letters: 2 ^ n bytes
unfoldable pub table : ℕ → Polynomial → List ℕ
table n f = tabulate (2 ^ n) f

-- each byte is 0 or 1
abbrev pub AreBits : List ℕ → Type 0
AreBits t = (m : ℕ) → get_or t m 0 < 2

-- 2 ^ n bytes, each 0 or 1
pub record IsTable (n : ℕ) (t : List ℕ) : Type 0 where
  pub size : length t ≡ 2 ^ n
  pub bits : AreBits t

-- the values of a table, as a table: byte p is the value at the point p
unfoldable pub values : ℕ → List ℕ → List ℕ
values n t = tabulate (2 ^ n) (value n (present t))

-- 'An answer table has U such tables one after another, unknown 0 first': the polynomial that it holds for unknown j
unfoldable pub held : ℕ → List ℕ → ℕ → Polynomial
held n t j m = present t (j * 2 ^ n + m)

-- the answer table of the polynomials a j
unfoldable pub answer_table : ℕ → ℕ → (ℕ → Polynomial) → List ℕ
answer_table U n a = tabulate (U * 2 ^ n) (λ i. a (i / 2 ^ n) (i % 2 ^ n))

-- b j for each unknown j, and each given's own letter: what is put for the letters of a condition
unfoldable pub for_unknowns : ℕ → (ℕ → Polynomial) → ℕ → Polynomial
for_unknowns U b j = cond (ltb j U) (b j) (letter j)
