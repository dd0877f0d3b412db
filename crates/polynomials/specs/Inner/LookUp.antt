-- What is put for the letters of a condition, by its values, and the choice between two words.
-- Assumes nothing.
use Rattle.std.specs.Prelude.{Bool, cond, List, ℕ, ◌+◌, ◌*◌, ltb}
use Rattle.std.specs.Int.Bits.{bit_and, bit_xor}
use Rattle.ring.specs.Letters.{digit, bit}
use Rattle.ring.specs.Polynomial.{value}
use Rattle.ring.specs.Table.{held}

-- the values of what is put for letter j: the handed polynomial for an unknown, and the letter itself for a given
unfoldable pub put_for : ℕ → ℕ → List ℕ → ℕ → ℕ → Bool
put_for U n handed j p = cond (ltb j U) (value n (held n handed j) p) (bit p j)

-- at each point where b has the value 1 that of y, and elsewhere that of x
unfoldable pub chosen : ℕ → ℕ → ℕ → ℕ
chosen b x y = bit_xor x (bit_and b (bit_xor x y))

-- of four places, at each point the one that a and b make, a its lower letter
unfoldable pub place_of : ℕ → ℕ → ℕ → ℕ
place_of a b i = digit (bit b i) * 2 + digit (bit a i)
