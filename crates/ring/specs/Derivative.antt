-- Contacts flipped together (document 02, C-13): the vectorial derivative by a set S of letters. S is a mask, its bits as in a monomial.
-- Assumes nothing.
use Rattle.std.specs.Prelude.{true, cond, ℕ, ◌/◌, ◌%◌, ◌^◌}
use Rattle.std.specs.Int.Bits.{bit_xor}
use Rattle.ring.specs.declared.State.{State}
use Rattle.ring.specs.declared.Choice.{Choice}
use Rattle.ring.specs.Letters.{bit, point_where}
use Rattle.ring.specs.Polynomial.{Polynomial, ◌⊕◌, constant, letter, sum, substitute}

-- 'every letter of a set S inverted': what is put for letter j, 1 + j if it is in S, and else its own letter
unfoldable pub inverted : ℕ → ℕ → Polynomial
inverted S j = cond (bit S j) (sum (constant true) (letter j)) (letter j)

-- 'f plus f with every letter of a set S inverted', in n letters, all at once
unfoldable pub derivative : ℕ → ℕ → Polynomial → Polynomial
derivative n S f = sum f (substitute n n f (inverted S))

-- the point p of n letters with the letters of S flipped, 'such flip' (source document 000: x + 1 for the letters of S)
unfoldable pub flipped : ℕ → ℕ → ℕ → ℕ
flipped n S p = point_where n (λ j. bit p j ⊕ bit S j)

-- the same of a state and a choice over U unknowns: bit U + i of S flips given i, bit j flips unknown j
unfoldable pub flipped_state : ℕ → ℕ → State → State
flipped_state U S state = record { 0 = bit_xor state.0 (S / 2 ^ U) }

unfoldable pub flipped_choice : ℕ → ℕ → Choice → Choice
flipped_choice U S choice = record { 0 = bit_xor choice.0 (S % 2 ^ U) }
