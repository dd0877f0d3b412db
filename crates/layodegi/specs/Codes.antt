-- The code that an exported function returns for what its call answers, and how a caller takes it apart again; that this loses nothing is
-- proved in `proofs/Codes.antt`.
-- Assumes nothing.
use Rattle.std.specs.Prelude.{cond, List, [], ◌∷◌, ℕ, zero, suc, ◌+◌, ◌*◌, ◌/◌, ◌%◌, eqb, get_or, drop}
use Rattle.tables.specs.Answered.{Reply, accepted, refused}

-- a value as 32 bits; every value that a call gives is smaller
abbrev pub narrow : ℕ → ℕ
narrow v = v % 4294967296

-- the number of the first no, 0 if there is none, in the low byte; above it the first value that the call gives: a value of a table, a
-- number of monomials, the state that question 9 names, which of two tables, the length written, the count of entries
abbrev pub code : Reply → ℕ
code (accepted []) = 0
code (accepted (v ∷ vs)) = 256 * narrow v
code (refused number []) = number
code (refused number (v ∷ vs)) = number + 256 * narrow v

-- what an entry says: 0 if it is solved, 1 above the state if it says 'none'
abbrev pub state_code : List ℕ → ℕ
state_code [] = 0
state_code (state ∷ _) = 1 + state % 256

-- a byte each, from the second on, for the route, U and G, and two bytes for the length used. Every value fits: an entry has at most 27,709
-- bytes
abbrev pub heading_code : ℕ → ℕ → ℕ → ℕ → ℕ
heading_code route U G used = 256 * route + 65536 * (U % 256) + 16777216 * (G % 256) + 4294967296 * (used % 65536)

-- for reading and the audit: the number of the first no, or the heading and, in the highest two bytes, what the entry says
abbrev pub entry_code : Reply → ℕ
entry_code (accepted values) =
    heading_code (get_or values 0 0) (get_or values 1 0) (get_or values 2 0) (get_or values 3 0) + 281474976710656 * state_code (drop 4 values)
entry_code (refused number _) = number

-- ---- a code taken apart, as a caller takes it
-- the number of the first no, and the value above it
abbrev pub number_in : ℕ → ℕ
number_in c = c % 256

abbrev pub value_in : ℕ → ℕ
value_in c = c / 256

-- the answer of a call whose first no has this number, 0 for none, and gives nothing with it
unfoldable pub numbered : ℕ → List ℕ → Reply
numbered zero values = accepted values
numbered (suc number) values = refused (suc number) []

-- the answer of a call that gives no value
abbrev pub plain_reply : ℕ → Reply
plain_reply c = numbered (number_in c) []

-- of one that gives a value: that of a table, a number of monomials, which of two tables, or the length written
abbrev pub value_reply : ℕ → Reply
value_reply c = numbered (number_in c) (value_in c ∷ [])

-- of a solving call: the total of monomials, and question 9 'also gives the state'
abbrev pub state_reply : ℕ → Reply
state_reply c = cond (eqb (number_in c) 9) (refused 9 (value_in c ∷ [])) (numbered (number_in c) (value_in c ∷ []))

-- of a walk: 'the count of entries .., or the refusal with the count passed before it'
abbrev pub count_reply : ℕ → Reply
count_reply c = cond (eqb (number_in c) 0) (accepted (value_in c ∷ [])) (refused (number_in c) (value_in c ∷ []))

-- of reading and the audit: what an entry says ..
abbrev pub state_in : ℕ → List ℕ
state_in zero = []
state_in (suc state) = state ∷ []

-- .. behind the route, U, G and the length used
abbrev pub entry_reply : ℕ → Reply
entry_reply c =
    numbered (number_in c) (c / 256 % 256 ∷ c / 65536 % 256 ∷ c / 16777216 % 256 ∷ c / 4294967296 % 65536 ∷ state_in (c / 281474976710656))
