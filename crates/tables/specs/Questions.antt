-- The questions (document 01, 'The questions, and the number if the answer is no'): their numbers, how a call puts them and what it answers,
-- and those that are put to letters and buffers. Each is a Bool function, total on any numbers and bytes. Buffers are lists of bytes.
-- Which questions each call puts, and in which order, is in `calls`.
-- Assumes nothing.
use Rattle.std.specs.Prelude.{Bool, true, ◌&&◌, cond, List, [], ◌∷◌, ◌++◌, ℕ, ◌+◌, ◌^◌, leb, ltb, length, take}
use Rattle.ring.specs.declared.State.{State}
use Rattle.ring.specs.declared.Choice.{Choice}
use Rattle.tables.specs.declared.Question.{Question}
use Rattle.tables.specs.declared.Question.TheVariants.{Letters, Route, TextLength, Room, Signs, Declared, Grammar, Bits, Solution}
use Rattle.tables.specs.declared.Question.TheVariants.{Records, Kinds, Numbers, Afresh, Output, Rising, Range, Order, Name, Marked, Mask, Handed, FactGivens, FactState}

-- the number of each question, 1 to 16 document 01's
abbrev pub number : Question → ℕ
-- 'Are U at most 6, G at most 8, n at most 10?'
number Letters = 1
-- 'Is the route 1 to 250?'
number Route = 2
-- 'Has the text 1 to 200 bytes?'
number TextLength = 3
-- 'Has each condition buffer 2^n bytes or more, and each answer or handed buffer U times 2^n or more?'
number Room = 4
-- 'Is every byte a sign of the notation or a space?'
number Signs = 5
-- 'Is every letter declared?'
number Declared = 6
-- 'Does the grammar read the whole text?'
number Grammar = 7
-- 'Is each byte of a table lent to be read, as far as question 4's length, 0 or 1?'
number Bits = 8
-- 'Has the condition a solution? (a no also gives the state)'
number Solution = 9
-- 'Does every record, to the first kind 4, have kind 1 to 5 and a whole body, and is there a kind 4?' (kinds 6 and 7 too: document 02, C-11 and C-16)
number Records = 10
-- 'Are the kinds in the entry's order, both routes equal?'
number Kinds = 11
-- 'Are masks below 2^n, unknowns below U, the state below 2^G, all in order, none twice?' (and no kind 6 for the order 0, 1, 2 and so
-- on: document 02, C-11)
number Numbers = 12
-- 'Do the answers, or the state, equal those solved afresh?'
number Afresh = 13
-- 'Is the output at least as long as what is to be written?'
number Output = 14
-- 'Is the route above the one before?'
number Rising = 15
-- 'Is the state below 2^G and the choice below 2^U?'
number Range = 16
-- 'does the order hold each unknown once and then only 255' (document 02, C-11)
number Order = 17
-- 'is the name a byte `A` to `D`' (document 02, C-12)
number Name = 18
-- 'when returning, is it marked' (document 02, C-12)
number Marked = 19
-- 'has S only declared letters' (document 02, C-13)
number Mask = 20
-- 'does the handed substitution make the condition zero' (document 02, C-15)
number Handed = 21
-- 'has g no unknown' (document 02, C-16)
number FactGivens = 22
-- 'is g 0 in some state' (document 02, C-16)
number FactState = 23

-- a question as it is put: whether the answer is yes, and what a no gives with its number
pub data Asked : Type 0 where
  asks_giving : Question → Bool → List ℕ → Asked

-- a question whose no gives its number alone
abbrev pub asks : Question → Bool → Asked
asks question answer = asks_giving question answer []

-- 'The first no counts': its number, 0 if every answer is yes
unfoldable pub first_no : List Asked → ℕ
first_no [] = 0
first_no (asks_giving question answer given ∷ rest) = cond answer (first_no rest) (number question)

-- 1: 'Are U at most 6, G at most 8, n at most 10?'
unfoldable pub letters_fit : ℕ → ℕ → Bool
letters_fit U G = leb U 6 && (leb G 8 && leb (U + G) 10)

-- 4, of a buffer that is to hold k bytes
unfoldable pub has_room : ℕ → ℕ → Bool
has_room k size = leb k size

-- each byte is 0 or 1
unfoldable pub are_bits : List ℕ → Bool
are_bits [] = true
are_bits (b ∷ bytes) = leb b 1 && are_bits bytes

-- 8, of a table of k bytes
unfoldable pub holds_bits : ℕ → List ℕ → Bool
holds_bits k buffer = are_bits (take k buffer)

-- what a call is lent: a buffer of which k bytes are read, or one, of so many bytes, into which k are written
pub data Lent : Type 0 where
  reads : ℕ → List ℕ → Lent
  writes : ℕ → ℕ → Lent

-- 4, of each buffer in turn
unfoldable pub room_questions : List Lent → List Asked
room_questions [] = []
room_questions (reads k buffer ∷ lent) = asks Room (has_room k (length buffer)) ∷ room_questions lent
room_questions (writes k size ∷ lent) = asks Room (has_room k size) ∷ room_questions lent

-- 8, of each table that the call reads in turn
unfoldable pub bit_questions : List Lent → List Asked
bit_questions [] = []
bit_questions (reads k buffer ∷ lent) = asks Bits (holds_bits k buffer) ∷ bit_questions lent
bit_questions (writes k size ∷ lent) = bit_questions lent

-- 4 and then 8
unfoldable pub buffer_questions : List Lent → List Asked
buffer_questions lent = room_questions lent ++ bit_questions lent

-- 16: 'Is the state below 2^G and the choice below 2^U?'
unfoldable pub in_range : ℕ → ℕ → State → Choice → Bool
in_range U G state choice = ltb state.0 (2 ^ G) && ltb choice.0 (2 ^ U)
