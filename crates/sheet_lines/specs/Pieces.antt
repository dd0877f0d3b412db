-- A sheet in constant memory: the input comes in pieces of any size, and what is carried from piece to piece is the last route printed and
-- the first 301 bytes of the line that has begun, enough to see that it is over 300. `sheet_in_pieces` says that this prints the sheet.
-- Assumes nothing.
use Rattle.std.specs.Prelude.{cond, List, [], ◌∷◌, ◌++◌, ℕ, eqb, length, take}
use Rattle.printing.specs.Print.{line_feed}
use Rattle.sheet_lines.specs.Sheet.{printed, last_behind}

-- what is carried: the last route printed, 0 before any, and the line that has begun
pub record Carried : Type 0 where
  pub last : ℕ
  pub begun : List ℕ

-- 'over 300 bytes': as many bytes of a line are kept
abbrev pub kept_length : ℕ
kept_length = 301

-- behind one more byte
unfoldable pub carry : Carried → ℕ → Carried
carry c byte =
    cond (eqb byte line_feed)
    (record { last = last_behind c.last c.begun; begun = [] })
    (record { last = c.last; begun = take kept_length (c.begun ++ (byte ∷ [])) })

-- what that byte prints: a line feed prints the line
unfoldable pub prints : Carried → ℕ → List ℕ
prints c byte = cond (eqb byte line_feed) (printed c.last c.begun) []

-- the same for a piece
unfoldable pub carry_all : Carried → List ℕ → Carried
carry_all c [] = c
carry_all c (byte ∷ bytes) = carry_all (carry c byte) bytes

unfoldable pub prints_all : Carried → List ℕ → List ℕ
prints_all c [] = []
prints_all c (byte ∷ bytes) = prints c byte ++ prints_all (carry c byte) bytes

-- at the end of the input: 'the last line may lack its line feed'
unfoldable pub prints_last : Carried → List ℕ
prints_last c = cond (eqb (length c.begun) 0) [] (printed c.last c.begun)

-- before any byte
abbrev pub nothing_carried : Carried
nothing_carried = record { last = 0; begun = [] }

-- the whole input
unfoldable pub joined : List (List ℕ) → List ℕ
joined [] = []
joined (piece ∷ pieces) = piece ++ joined pieces

-- what is printed for the pieces of an input, one after another, and at its end
unfoldable pub prints_pieces : Carried → List (List ℕ) → List ℕ
prints_pieces c [] = prints_last c
prints_pieces c (piece ∷ pieces) = prints_all c piece ++ prints_pieces (carry_all c piece) pieces
