-- A line of a sheet, taken apart (document 01, 'Programs'): 'route (1 to 3 digits), U, G (one digit each), text, single spaces between'.
-- A line is a list of bytes, its line feed left out. The type of a line that is taken apart is the code's own: the route, U, G and where
-- the text begins.
-- Assumes nothing.
use Rattle.std.specs.Prelude.{Bool, ◌&&◌, cond, List, [], ◌∷◌, ℕ, ◌+◌, ◌-◌, ◌*◌, eqb, leb, length, get_or, take, drop, Option, Some, None}
use Rattle.std.specs.Char.{is_ascii_digit}
use Rattle.std.specs.List.{prefix_len}
use Rattle.grammar.specs.Symbols.{space}
use Rattle.sheet_lines.specs.declared.Line.{Line}

-- how many decimal digits the bytes begin with
unfoldable pub digits_ahead : List ℕ → ℕ
digits_ahead line = prefix_len is_ascii_digit line

-- the number that digits say, behind digits that say n
unfoldable pub number_behind : ℕ → List ℕ → ℕ
number_behind n [] = n
number_behind n (byte ∷ bytes) = number_behind (10 * n + (byte - 48)) bytes

-- 'U, G (one digit each) .. single spaces between': a space, a digit, a space, a digit, a space
unfoldable pub has_letters : List ℕ → Bool
has_letters rest =
    eqb (get_or rest 0 0) space
    && (is_ascii_digit (get_or rest 1 0)
    && (eqb (get_or rest 2 0) space && (is_ascii_digit (get_or rest 3 0) && eqb (get_or rest 4 0) space)))

-- 'lines over 300 bytes without the line feed' are unreadable, and so are all that do not begin with the four fields
unfoldable pub is_readable : List ℕ → Bool
is_readable line =
    leb (length line) 300
    && (leb 1 (digits_ahead line) && (leb (digits_ahead line) 3 && has_letters (drop (digits_ahead line) line)))

-- the fields of a readable line: the route, U, G, and the place of the text, 'all that follows the third space'
unfoldable pub fields : List ℕ → Line
fields line =
    record {
      route = number_behind 0 (take (digits_ahead line) line);
      unknowns = get_or (drop (digits_ahead line) line) 1 0 - 48;
      givens = get_or (drop (digits_ahead line) line) 3 0 - 48;
      text = digits_ahead line + 5;
    }

-- none of a line that is not readable
unfoldable pub read_line : List ℕ → Option Line
read_line line = cond (is_readable line) (Some (fields line)) None
