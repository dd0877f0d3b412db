-- What becomes of a line, of a byte and of a piece of the input.
-- Assumes nothing.
use Rattle.std.specs.Prelude.{◌≡◌, List, ℕ, ◌+◌, ◌-◌, ◌^◌, ◌≤◌, ◌<◌, length, take}
use Rattle.ring.specs.Polynomial.{value}
use Rattle.ring.specs.Table.{table}
use Rattle.tables.specs.Inner.Put.{Put}
use Rattle.words.specs.Inner.Words.{words_of, bit_at}
use Rattle.grammar.specs.Text.{text_table}
use Rattle.solution.specs.Condition.{condition_of}
use Rattle.entry.specs.Entry.{archived_records}
use Rattle.printing.specs.Print.{record_lines}
use Rattle.sheet_lines.specs.declared.Line.{Line}
use Rattle.sheet_lines.specs.declared.Printed.{Printed}
use Rattle.sheet_lines.specs.declared.Fed.{Fed}
use Rattle.sheet_lines.specs.Sheet.{line_refusal, answer_lines, route_behind, printed, last_behind}
use Rattle.sheet_lines.specs.Pieces.{Carried, carry_all, prints_all}

-- no line prints more: three bytes for each of an entry's 27,654
abbrev pub line_room : ℕ
line_room = 82962

-- the table of coefficients whose values in n letters the words hold
unfoldable pub table_of : ℕ → List ℕ → List ℕ
table_of n values = table n (value n (bit_at values))

-- the words hold the values of that table, at every point that they have
abbrev pub IsValues : ℕ → List ℕ → Type 0
IsValues n values = values ≡ words_of (2 ^ (n - 6)) (value n (value n (bit_at values)))

-- what a readable line prints to which no question is answered no
pub record Entered (last : ℕ) (l : Line) (text out : List ℕ) (at next : ℕ) (out' : List ℕ) : Type 0 where
  pub none_no : line_refusal last l.route l.unknowns l.givens text ≡ 0
  pub put : Put out at (record_lines (archived_records l.route (condition_of l.unknowns l.givens (text_table l.unknowns l.givens text)))) next out'

-- what a readable line prints
pub record Answers (last : ℕ) (l : Line) (text out : List ℕ) (at : ℕ) (r : Printed) (out' : List ℕ) : Type 0 where
  pub last_is : r.last ≡ route_behind (line_refusal last l.route l.unknowns l.givens text) last l.route
  pub put : Put out at
      (answer_lines (line_refusal last l.route l.unknowns l.givens text)
      (archived_records l.route (condition_of l.unknowns l.givens (text_table l.unknowns l.givens text))))
      r.next out'

-- what a line prints from the place `at` of the output on, and the last route behind it
pub record PrintsLine (last : ℕ) (line out : List ℕ) (at : ℕ) (r : Printed) (out' : List ℕ) : Type 0 where
  pub last_is : r.last ≡ last_behind last line
  pub put : Put out at (printed last line) r.next out'

-- what the first `used` bytes of a piece did, behind what is carried as c: what is carried behind them, and what they print from the place
-- `at` of the output on
pub record Took (c : Carried) (piece out : List ℕ) (at used next : ℕ) (c' : Carried) (out' : List ℕ) : Type 0 where
  pub within : used ≤ length piece
  pub carries : c' ≡ carry_all c (take used piece)
  pub prints : Put out at (prints_all c (take used piece)) next out'

-- the same of as many bytes as the output has room for: all of them, or up to where there is no room for one more line
pub record Feeds (c : Carried) (piece out : List ℕ) (at : ℕ) (r : Fed) (c' : Carried) (out' : List ℕ) : Type 0 where
  pub took : Took c piece out at r.used r.next c' out'
  pub stops : r.used < length piece → length out < r.next + line_room
