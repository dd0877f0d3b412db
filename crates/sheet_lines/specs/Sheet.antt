-- What `sheet` prints for its input (document 01, 'Programs').
-- Assumes nothing.
use Rattle.std.specs.Prelude.{cond, List, [], ◌∷◌, ◌++◌, ℕ, zero, suc, eqb, ltb, drop, Option, Some, None}
use Rattle.tables.specs.declared.Question.TheVariants.{Letters, Route, TextLength, Signs, Declared, Grammar, Rising}
use Rattle.tables.specs.Questions.{Asked, asks, first_no, letters_fit}
use Rattle.grammar.specs.Symbols.{all_signs, all_declared}
use Rattle.grammar.specs.Reader.{grammar_reads}
use Rattle.grammar.specs.Text.{text_table}
use Rattle.calls.specs.Questions.{has_text_length}
use Rattle.solution.specs.Condition.{condition_of}
use Rattle.entry.specs.Record.{Record}
use Rattle.entry.specs.Entry.{archived_records}
use Rattle.entry.specs.Questions.{route_fits}
use Rattle.printing.specs.Print.{line_feed, record_lines, unreadable_line, refused_line}
use Rattle.sheet_lines.specs.declared.Line.{Line}
use Rattle.sheet_lines.specs.Fields.{read_line}

-- 'in the order 1, 2, 3, 5, 6, 7, 15 (against the last route printed)', which is 0 before any
unfoldable pub line_questions : ℕ → ℕ → ℕ → ℕ → List ℕ → List Asked
line_questions last route U G text =
    asks Letters (letters_fit U G)
    ∷ asks Route (route_fits route)
    ∷ asks TextLength (has_text_length text)
    ∷ asks Signs (all_signs text)
    ∷ asks Declared (all_declared U G text)
    ∷ asks Grammar (grammar_reads text)
    ∷ asks Rising (ltb last route)
    ∷ []

unfoldable pub line_refusal : ℕ → ℕ → ℕ → ℕ → List ℕ → ℕ
line_refusal last route U G text = first_no (line_questions last route U G text)

-- what is printed for a first no, 0 if there is none, of an entry with these records
unfoldable pub answer_lines : ℕ → List Record → List ℕ
answer_lines zero records = record_lines records
answer_lines (suc number) records = refused_line (suc number) []

-- the last route printed, once a line with this one is answered: 'refused' lines do not count
unfoldable pub route_behind : ℕ → ℕ → ℕ → ℕ
route_behind zero last route = route
route_behind (suc number) last route = last

-- what is printed for a line, behind an entry with the route `last`
unfoldable pub printed_for : ℕ → List ℕ → Option Line → List ℕ
printed_for last line (Some l) =
    answer_lines (line_refusal last l.route l.unknowns l.givens (drop l.text line))
    (archived_records l.route (condition_of l.unknowns l.givens (text_table l.unknowns l.givens (drop l.text line))))
printed_for last line None = unreadable_line

unfoldable pub last_for : ℕ → List ℕ → Option Line → ℕ
last_for last line (Some l) = route_behind (line_refusal last l.route l.unknowns l.givens (drop l.text line)) last l.route
last_for last line None = last

unfoldable pub printed : ℕ → List ℕ → List ℕ
printed last line = printed_for last line (read_line line)

-- and the last route printed behind the line
unfoldable pub last_behind : ℕ → List ℕ → ℕ
last_behind last line = last_for last line (read_line line)

-- a byte in front of the first line
unfoldable pub in_front : ℕ → List (List ℕ) → List (List ℕ)
in_front byte [] = (byte ∷ []) ∷ []
in_front byte (line ∷ lines) = (byte ∷ line) ∷ lines

-- the lines of an input: 'the last line may lack its line feed, and no line follows a last line feed'
unfoldable pub lines_of : List ℕ → List (List ℕ)
lines_of [] = []
lines_of (byte ∷ bytes) = cond (eqb byte line_feed) ([] ∷ lines_of bytes) (in_front byte (lines_of bytes))

-- what is printed for lines
unfoldable pub printed_lines : ℕ → List (List ℕ) → List ℕ
printed_lines last [] = []
printed_lines last (line ∷ lines) = printed last line ++ printed_lines (last_behind last line) lines

-- what `sheet` prints for its whole input
unfoldable pub sheet : List ℕ → List ℕ
sheet input = printed_lines 0 (lines_of input)
