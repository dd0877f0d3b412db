-- The sample of document 01, 'Programs', whole: what `sheet` prints for its two lines, exactly, by computation.
-- Assumes nothing.
use mathlib.Core.Path.{◌≡◌, refl}
use mathlib.Core.List.{List, [], ◌∷◌}
use Prim.Native.Nat.{ℕ}
use Rattle.ring.specs.Letters.{bit, point}
use Rattle.ring.specs.Polynomial.{count, odd, within, value, constant, letter, sum, product, restrict, monomial, substitute, every_below}
use Rattle.ring.specs.Table.{present, tabulate, table, held, answer_table}
use Rattle.ring.specs.Lists.{listed}
use Rattle.tables.specs.Questions.{first_no, letters_fit}
use Rattle.grammar.specs.Symbols.{symbol, symbols, is_unknown, is_given, is_single, is_sign, is_declared, every, all_signs, all_declared}
use Rattle.grammar.specs.Meaning.{normal_form}
use Rattle.grammar.specs.Reader.{reads, read_with, and_then, grammar_reads, tree_of}
use Rattle.grammar.specs.Text.{text_table}
use Rattle.calls.specs.Questions.{has_text_length}
use Rattle.order.specs.Order.{letters, keep, below, groups, order, monomials}
use Rattle.solution.specs.Fact.{where_zero, no_fact}
use Rattle.solution.specs.Condition.{table_where_zero, default_order}
use Rattle.solution.specs.Order.{order_bytes}
use Rattle.solution.specs.Elimination.{next_condition, remains, answer_from, boole_answers, smallest_below, blocked, smallest_blocked, is_zero}
use Rattle.solution.specs.Elimination.{solvable, boole_table, solve}
use Rattle.entry.specs.Record.{fields as layout_fields, low_first, body_of, same_bytes, is_default}
use Rattle.entry.specs.Entry.{order_records, fact_records, condition_records, answer_records, verdict_records, entry_records}
use Rattle.entry.specs.Questions.{route_fits}
use Rattle.printing.specs.Print.{digit_byte, hexadecimal, record_lines}
use Rattle.sheet_lines.specs.Fields.{digits_ahead, number_behind, has_letters, is_readable, fields, read_line}
use Rattle.sheet_lines.specs.Sheet.{line_questions, line_refusal, answer_lines, route_behind, printed_for, last_for, printed, last_behind}
use Rattle.sheet_lines.specs.Sheet.{in_front, lines_of, printed_lines, sheet}

-- `7 2 0 u+v`, then `8 1 1 a`
unfoldable pub sample : List ℕ
sample =
    55 ∷ 32 ∷ 50 ∷ 32 ∷ 48 ∷ 32 ∷ 117 ∷ 43 ∷ 118 ∷ 10
    ∷ 56 ∷ 32 ∷ 49 ∷ 32 ∷ 49 ∷ 32 ∷ 97 ∷ 10
    ∷ []

-- the ten lines that it gives
unfoldable pub ten_lines : List ℕ
ten_lines =
    -- 01070200
    48 ∷ 49 ∷ 48 ∷ 55 ∷ 48 ∷ 50 ∷ 48 ∷ 48 ∷ 10
    -- 020100
    ∷ 48 ∷ 50 ∷ 48 ∷ 49 ∷ 48 ∷ 48 ∷ 10
    -- 020200
    ∷ 48 ∷ 50 ∷ 48 ∷ 50 ∷ 48 ∷ 48 ∷ 10
    -- 03000200
    ∷ 48 ∷ 51 ∷ 48 ∷ 48 ∷ 48 ∷ 50 ∷ 48 ∷ 48 ∷ 10
    -- 03010200
    ∷ 48 ∷ 51 ∷ 48 ∷ 49 ∷ 48 ∷ 50 ∷ 48 ∷ 48 ∷ 10
    -- 0407
    ∷ 48 ∷ 52 ∷ 48 ∷ 55 ∷ 10
    -- 01080101
    ∷ 48 ∷ 49 ∷ 48 ∷ 56 ∷ 48 ∷ 49 ∷ 48 ∷ 49 ∷ 10
    -- 020200
    ∷ 48 ∷ 50 ∷ 48 ∷ 50 ∷ 48 ∷ 48 ∷ 10
    -- 0501
    ∷ 48 ∷ 53 ∷ 48 ∷ 49 ∷ 10
    -- 0408
    ∷ 48 ∷ 52 ∷ 48 ∷ 56 ∷ 10
    ∷ []

pub sample_printed : sheet sample ≡ ten_lines
unfolding sample ten_lines sheet printed_lines lines_of in_front printed printed_for last_behind last_for route_behind answer_lines line_refusal line_questions first_no letters_fit route_fits has_text_length all_signs all_declared every is_sign is_declared read_line fields is_readable has_letters number_behind digits_ahead record_lines hexadecimal digit_byte text_table table tabulate normal_form tree_of grammar_reads symbols symbol is_unknown is_given is_single reads read_with and_then entry_records order_records fact_records table_where_zero where_zero no_fact is_default same_bytes order_bytes condition_records answer_records verdict_records monomials order groups below keep letters solve solvable is_zero every_below remains next_condition product restrict odd count present held bit default_order listed answer_table boole_answers answer_from sum letter constant substitute monomial smallest_blocked smallest_below blocked point value within boole_table layout_fields low_first body_of
sample_printed = refl
