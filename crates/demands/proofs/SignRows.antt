-- The texts of the signs' rows are read, by computation; that each is read into its row's table is `sign_rows_hold` of `grammar`.
-- Assumes nothing.
use mathlib.Core.Path.{refl}
use Rattle.tables.specs.Questions.{first_no, letters_fit, has_room, room_questions, bit_questions, buffer_questions}
use Rattle.grammar.specs.Symbols.{symbol, symbols, is_unknown, is_given, is_single, is_sign, is_declared, every, all_signs, all_declared}
use Rattle.grammar.specs.Reader.{reads, read_with, and_then, grammar_reads}
use Rattle.grammar.specs.SignRows.{sign_rows, EachRow, end, ◌also◌}
use Rattle.calls.specs.Questions.{has_text_length, text_questions}
use Rattle.demands.specs.SignRows.{TextRead}

pub sign_rows_read : EachRow TextRead sign_rows
unfolding sign_rows text_questions buffer_questions room_questions bit_questions first_no letters_fit has_text_length has_room all_signs all_declared every is_sign is_declared is_unknown is_given is_single grammar_reads symbols symbol reads read_with and_then
sign_rows_read = refl also refl also refl also refl also refl also end
