-- The rows of the signs (`grammar`, which has their tables), as a caller meets them: the questions that are put to a text.
-- Assumes nothing.
use Rattle.std.specs.Prelude.{◌≡◌, length}
use Rattle.grammar.specs.SignRows.{SignRow}
use Rattle.tables.specs.Questions.{first_no}
use Rattle.calls.specs.Questions.{text_questions}

-- the row's text is read: no question is answered no, with a buffer of its table's length
abbrev pub TextRead : SignRow → Type 0
TextRead r = first_no (text_questions r.U r.G r.text (length r.table)) ≡ 0
