-- Question 8 of the marked names, as the code asks it.
-- Assumes nothing.
use Rattle.std.specs.Prelude.{List, map, ℕ}
use Rattle.tables.specs.Questions.{Asked, reads, bit_questions}
use Rattle.session.specs.declared.Mark.{Mark}
use Rattle.session.specs.Session.{marked_tables}

-- 8 of the tables of marked names, each as far as k bytes
unfoldable pub marked_questions : ℕ → List Mark → List Asked
marked_questions k marks = bit_questions (map (reads k) (marked_tables marks))
