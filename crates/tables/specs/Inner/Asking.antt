-- Questions that are asked behind others.
-- Assumes nothing.
use Rattle.std.specs.Prelude.{List, ℕ, zero, suc}
use Rattle.tables.specs.Questions.{Asked, first_no}

-- the first no of questions that are asked behind others, whose first no is `found`, 0 for none
unfoldable pub also : ℕ → List Asked → ℕ
also zero questions = first_no questions
also (suc found) questions = suc found
