-- The handed form: questions 1, 4 and 8, and then 22, 23 and 21 with what follows them.
-- Assumes nothing.
use Rattle.std.specs.Prelude.{List, [], ◌∷◌, ◌++◌, ℕ, ◌+◌}
use Rattle.tables.specs.declared.Question.TheVariants.{Letters}
use Rattle.tables.specs.Questions.{Asked, asks, letters_fit, buffer_questions}
use Rattle.tables.specs.Answered.{Reply, Answered}
use Rattle.calls.specs.Questions.{fact_questions, asks_handed, handed_buffers}
use Rattle.calls.specs.Counted.{answers_call}
use Rattle.calls.specs.Solving.{handed_table}

-- questions 1, 4 and 8
unfoldable pub handed_table_questions : ℕ → ℕ → List ℕ → List ℕ → List ℕ → ℕ → List Asked
handed_table_questions U G fact condition handed room =
    asks Letters (letters_fit U G) ∷ buffer_questions (handed_buffers U G fact condition handed room)

-- questions 22, 23 and 21 and, if all are answered yes, the answers in the lent buffer
unfoldable pub handed_by : ℕ → ℕ → List ℕ → List ℕ → List ℕ → List ℕ → Answered Reply
handed_by U G fact condition handed lent =
    answers_call U (U + G) (fact_questions U G fact ++ (asks_handed U G fact condition handed ∷ [])) (handed_table U G fact condition handed) lent
