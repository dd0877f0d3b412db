-- What the solving calls do (`solver`). Tables are lists of bytes over U unknowns and G givens; n = U + G.
-- Assumes nothing.
use Rattle.std.specs.Prelude.{List, [], ◌∷◌, ℕ, ◌+◌, length, Result, Ok, Err}
use Rattle.ring.specs.Table.{present, held, answer_table}
use Rattle.tables.specs.Questions.{number}
use Rattle.tables.specs.Answered.{Reply, accepted, refused, Answered}
use Rattle.solution.specs.Condition.{Condition, table_where_zero}
use Rattle.solution.specs.Order.{lent_condition}
use Rattle.solution.specs.Elimination.{lowenheim, boole_table, particular_table, lowenheim_table}
use Rattle.calls.specs.declared.Unsolved.{Unsolved}
use Rattle.calls.specs.declared.Unsolved.TheVariants as unsolved-variants
use Rattle.calls.specs.Counted.{answers_call}
use Rattle.calls.specs.Questions.{solving_questions, handed_questions}

-- this paper's number and values for what a solving call says: the total of monomials; question 9 'also gives the state'
abbrev pub solving : Result ℕ Unsolved → Reply
solving (Ok total) = accepted (total ∷ [])
solving (Err (unsolved-variants.None state)) = refused 9 (state.0 ∷ [])
solving (Err (unsolved-variants.Refused question)) = refused (number question) []

-- a call that solves a condition and fills the answer buffer with one of its answer tables
abbrev pub solving_call : (Condition → List ℕ) → ℕ → ℕ → List ℕ → List ℕ → List ℕ → List ℕ → Answered Reply
solving_call answer_tables U G order fact condition answers =
    answers_call U (U + G) (solving_questions U G order fact condition (length answers))
    (answer_tables (lent_condition U G order fact condition)) answers

-- Boole's answers, the particular solution, and the engine's own Löwenheim answers
abbrev pub boole_call : ℕ → ℕ → List ℕ → List ℕ → List ℕ → List ℕ → Answered Reply
boole_call = solving_call boole_table

abbrev pub particular_call : ℕ → ℕ → List ℕ → List ℕ → List ℕ → List ℕ → Answered Reply
particular_call = solving_call particular_table

abbrev pub lowenheim_call : ℕ → ℕ → List ℕ → List ℕ → List ℕ → List ℕ → Answered Reply
lowenheim_call = solving_call lowenheim_table

-- x + f*(x + b of x) for each unknown x, from handed polynomials that question 21 has tested; 'Löwenheim's formula .. read[s] f*(1 + g)'
unfoldable pub handed_table : ℕ → ℕ → List ℕ → List ℕ → List ℕ → List ℕ
handed_table U G fact condition handed =
    answer_table U (U + G) (lowenheim (U + G) (present (table_where_zero (U + G) condition fact)) (held (U + G) handed))

abbrev pub handed_call : ℕ → ℕ → List ℕ → List ℕ → List ℕ → List ℕ → Answered Reply
handed_call U G fact condition handed answers =
    answers_call U (U + G) (handed_questions U G fact condition handed (length answers)) (handed_table U G fact condition handed) answers
