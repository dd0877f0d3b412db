-- What the calls on tables do (`operations`). Tables are lists of bytes over U unknowns and G givens; n = U + G.
-- Assumes nothing.
use Rattle.std.specs.Prelude.{List, [], ◌∷◌, ℕ, ◌+◌, length, Result, Ok, Err}
use Rattle.ring.specs.declared.State.{State}
use Rattle.ring.specs.declared.Choice.{Choice}
use Rattle.ring.specs.Letters.{digit, point}
use Rattle.ring.specs.Polynomial.{value, sum, product, substitute}
use Rattle.ring.specs.Derivative.{derivative}
use Rattle.ring.specs.Table.{present, table, held, for_unknowns}
use Rattle.tables.specs.declared.Question.{Question}
use Rattle.tables.specs.Questions.{number}
use Rattle.tables.specs.Answered.{Reply, accepted, refused, Answered, call, ◌into◌}
use Rattle.calls.specs.Counted.{counted_call}
use Rattle.calls.specs.Questions.{value_questions, pair_questions, substitute_questions, derivative_questions}

-- this paper's number for an answer that gives nothing of its own
abbrev pub outcome : Result Unit Question → Reply
outcome (Ok done) = accepted []
outcome (Err question) = refused (number question) []

-- the value of a table at a state and a choice, 0 or 1
unfoldable pub value_at : ℕ → ℕ → List ℕ → State → Choice → ℕ
value_at U G t state choice = digit (value (U + G) (present t) (point U state choice))

abbrev pub value_call : ℕ → ℕ → List ℕ → State → Choice → Answered Reply
value_call U G t state choice = call (value_questions U G t state choice) (value_at U G t state choice ∷ []) []

-- the table of the sum of two tables, and that of their product, pairwise: each call 'shall also hand back the number of monomials present'
unfoldable pub sum_table : ℕ → ℕ → List ℕ → List ℕ → List ℕ
sum_table U G a b = table (U + G) (sum (present a) (present b))

unfoldable pub product_table : ℕ → ℕ → List ℕ → List ℕ → List ℕ
product_table U G a b = table (U + G) (product (U + G) (present a) (present b))

abbrev pub sum_call : ℕ → ℕ → List ℕ → List ℕ → List ℕ → Answered Reply
sum_call U G a b out = counted_call (U + G) (pair_questions U G a b (length out)) (sum_table U G a b) out

abbrev pub product_call : ℕ → ℕ → List ℕ → List ℕ → List ℕ → Answered Reply
product_call U G a b out = counted_call (U + G) (pair_questions U G a b (length out)) (product_table U G a b) out

-- the table of the condition with the handed polynomials put for the unknowns, all at once; the givens stay
unfoldable pub substitute_table : ℕ → ℕ → List ℕ → List ℕ → List ℕ
substitute_table U G condition handed =
    table (U + G) (substitute (U + G) (U + G) (present condition) (for_unknowns U (held (U + G) handed)))

abbrev pub substitute_call : ℕ → ℕ → List ℕ → List ℕ → List ℕ → Answered Reply
substitute_call U G condition handed out =
    counted_call (U + G) (substitute_questions U G condition handed (length out)) (substitute_table U G condition handed) out

-- the table of the derivative by S, 'for any lent table and S, a mask' (document 02, C-13)
unfoldable pub derivative_table : ℕ → ℕ → List ℕ → ℕ → List ℕ
derivative_table U G t S = table (U + G) (derivative (U + G) S (present t))

abbrev pub derivative_call : ℕ → ℕ → List ℕ → ℕ → List ℕ → Answered Reply
derivative_call U G t S out = call (derivative_questions U G t S (length out)) [] (derivative_table U G t S into out ∷ [])
