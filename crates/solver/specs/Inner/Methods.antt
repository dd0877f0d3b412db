-- The three methods that ask question 9, and what solving by one of them does; the same on words of truth values.
-- Assumes nothing.
use Rattle.std.specs.Prelude.{cond, List, [], ◌∷◌, ◌++◌, ℕ, ◌-◌, ◌^◌, take}
use Rattle.ring.specs.Polynomial.{value}
use Rattle.tables.specs.declared.Question.TheVariants.{Letters, Order}
use Rattle.tables.specs.Questions.{Asked, asks, letters_fit, buffer_questions}
use Rattle.tables.specs.Answered.{Reply, Answered}
use Rattle.words.specs.Inner.Words.{words_of, answer_words}
use Rattle.solution.specs.Condition.{Condition, width, polynomial, under_fact}
use Rattle.solution.specs.Order.{order_fits}
use Rattle.solution.specs.Elimination.{boole_answers, boole_table, particular_table, lowenheim_table, smallest_blocked, solvable}
use Rattle.solution.specs.Elimination.{solved, none, Verdict as Said}
use Rattle.calls.specs.declared.Verdict.{Verdict}
use Rattle.calls.specs.declared.Verdict.TheVariants.{Solved, None}
use Rattle.calls.specs.Questions.{fact_questions, asks_solution, solving_buffers}
use Rattle.calls.specs.Counted.{answers_call}
use Rattle.solver.specs.declared.ordered.OrderedLetters.{OrderedLetters}
use Rattle.solver.specs.declared.Method.{Method}
use Rattle.solver.specs.declared.Method.TheVariants.{Boole, Particular, Lowenheim}

-- a condition over these letters, its unknowns in their order, with the tables of its fact and of its own
abbrev pub posed : OrderedLetters → List ℕ → List ℕ → Condition
posed o fact t = under_fact o.letters.unknowns o.letters.givens (take o.letters.unknowns o.order) fact t

-- questions 1, 17, 4 and 8 of a call that solves
unfoldable pub table_questions : ℕ → ℕ → List ℕ → List ℕ → List ℕ → ℕ → List Asked
table_questions U G order fact condition room =
    asks Letters (letters_fit U G) ∷ asks Order (order_fits U order) ∷ buffer_questions (solving_buffers U G fact condition room)

-- the answer table of each method
abbrev pub table_by : Method → Condition → List ℕ
table_by Boole = boole_table
table_by Particular = particular_table
table_by Lowenheim = lowenheim_table

-- questions 22, 23 and 9 and, if all are answered yes, the answer table of a method in the lent buffer
unfoldable pub solve_by : Method → Condition → List ℕ → Answered Reply
solve_by method c lent =
    answers_call c.U (width c) (fact_questions c.U c.G c.fact ++ (asks_solution c ∷ [])) (table_by method c) lent

-- ---- on words: 2 ^ (n - 6) of them to a polynomial in n letters
-- the values of the condition
abbrev pub value_words : Condition → List ℕ
value_words c = words_of (2 ^ (width c - 6)) (value (width c) (polynomial c))

-- those of Boole's answers, unknown 0's first
abbrev pub boole_words : Condition → List ℕ
boole_words c = answer_words c.U (2 ^ (width c - 6)) (λ j. value (width c) (boole_answers (width c) (polynomial c) c.order j))

-- the verdict on a condition, Boole's answers by their values
unfoldable pub solve_words : Condition → Said (List ℕ)
solve_words c =
    cond (solvable (width c) (polynomial c) c.order) (solved (boole_words c)) (none (smallest_blocked c.U c.G (polynomial c)))

-- what each case of the code's `Verdict` says, once the answers stand in `answers`
abbrev pub verdict : Verdict → List ℕ → Said (List ℕ)
verdict Solved answers = solved answers
verdict (None state) answers = none state
