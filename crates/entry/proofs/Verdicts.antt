-- What an entry asks of a verdict that it gives: its answers are an answer table, and its state is a state. What solving says is such
-- a verdict.
-- Assumes nothing.
use mathlib.Core.Path.{◌≡◌, refl}
use mathlib.Core.Bool.{Bool, true, false, cond}
use mathlib.Core.List.{List}
use Prim.Native.Nat.{ℕ, ◌+◌, ◌^◌, ◌<◌}
use Rattle.ring.specs.Table.{held, answer_table}
use Rattle.ring.proofs.Table.{held-answer_table, answer_table_cong}
use Rattle.solution.specs.Substitution.{Substitution}
use Rattle.solution.specs.Condition.{Condition, width, polynomial, IsOrder}
use Rattle.solution.specs.Elimination.{Verdict, solved, none, solve, solvable, boole_answers, boole_table, smallest_blocked}
use Rattle.solution.proofs.Theorems.{none_names_smallest}

abbrev pub VerdictFits : ℕ → ℕ → Verdict (List ℕ) → Type 0
VerdictFits U G (solved a) = answer_table U (U + G) (held (U + G) a) ≡ a
VerdictFits U G (none state) = state.0 < 2 ^ G

-- an answer table is that of the polynomials that it holds
pub answers_fit : (U G : ℕ) (b : Substitution) → VerdictFits U G (solved (answer_table U (U + G) b))
answers_fit U G b = answer_table_cong U (U + G) _ b (λ j m h l. held-answer_table U (U + G) b j m h l)

pub solve_fits : (c : Condition) → IsOrder c.U c.order → VerdictFits c.U c.G (solve c)
unfolding solve boole_table
solve_fits c is = go (solvable (width c) (polynomial c) c.order) refl
  where
    go : (b : Bool) → solvable (width c) (polynomial c) c.order ≡ b
        → VerdictFits c.U c.G (cond b (solved (boole_table c)) (none (smallest_blocked c.U c.G (polynomial c))))
    go true e = answers_fit c.U c.G (boole_answers (width c) (polynomial c) c.order)
    go false e = (none_names_smallest c.U c.G (polynomial c) c.order is e).is_state
