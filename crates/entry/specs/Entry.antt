-- The entry of a condition (document 01, 'The archive entry'; document 02, C-11 and C-16): 'An entry is one kind 1; kind 2 in written order; kind 3
-- by unknown, then written order, or one kind 5; one kind 4. Answers are Boole's'.
-- Assumes nothing.
use Rattle.std.specs.Prelude.{◌≡◌, true, cond, List, [], ◌∷◌, ◌++◌, map, ℕ, zero, suc}
use Rattle.ring.specs.Table.{IsTable, present, held}
use Rattle.tables.specs.Questions.{letters_fit}
use Rattle.order.specs.Order.{monomials}
use Rattle.solution.specs.Fact.{IsFact}
use Rattle.solution.specs.Condition.{Condition, width, ListsEach}
use Rattle.solution.specs.Order.{order_bytes}
use Rattle.solution.specs.Elimination.{Verdict, solved, none, solve}
use Rattle.entry.specs.Record.{Record, start_record, condition_record, answer_record, end_record, none_record}
use Rattle.entry.specs.Record.{order_record, fact_record, is_default, bytes}
use Rattle.entry.specs.Questions.{route_fits}

-- 'A kind 6 record .. follows kind 1'. 'It is left out for the order 0, 1, 2 and so on'
unfoldable pub order_records : Condition → List Record
order_records c = cond (is_default c.U (order_bytes c.order)) [] (order_record c.order ∷ [])

-- 'Kind 7 .. holds a monomial of g; these follow kind 6 or kind 1, in written order'
unfoldable pub fact_records : Condition → List Record
fact_records c = map fact_record (monomials (width c) (present c.fact))

-- 'kind 2 in written order': the monomials of the condition f, whatever its fact
unfoldable pub condition_records : Condition → List Record
condition_records c = map condition_record (monomials (width c) (present c.table))

-- 'kind 3 by unknown, then written order': the monomials of the first U answers of the answer table a, in n letters
unfoldable pub answer_records : ℕ → ℕ → List ℕ → List Record
answer_records zero n a = []
answer_records (suc j) n a = answer_records j n a ++ map (answer_record j) (monomials n (held n a j))

-- 'or one kind 5', where there is no solution
unfoldable pub verdict_records : ℕ → ℕ → Verdict (List ℕ) → List Record
verdict_records U n (solved a) = answer_records U n a
verdict_records U n (none state) = none_record state.0 ∷ []

-- the records of an entry that gives a verdict on a condition
unfoldable pub entry_records : ℕ → Condition → Verdict (List ℕ) → List Record
entry_records route c verdict =
    start_record route c.U c.G
    ∷ (order_records c
    ++ (fact_records c ++ (condition_records c ++ (verdict_records c.U (width c) verdict ++ (end_record route ∷ [])))))

-- the records of the entry of a route and its condition: 'Answers are Boole's'
abbrev pub archived_records : ℕ → Condition → List Record
archived_records route c = entry_records route c (solve c)

-- the entry, in bytes
unfoldable pub entry : ℕ → Condition → List ℕ
entry route c = bytes (archived_records route c)

-- the route and the condition pass the writer's questions on them: they have an entry
pub record Archivable (route : ℕ) (c : Condition) : Type 0 where
  pub letters : letters_fit c.U c.G ≡ true
  pub of_route : route_fits route ≡ true
  pub of_order : ListsEach c.U c.order
  pub of_table : IsTable (width c) c.table
  pub of_fact : IsFact c.U c.G c.fact
