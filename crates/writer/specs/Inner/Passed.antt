-- What the function that asks the questions hands on: the first no, or what a yes to each tells of the letters and of the parts that the work
-- is lent.
-- Assumes nothing.
use Rattle.std.specs.Prelude.{◌≡◌, List, ℕ, ◌≤◌, length, take}
use Rattle.ring.specs.Table.{IsTable}
use Rattle.tables.specs.Inner.Passed.{NoneNo, AreLetters}
use Rattle.solver.specs.declared.ordered.OrderedLetters.{OrderedLetters}
use Rattle.writer.specs.Inner.Steps.{condition_questions}

pub record PassedCondition (route u g : ℕ) (order fact condition : List ℕ) (o : OrderedLetters) : Type 0 where
  pub none_no : NoneNo (condition_questions route u g order fact condition)
  pub letters : AreLetters u g o.letters
  pub in_order : o.order ≡ order
  pub route_fits : route ≤ 250
  pub givens_fit : o.letters.givens ≤ 8
  pub fact_room : o.letters.table_len ≤ length fact
  pub condition_room : o.letters.table_len ≤ length condition
  pub fact_table : IsTable o.letters.n (take o.letters.table_len fact)
  pub table : IsTable o.letters.n (take o.letters.table_len condition)
