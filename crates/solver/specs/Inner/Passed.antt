-- What the functions that ask the questions hand on: the first no, or what a yes to each tells of the letters and of the parts that the
-- work is lent.
-- Assumes nothing.
use Rattle.std.specs.Prelude.{◌≡◌, List, ℕ, ◌*◌, ◌≤◌, length, take}
use Rattle.ring.specs.Table.{AreBits, IsTable}
use Rattle.tables.specs.declared.Letters.{Letters}
use Rattle.tables.specs.Inner.Passed.{NoneNo, AreLetters}
use Rattle.solver.specs.declared.ordered.OrderedLetters.{OrderedLetters}
use Rattle.solver.specs.Inner.Methods.{table_questions}
use Rattle.solver.specs.Inner.Handed.{handed_table_questions}

pub record PassedSolving (u g : ℕ) (order fact condition : List ℕ) (room : ℕ) (o : OrderedLetters) : Type 0 where
  pub none_no : NoneNo (table_questions u g order fact condition room)
  pub letters : AreLetters u g o.letters
  pub in_order : o.order ≡ order
  pub fact_room : o.letters.table_len ≤ length fact
  pub condition_room : o.letters.table_len ≤ length condition
  pub answer_room : o.letters.unknowns * o.letters.table_len ≤ room
  pub fact_table : IsTable o.letters.n (take o.letters.table_len fact)
  pub table : IsTable o.letters.n (take o.letters.table_len condition)

pub record PassedHanded (u g : ℕ) (fact condition handed : List ℕ) (room : ℕ) (l : Letters) : Type 0 where
  pub none_no : NoneNo (handed_table_questions u g fact condition handed room)
  pub letters : AreLetters u g l
  pub fact_room : l.table_len ≤ length fact
  pub condition_room : l.table_len ≤ length condition
  pub handed_room : l.unknowns * l.table_len ≤ length handed
  pub answer_room : l.unknowns * l.table_len ≤ room
  pub fact_table : IsTable l.n (take l.table_len fact)
  pub table : IsTable l.n (take l.table_len condition)
  pub bits : AreBits (take (l.unknowns * l.table_len) handed)
