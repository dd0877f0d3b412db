-- What a yes to each of a text's early questions tells.
-- Assumes nothing.
use Rattle.std.specs.Prelude.{List, ℕ, ◌≤◌, length}
use Rattle.tables.specs.declared.Letters.{Letters}
use Rattle.tables.specs.Inner.Passed.{NoneNo, AreLetters}
use Rattle.notation.specs.Inner.Work.{early_questions}

pub record PassedEarly (u g : ℕ) (text : List ℕ) (room : ℕ) (l : Letters) : Type 0 where
  pub none_no : NoneNo (early_questions u g text room)
  pub letters : AreLetters u g l
  pub short : length text ≤ 200
  pub room_fits : l.table_len ≤ room
