-- What the functions that ask the questions hand on: the first no, or what a yes to each tells of the letters and of the parts that the
-- work is lent.
-- Assumes nothing.
use Rattle.std.specs.Prelude.{◌≡◌, List, ℕ, ◌*◌, ◌^◌, ◌≤◌, ◌<◌, length, take}
use Rattle.ring.specs.declared.State.{State}
use Rattle.ring.specs.declared.Choice.{Choice}
use Rattle.ring.specs.Table.{AreBits, IsTable}
use Rattle.tables.specs.declared.Letters.{Letters}
use Rattle.tables.specs.Questions.{first_no}
use Rattle.tables.specs.Inner.Passed.{AreLetters}
use Rattle.calls.specs.Questions.{value_questions, pair_questions, substitute_questions, derivative_questions}

pub record PassedValue (u g : ℕ) (t : List ℕ) (state : State) (choice : Choice) (l : Letters) : Type 0 where
  pub none_no : first_no (value_questions u g t state choice) ≡ 0
  pub letters : AreLetters u g l
  pub room : l.table_len ≤ length t
  pub state_fits : state.0 < 2 ^ g
  pub choice_fits : choice.0 < 2 ^ u

pub record PassedPair (u g : ℕ) (a b : List ℕ) (room : ℕ) (l : Letters) : Type 0 where
  pub none_no : first_no (pair_questions u g a b room) ≡ 0
  pub letters : AreLetters u g l
  pub first_room : l.table_len ≤ length a
  pub second_room : l.table_len ≤ length b
  pub made_room : l.table_len ≤ room
  pub first : IsTable l.n (take l.table_len a)
  pub second : IsTable l.n (take l.table_len b)

pub record PassedSubstitute (u g : ℕ) (condition handed : List ℕ) (room : ℕ) (l : Letters) : Type 0 where
  pub none_no : first_no (substitute_questions u g condition handed room) ≡ 0
  pub letters : AreLetters u g l
  pub condition_room : l.table_len ≤ length condition
  pub handed_room : l.unknowns * l.table_len ≤ length handed
  pub made_room : l.table_len ≤ room
  pub table : IsTable l.n (take l.table_len condition)
  pub bits : AreBits (take (l.unknowns * l.table_len) handed)

pub record PassedDerivative (u g : ℕ) (t : List ℕ) (s room : ℕ) (l : Letters) : Type 0 where
  pub none_no : first_no (derivative_questions u g t s room) ≡ 0
  pub letters : AreLetters u g l
  pub lent_room : l.table_len ≤ length t
  pub made_room : l.table_len ≤ room
  pub table : IsTable l.n (take l.table_len t)
  pub declared : s < 2 ^ l.n
