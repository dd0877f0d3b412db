-- What the functions that ask a step's questions hand on.
-- Assumes nothing.
use Rattle.std.specs.Prelude.{◌≡◌, List, ℕ, ◌-◌, ◌<◌, take, Result, MatchResult}
use Rattle.ring.specs.Table.{AreBits}
use Rattle.tables.specs.declared.Letters.{Letters}
use Rattle.tables.specs.declared.Question.{Question}
use Rattle.tables.specs.Questions.{Asked}
use Rattle.tables.specs.Inner.Passed.{NoneNo, IsFirstNo, AreLetters}
use Rattle.calls.specs.Questions.{session_questions, mark_questions}
use Rattle.session.specs.declared.Session.{Session}
use Rattle.session.specs.Session.{asked_tables}

-- the questions that every step first puts to the session handed in
abbrev pub own_questions : Session → List Asked
own_questions s = session_questions s.unknowns s.givens (asked_tables s)

-- the session passes them
pub record PassedOwn (s : Session) (l : Letters) : Type 0 where
  pub none_no : NoneNo (own_questions s)
  pub letters : AreLetters s.unknowns s.givens l
  pub bits : AreBits (take l.table_len s.table)

-- and its names have this one, at the place i
pub record PassedName (s : Session) (name i : ℕ) : Type 0 where
  pub none_no : NoneNo (mark_questions s.unknowns s.givens (asked_tables s) name)
  pub place : i ≡ name - 65
  pub inside : i < 4

-- what becomes of the session `before` in a step that puts these questions: it is `after`, or what it was, and the first that is answered no
-- is the error
abbrev pub IsStep : List Asked → Session → Session → Result Unit Question → Session → Type 0
IsStep questions after before result now =
    MatchResult result (λ done. NoneNo questions × (now ≡ after)) (λ question. IsFirstNo questions question × (now ≡ before))
