-- What the functions that ask questions hand on: the first no, or what a yes to each tells.
-- Assumes nothing.
use Rattle.std.specs.Prelude.{◌≡◌, List, ℕ}
use Rattle.tables.specs.declared.Question.{Question}
use Rattle.tables.specs.declared.Letters.{Letters}
use Rattle.tables.specs.Questions.{Asked, number, first_no}

-- every question is answered yes
abbrev pub NoneNo : List Asked → Type 0
NoneNo questions = first_no questions ≡ 0

-- the question is the first that is answered no
abbrev pub IsFirstNo : List Asked → Question → Type 0
IsFirstNo questions question = number question ≡ first_no questions

-- the letters are those that were asked for
pub record AreLetters (u g : ℕ) (l : Letters) : Type 0 where
  pub unknowns : l.unknowns ≡ u
  pub givens : l.givens ≡ g
