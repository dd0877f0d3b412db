-- What the audit's inner functions are handed.
-- Assumes nothing.
use Rattle.std.specs.Prelude.{◌≡◌, List, ℕ, ◌-◌, ◌^◌, length}
use Rattle.tables.specs.declared.Letters.{Letters}
use Rattle.tables.specs.Inner.Passed.{NoneNo}
use Rattle.entry.specs.Held.{records, held_condition}
use Rattle.calls.specs.Questions.{fact_questions}
use Rattle.records.specs.Inner.Filling.{Passed}
use Rattle.ring.specs.Polynomial.{Polynomial}
use Rattle.ring.specs.Table.{IsTable, answer_table}

-- an answer table, with the polynomials that it holds
pub record AreAnswers (U n : ℕ) (t : List ℕ) : Type 0 where
  pub polynomials : ℕ → Polynomial
  pub are : t ≡ answer_table U n polynomials

-- bytes that pass the questions which reading puts too, the table of the condition that they hold, and words lent for its values and for those of 1 + g
pub record Counted (bs : List ℕ) (l : Letters) (condition values kept : List ℕ) : Type 0 where
  pub passed : Passed bs l
  pub fact_passed : NoneNo (fact_questions l.unknowns l.givens (held_condition (records bs)).fact)
  pub is-table : IsTable l.n condition
  pub long : length values ≡ 2 ^ (l.n - 6)
  pub kept_long : length kept ≡ 2 ^ (l.n - 6)
