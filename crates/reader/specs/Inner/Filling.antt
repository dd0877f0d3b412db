-- What the functions that read an entry are lent.
-- Assumes nothing.
use Rattle.std.specs.Prelude.{◌≡◌, List, [], ◌∷◌, ℕ, ◌+◌, ◌^◌, ◌≤◌, length}
use Rattle.tables.specs.declared.Letters.{Letters}
use Rattle.tables.specs.Questions.{writes, buffer_questions}
use Rattle.tables.specs.Inner.Passed.{NoneNo}
use Rattle.calls.specs.declared.Verdict.{Verdict}
use Rattle.calls.specs.declared.Verdict.TheVariants.{Solved, None}
use Rattle.records.specs.Inner.Filling.{put_monomial, Filling}

-- the bytes that the answers take, of as many as `size`: none where the entry says 'none'
abbrev pub room_for : Verdict → ℕ → ℕ
room_for Solved size = size
room_for (None state) size = 0

-- question 4 is answered yes, and what that tells
pub record PassedRoom (k fact condition size answers : ℕ) : Type 0 where
  pub none_no : NoneNo (buffer_questions (writes k fact ∷ writes k condition ∷ writes size answers ∷ []))
  pub fact_room : k ≤ fact
  pub condition_room : k ≤ condition
  pub answer_room : size ≤ answers

-- the condition's table and the answers' in the midst of filling, from the records from `at` on
pub record BothFilling (bs : List ℕ) (l : Letters) (c₀ a₀ c a : List ℕ) (at : ℕ) : Type 0 where
  pub condition : Filling (put_monomial 1 (2 ^ (l.unknowns + l.givens))) bs l.unknowns l.givens c₀ 0 c at
  pub answers : Filling (put_monomial 2 (2 ^ (l.unknowns + l.givens))) bs l.unknowns l.givens a₀ 0 a at
  pub long : length c ≡ l.table_len
