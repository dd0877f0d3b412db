-- What a call answers, and what becomes of the buffers that it is lent (document 01, 'Where each language form goes' and 'Agreement').
-- A call's contract is one equation: what it gives, and every buffer that it may write, are those of `call`.
-- Assumes nothing.
use Rattle.std.specs.Prelude.{cond, List, [], ◌∷◌, ◌++◌, map, ℕ, zero, suc, length, get_or, drop}
use Rattle.tables.specs.Questions.{Asked, asks_giving, number, first_no}

-- an answer in this paper's terms: the values that the call gives, or the number of the first no and what that no gives with it
pub data Reply : Type 0 where
  accepted : List ℕ → Reply
  refused : ℕ → List ℕ → Reply

-- the answer of a call that puts these questions and, if there is no no, gives these values
unfoldable pub reply : List Asked → List ℕ → Reply
reply [] values = accepted values
reply (asks_giving question answer given ∷ rest) values = cond answer (reply rest values) (refused (number question) given)

-- a lent buffer after a call whose first no is `number`, 0 for none: the answer at its front and every further byte as it was;
-- 'a refusal .. changes no byte'
unfoldable pub after : ℕ → List ℕ → List ℕ → List ℕ
after zero answer lent = answer ++ drop (length answer) lent
after (suc number) answer lent = lent

-- what a call gives, and what each buffer holds afterwards that it was lent to be written
pub record Answered (A : Type 0) : Type 0 where
  pub gives : A
  pub lent : List (List ℕ)

abbrev pub answered : {A : Type 0} → A → List (List ℕ) → Answered A
answered gives lent = record { gives = gives; lent = lent }

-- a buffer that is lent to be written: what belongs at its front, and its bytes before the call
pub record Buffer : Type 0 where
  pub answer : List ℕ
  pub before : List ℕ

infix 70 ◌into◌
abbrev pub ◌into◌ : List ℕ → List ℕ → Buffer
answer into before = record { answer = answer; before = before }

-- what a call does that puts these questions, gives these values and fills these buffers: 'The first no counts'
unfoldable pub call : List Asked → List ℕ → List Buffer → Answered Reply
call questions values buffers =
    answered (reply questions values) (map (λ (b : Buffer). after (first_no questions) b.answer b.before) buffers)

-- the same call as seen through a code for its answer
abbrev pub coded : {A : Type 0} → (Reply → A) → Answered Reply → Answered A
coded code done = answered (code done.gives) done.lent

-- the first buffer afterwards
abbrev pub first_buffer : {A : Type 0} → Answered A → List ℕ
first_buffer done = get_or done.lent 0 []
