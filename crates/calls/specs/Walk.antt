-- What the walk over a volume does (`volume`; document 01, 'Audit and volume'): it 'is made from a lent volume and a place in it, and answers the count of entries from there to
-- the end, or the refusal with the count passed before it. A place at or past the end gives 0. The first entry walked always passes 15.'
-- Assumes nothing.
use Rattle.std.specs.Prelude.{◌≡◌, List, [], ◌∷◌, ◌++◌, ℕ, zero, suc, ◌<◌, length, drop, Result, Ok, Err}
use Rattle.tables.specs.Questions.{number, first_no}
use Rattle.tables.specs.Answered.{Reply, accepted, refused, Answered, answered}
use Rattle.entry.specs.Record.{Record, bytes}
use Rattle.entry.specs.Held.{records, route_of}
use Rattle.calls.specs.declared.Stopped.{Stopped}
use Rattle.calls.specs.Questions.{walk_questions}
use Rattle.calls.specs.Volume.{Entries}

-- the number of the first no to the entry that the bytes begin with, 0 if there is none
abbrev pub walk_refusal : ℕ → List ℕ → ℕ
walk_refusal before bs = first_no (walk_questions before (records bs))

-- the walk's answer at an entry whose first no is `number`, 0 if there is none, with so many passed before it: `onwards` is its answer from behind it
abbrev pub at_entry : ℕ → ℕ → Reply → Reply
at_entry zero passed onwards = onwards
at_entry (suc number) passed onwards = refused (suc number) (passed ∷ [])

-- the walk's answer on bytes that stand behind so many passed entries, the last with the route `before`; `most` bounds the entries looked at
unfoldable pub walk_at_most : ℕ → ℕ → ℕ → List ℕ → Reply
walk_at_most zero before passed bs = accepted (passed ∷ [])
walk_at_most (suc most) before passed [] = accepted (passed ∷ [])
walk_at_most (suc most) before passed (b ∷ bs) =
    let rs : List Record = records (b ∷ bs) in
    at_entry (walk_refusal before (b ∷ bs)) passed (walk_at_most most (route_of rs) (suc passed) (drop (length (bytes rs)) (b ∷ bs)))

-- there are no more entries than bytes, so that the bound plays no part
unfoldable pub walk_behind : ℕ → ℕ → List ℕ → Reply
walk_behind before passed bs = walk_at_most (length bs) before passed bs

-- the answer of a walk that is made from a volume and a place in it
unfoldable pub walk_reply : List ℕ → ℕ → Reply
walk_reply volume place = walk_behind 0 0 (drop place volume)

abbrev pub walk_call : List ℕ → ℕ → Answered Reply
walk_call volume place = answered (walk_reply volume place) []

-- this paper's number and values for a walk: the count, or the refusal with the count passed before it
abbrev pub walked : Result ℕ Stopped → Reply
walked (Ok count) = accepted (count ∷ [])
walked (Err stopped) = refused (number stopped.question) (stopped.passed ∷ [])

-- the same told by the entries that are passed, which are those that the writer makes: behind so many of them, 'the count of entries from there
-- to the end, or the refusal with the count passed before it'
pub data Ends (last passed : ℕ) : List ℕ → Reply → Type 0 where
  at_end : Ends last passed [] (accepted (passed ∷ []))
  refused_at : {bs : List ℕ} (number : ℕ) → 0 < length bs → walk_refusal last bs ≡ number → (number ≡ 0 → ⊥)
      → Ends last passed bs (refused number (passed ∷ []))

-- so many entries stand at the front of the bytes, and the answer is given behind them
pub record Walks (bs : List ℕ) (answer : Reply) : Type 0 where
  pub last : ℕ
  pub count : ℕ
  pub front : List ℕ
  pub rest : List ℕ
  pub entries : Entries 0 last count front
  pub parts : bs ≡ front ++ rest
  pub ends : Ends last count rest answer
