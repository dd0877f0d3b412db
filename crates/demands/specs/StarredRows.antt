-- The starred rows of the bench table (document 01, 'Bench table'), from the text to the entry's answers.
-- The rows without their texts, with the answers that they state, are those of `solution`.
-- Assumes nothing.
use Rattle.std.specs.Prelude.{◌≡◌, List, [], ◌∷◌, ℕ, length}
use Rattle.tables.specs.Questions.{first_no}
use Rattle.solution.specs.Condition.{condition_of}
use Rattle.solution.specs.BenchTable.{Row, LowenheimIs}
use Rattle.calls.specs.Questions.{text_questions}
use Rattle.grammar.specs.Text.{text_table}
use Rattle.entry.specs.Entry.{entry}
use Rattle.entry.specs.Held.{records, held_verdict}

-- the texts, in bytes, in the order of the rows
unfoldable pub starred_texts : List (List ℕ)
starred_texts =
    -- `0`
    (48 ∷ [])
    -- `1`
    ∷ (49 ∷ [])
    -- `u`
    ∷ (117 ∷ [])
    -- `!u`
    ∷ (33 ∷ 117 ∷ [])
    -- `u+v`
    ∷ (117 ∷ 43 ∷ 118 ∷ [])
    -- `u*v`
    ∷ (117 ∷ 42 ∷ 118 ∷ [])
    -- `u+v+1`
    ∷ (117 ∷ 43 ∷ 118 ∷ 43 ∷ 49 ∷ [])
    -- `u+a`
    ∷ (117 ∷ 43 ∷ 97 ∷ [])
    -- `a`
    ∷ (97 ∷ [])
    -- `a*u+b*u+b`
    ∷ (97 ∷ 42 ∷ 117 ∷ 43 ∷ 98 ∷ 42 ∷ 117 ∷ 43 ∷ 98 ∷ [])
    -- `(v+1)*(u+v)+(v+1)*u`
    ∷ (40 ∷ 118 ∷ 43 ∷ 49 ∷ 41 ∷ 42 ∷ 40 ∷ 117 ∷ 43 ∷ 118 ∷ 41 ∷ 43 ∷ 40 ∷ 118 ∷ 43 ∷ 49 ∷ 41 ∷ 42 ∷ 117 ∷ [])
    ∷ []

-- a row and its text: the text is read into the row's table, its entry holds the row's verdict, and the own Löwenheim answer is the row's
pub record TextHolds (text : List ℕ) (r : Row) : Type 0 where
  pub read : first_no (text_questions r.condition.U r.condition.G text (length r.condition.table)) ≡ 0
  pub table : condition_of r.condition.U r.condition.G (text_table r.condition.U r.condition.G text) ≡ r.condition
  pub archived : held_verdict (records (entry 1 r.condition)) ≡ r.verdict
  pub own : LowenheimIs r.condition r.lowenheim

infixr 20 ◌also◌
-- every row with its text
pub data AllHold : List (List ℕ) → List Row → Type 0 where
  end : AllHold [] []
  ◌also◌ : {text : List ℕ} {r : Row} {texts : List (List ℕ)} {rows : List Row} → TextHolds text r → AllHold texts rows
      → AllHold (text ∷ texts) (r ∷ rows)
