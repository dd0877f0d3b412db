-- What the signs mean, as rows beside the bench table's: texts in which `|` stands, how `|` and `+` are grouped, and what binds tighter,
-- each with the table that it is read into. Bytes go by masks: 1, u, v, u*v for two unknowns, and then w, u*w, v*w, u*v*w for three.
-- Assumes nothing.
use Rattle.std.specs.Prelude.{◌≡◌, List, [], ◌∷◌, ℕ}
use Rattle.grammar.specs.Text.{IsRead, text_table}

-- a row: the unknowns and givens, the text in bytes, and its table
pub record SignRow : Type 0 where
  pub U : ℕ
  pub G : ℕ
  pub text : List ℕ
  pub table : List ℕ

unfoldable pub sign_rows : List SignRow
sign_rows =
    -- (2,0) `u|v`: u + v + u*v
    record { U = 2; G = 0; text = 117 ∷ 124 ∷ 118 ∷ []; table = 0 ∷ 1 ∷ 1 ∷ 1 ∷ [] }
    -- (3,0) `u|v+w`, grouped from the left: u + v + u*v + w
    ∷ record { U = 3; G = 0; text = 117 ∷ 124 ∷ 118 ∷ 43 ∷ 119 ∷ []; table = 0 ∷ 1 ∷ 1 ∷ 1 ∷ 1 ∷ 0 ∷ 0 ∷ 0 ∷ [] }
    -- (3,0) `u+v|w`, grouped from the left: u + v + w + u*w + v*w
    ∷ record { U = 3; G = 0; text = 117 ∷ 43 ∷ 118 ∷ 124 ∷ 119 ∷ []; table = 0 ∷ 1 ∷ 1 ∷ 0 ∷ 1 ∷ 1 ∷ 1 ∷ 0 ∷ [] }
    -- (2,0) `!u*v`, `!` binds tighter: v + u*v
    ∷ record { U = 2; G = 0; text = 33 ∷ 117 ∷ 42 ∷ 118 ∷ []; table = 0 ∷ 0 ∷ 1 ∷ 1 ∷ [] }
    -- (3,0) `u*v+w`, `*` binds tighter: u*v + w
    ∷ record { U = 3; G = 0; text = 117 ∷ 42 ∷ 118 ∷ 43 ∷ 119 ∷ []; table = 0 ∷ 0 ∷ 0 ∷ 1 ∷ 1 ∷ 0 ∷ 0 ∷ 0 ∷ [] }
    ∷ []

-- the row holds: its text is read, and into its table
pub record RowHolds (r : SignRow) : Type 0 where
  pub is_read : IsRead r.U r.G r.text
  pub read_into : text_table r.U r.G r.text ≡ r.table

infixr 20 ◌also◌
-- it holds of every row of a list
pub data EachRow (P : SignRow → Type 0) : List SignRow → Type 0 where
  end : EachRow P []
  ◌also◌ : {r : SignRow} {rows : List SignRow} → P r → EachRow P rows → EachRow P (r ∷ rows)
