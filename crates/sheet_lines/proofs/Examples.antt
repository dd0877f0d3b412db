-- The definitions at a few values, by computation: the sample line of document 01, and where an input's lines end.
-- Assumes nothing.
use mathlib.Core.Path.{◌≡◌, refl}
use mathlib.Core.List.{[], ◌∷◌}
use Rattle.std.specs.Prelude.{Some, None}
use Rattle.sheet_lines.specs.Fields.{digits_ahead, number_behind, has_letters, is_readable, fields, read_line}
use Rattle.sheet_lines.specs.Sheet.{in_front, lines_of}

-- `7 2 0 u+v`: route 7, two unknowns, no givens, the text behind the third space
sample_line : read_line (55 ∷ 32 ∷ 50 ∷ 32 ∷ 48 ∷ 32 ∷ 117 ∷ 43 ∷ 118 ∷ []) ≡ Some (record { route = 7; unknowns = 2; givens = 0; text = 6 })
unfolding digits_ahead number_behind has_letters is_readable fields read_line
sample_line = refl

-- `007 2 0 `: leading zeros, and an empty text
empty_text : read_line (48 ∷ 48 ∷ 55 ∷ 32 ∷ 50 ∷ 32 ∷ 48 ∷ 32 ∷ []) ≡ Some (record { route = 7; unknowns = 2; givens = 0; text = 8 })
unfolding digits_ahead number_behind has_letters is_readable fields read_line
empty_text = refl

-- `7 2 0`: no third space
no_third_space : read_line (55 ∷ 32 ∷ 50 ∷ 32 ∷ 48 ∷ []) ≡ None
unfolding digits_ahead number_behind has_letters is_readable fields read_line
no_third_space = refl

-- no input has no line; a line feed alone ends an empty one; the last line may lack its line feed
no_line : lines_of [] ≡ []
unfolding lines_of
no_line = refl

empty_line : lines_of (10 ∷ []) ≡ [] ∷ []
unfolding lines_of
empty_line = refl

last_line : lines_of (120 ∷ 10 ∷ 121 ∷ []) ≡ (120 ∷ []) ∷ (121 ∷ []) ∷ []
unfolding lines_of in_front
last_line = refl

ended_line : lines_of (120 ∷ 10 ∷ 121 ∷ 10 ∷ []) ≡ (120 ∷ []) ∷ (121 ∷ []) ∷ []
unfolding lines_of in_front
ended_line = refl
