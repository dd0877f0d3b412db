-- The definitions at a few values, by computation: numbers without leading zeros, lower-case digits, and two refusals.
-- Assumes nothing.
use mathlib.Core.Path.{◌≡◌, refl}
use mathlib.Core.List.{[], ◌∷◌}
use Rattle.printing.specs.Print.{digit_byte, decimal_in, decimal, hexadecimal, spaced, refused_line}

zero_printed : decimal 0 ≡ 48 ∷ []
unfolding decimal decimal_in digit_byte
zero_printed = refl

count-printed : decimal 105 ≡ 49 ∷ 48 ∷ 53 ∷ []
unfolding decimal decimal_in digit_byte
count-printed = refl

-- the byte 171 is `ab`
lower_case : hexadecimal (171 ∷ []) ≡ 97 ∷ 98 ∷ []
unfolding hexadecimal digit_byte
lower_case = refl

-- `refused 15`, and `refused 13 5`
refusal_printed : refused_line 15 [] ≡ 114 ∷ 101 ∷ 102 ∷ 117 ∷ 115 ∷ 101 ∷ 100 ∷ 32 ∷ 49 ∷ 53 ∷ 10 ∷ []
unfolding refused_line spaced decimal decimal_in digit_byte
refusal_printed = refl

walk_refusal-printed : refused_line 13 (5 ∷ []) ≡ 114 ∷ 101 ∷ 102 ∷ 117 ∷ 115 ∷ 101 ∷ 100 ∷ 32 ∷ 49 ∷ 51 ∷ 32 ∷ 53 ∷ 10 ∷ []
unfolding refused_line spaced decimal decimal_in digit_byte
walk_refusal-printed = refl
