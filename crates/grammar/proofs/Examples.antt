-- Worked texts, computed: what the grammar makes of them. Byte 117 is `u`, 97 is `a`; the other numbers are in `specs/Symbols.antt`.
-- Assumes nothing.
use mathlib.Core.Path.{◌≡◌, refl}
use mathlib.Core.Bool.{true, false}
use mathlib.Core.List.{[], ◌∷◌}
use Rattle.grammar.specs.Symbols.{symbols, symbol, is_unknown, is_given, is_single}
use Rattle.grammar.specs.Grammar.{constant, unknown, given, negation, times, plus, either}
use Rattle.grammar.specs.Reader.{reads, read_with, and_then, grammar_reads, tree_of}

-- `u|v+w` is grouped from the left
or_then_plus : tree_of (117 ∷ 124 ∷ 118 ∷ 43 ∷ 119 ∷ []) ≡ plus (either (unknown 0) (unknown 1)) (unknown 2)
unfolding tree_of symbols symbol is_unknown is_given is_single reads read_with and_then
or_then_plus = refl

-- `u+v*a`: `*` binds tighter
plus_then_times : tree_of (117 ∷ 43 ∷ 118 ∷ 42 ∷ 97 ∷ []) ≡ plus (unknown 0) (times (unknown 1) (given 0))
unfolding tree_of symbols symbol is_unknown is_given is_single reads read_with and_then
plus_then_times = refl

-- ` ( h + 1 ) * ! ! z `, with spaces everywhere
with_spaces : tree_of (32 ∷ 40 ∷ 32 ∷ 104 ∷ 32 ∷ 43 ∷ 32 ∷ 49 ∷ 32 ∷ 41 ∷ 32 ∷ 42 ∷ 33 ∷ 32 ∷ 32 ∷ 33 ∷ 122 ∷ 32 ∷ [])
    ≡ times (plus (given 7) (constant true)) (negation (negation (unknown 5)))
unfolding tree_of symbols symbol is_unknown is_given is_single reads read_with and_then
with_spaces = refl

-- `()`, a space alone, `u v` and `u*` are no texts of the grammar
empty_brackets : grammar_reads (40 ∷ 41 ∷ []) ≡ false
unfolding grammar_reads symbols symbol is_unknown is_given is_single reads read_with and_then
empty_brackets = refl

space_alone : grammar_reads (32 ∷ []) ≡ false
unfolding grammar_reads symbols symbol is_unknown is_given is_single reads read_with and_then
space_alone = refl

no_sign_between : grammar_reads (117 ∷ 32 ∷ 118 ∷ []) ≡ false
unfolding grammar_reads symbols symbol is_unknown is_given is_single reads read_with and_then
no_sign_between = refl

unfinished : grammar_reads (117 ∷ 42 ∷ []) ≡ false
unfolding grammar_reads symbols symbol is_unknown is_given is_single reads read_with and_then
unfinished = refl
