-- `words::letter_word` meets its contract. Assumes nothing.
use mathlib.Core.Path.{refl, ◌∙◌}
use Rattle.words.proofs.Turned.{low_letter, high_letter}
use Rattle.words.proofs.letter_word.Goals as goal

pub returns-then-x-lt6 : goal.returns-then-x-lt6
returns-then-x-lt6 c = c.low_letter.ensures ∙ low_letter _ _ c.if-x-lt6.true

pub returns : goal.returns
returns c = c.constant_word.ensures ∙ high_letter _ _ _ c.if-x-lt6.false refl
