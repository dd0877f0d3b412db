-- The bit of the word's number. Assumes nothing.
use mathlib.Core.Bool.{true, false}
use borrow.Author.Tests.{eq-eqb, ne_eqb}
use Rattle.parser.proofs.Blocks.{high_word}
use Rattle.parser.proofs.high_letter.Goals as goal

pub returns-then-w-j-eq1 : goal.returns-then-w-j-eq1
returns-then-w-j-eq1 c = high_word _ _ true c.requires.0 (eq-eqb _ _ c.if-w-j-eq1.true)

pub returns-else-w-j-eq1 : goal.returns-else-w-j-eq1
returns-else-w-j-eq1 c = high_word _ _ false c.requires.0 (ne_eqb _ _ c.if-w-j-eq1.false)
