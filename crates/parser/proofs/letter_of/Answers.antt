-- Test by test. Assumes nothing.
use native.Mathlib.Omega.{arith}
use borrow.Author.Tests.{lt-ltb, le-ltb}
use Rattle.parser.specs.Inner.Blocks.{letter_of}
use Rattle.parser.proofs.letter_of.Goals as goal

pub returns-then-code-lt8 : goal.returns-then-code-lt8
unfolding letter_of
returns-then-code-lt8 c = let code = c.from-code.ensures in
    (rw (← code, lt-ltb _ _ c.if-code-lt8.true), omega arith)

pub returns-else-code-lt8 : goal.returns-else-code-lt8
unfolding letter_of
returns-else-code-lt8 c = let code = c.from-code.ensures in
    (rw (← code, le-ltb _ _ c.if-code-lt8.false), omega (arith, c.requires.0, c.requires.1))
