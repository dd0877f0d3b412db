-- One of the six lowest letters is the same in every word. Assumes nothing.
use mathlib.Core.Path.{◌≡◌, ◌∙◌}
use borrow.Author.Rules.{rules}
use Rattle.parser.proofs.Blocks.{low_word}
use Rattle.parser.proofs.put_letter.Goals as goal

pub returns-then-j-lt6 : goal.returns-then-j-lt6
returns-then-j-lt6 c = c.put_block.ensures _ (λ w v l given.
    let is : v ≡ c.low_letter-low.result = search rules in
    low_word c.args.j w v c.if-j-lt6.true (is ∙ c.low_letter-low.ensures))
