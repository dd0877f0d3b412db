-- `words::replace_word` meets its contract. Assumes nothing.
use Rattle.std.proofs.Common.{arith, ◌∙◌}
use Rattle.words.proofs.Turned.{replace_word}
use Rattle.words.proofs.replace_word.Goals as goal

pub returns : goal.returns
returns c = c.pick.ensures ∙ replace_word _ _ _ (omega (arith, c.ranges.f)) c.turn_word.ensures _ _ c.requires
    (omega (arith, c.ranges.a)) c.low_letter.ensures
