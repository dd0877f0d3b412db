-- `words::both_word` meets its contract. Assumes nothing.
use native.Mathlib.Omega.{arith}
use Rattle.words.proofs.Turned.{both_word}
use Rattle.words.proofs.both_word.Goals as goal

pub returns : goal.returns
returns c = both_word _ _ _ (omega (arith, c.ranges.f)) c.turn_word.ensures
