-- `words::cross` meets its contract. Assumes nothing.
use native.Mathlib.Omega.{arith}
use Rattle.words.proofs.Crossing.{cross_word}
use Rattle.words.proofs.cross.Goals as goal

pub returns : goal.returns
returns c = cross_word _ (omega (arith, c.ranges.word))
