-- `words::ones` meets its contract. Assumes nothing.
use native.Mathlib.Omega.{arith}
use lib.Count.{ones-le}
use Rattle.words.proofs.Counts.{ones-count}
use Rattle.words.proofs.ones.Goals as goal

pub returns : goal.returns
returns c = (ones-count c.args.word (omega arith), ones-le 64 c.args.word (omega arith))
