-- `words::value_at` meets its contract. Assumes nothing.
use Rattle.words.proofs.Packing.{value_here}
use Rattle.words.proofs.value_at.Goals as goal

pub returns : goal.returns
returns c = value_here c.args.words.now c.args.p
