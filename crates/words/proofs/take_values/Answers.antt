-- `words::take_values` meets its contract. Assumes nothing.
use Rattle.words.proofs.Letters.{values_taken}
use Rattle.words.proofs.take_values.Goals as goal

pub returns : goal.returns
returns c = values_taken _ _ c.args.t.now _ _
    c.further.ensures
    c.requires.1
    c.pack.ensures c.to_values.ensures
