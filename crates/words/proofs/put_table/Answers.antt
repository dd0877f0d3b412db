-- `words::put_table` meets its contract. Assumes nothing.
use Rattle.words.proofs.Letters.{table_put}
use Rattle.words.proofs.put_table.Goals as goal

pub returns : goal.returns
returns c =
    table_put _ _ c.args.words.now _ _ c.further.ensures c.to_values.ensures c.unpack.ensures
