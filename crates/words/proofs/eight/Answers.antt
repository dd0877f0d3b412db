-- `words::eight` meets its contract. Assumes nothing.
use Rattle.words.proofs.Crossing.{eight_read}
use Rattle.words.proofs.eight.Goals as goal

pub returns : goal.returns
returns c =
    let whole = rw c.unwrap-bytes.ensures at c.try_into.ensures in
    rw c.from_le_bytes.ensures (eight_read c.args.t.now c.unwrap-bytes.result c.args.at c.requires.1 c.requires.0 whole.1.same)
