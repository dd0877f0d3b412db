-- `words::add_half` meets its contract. Assumes nothing.
use Rattle.words.proofs.Steps.{half_added}
use Rattle.words.proofs.add_half.Goals as goal

pub returns : goal.returns
returns c =
    let cut = c.split_at_mut-low.ensures in
    half_added c.args.block.now _ _ _ c.args.half cut.front cut.back c.requires c.add_into.ensures
