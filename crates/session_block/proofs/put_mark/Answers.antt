-- `session_block::put_mark` meets its contract.
-- Assumes nothing.
use mathlib.Core.Path.{◌∙◌}
use Rattle.session_block.proofs.Block.{flag_digit, name_put}
use Rattle.session_block.proofs.put_mark.Goals as goal

pub returns : goal.returns
returns c =
    let set = c.args.mark.now.set in
    name_put c.from.result c.args.bytes.now _ _ set c.requires (c.from.ensures ∙ flag_digit set) c.copy_from_slice.ensures.after
