-- `session_block::add` meets its contract: the letters stay.
-- Assumes nothing.
use Rattle.session.specs.History.{adds}
use Rattle.session_block.proofs.Block.{letters_after}
use Rattle.session_block.proofs.add.Goals as goal

pub keep-requires : goal.keep-requires
keep-requires c = letters_after c.session_in-s.result (adds c.args.h.now) c.add.ensures c.session_in-s.ensures.1
