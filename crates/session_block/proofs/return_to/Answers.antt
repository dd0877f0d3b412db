-- `session_block::return_to` meets its contract: the letters stay.
-- Assumes nothing.
use Rattle.session.specs.History.{returns}
use Rattle.session_block.proofs.Block.{letters_after}
use Rattle.session_block.proofs.return_to.Goals as goal

pub keep-requires : goal.keep-requires
keep-requires c = letters_after c.session_in-s.result (returns c.args.name) c.return_to.ensures c.session_in-s.ensures.1
