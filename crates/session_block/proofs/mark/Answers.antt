-- `session_block::mark` meets its contract: the letters stay.
-- Assumes nothing.
use Rattle.session.specs.History.{marks}
use Rattle.session_block.proofs.Block.{letters_after}
use Rattle.session_block.proofs.mark.Goals as goal

pub keep-requires : goal.keep-requires
keep-requires c = letters_after c.session_in-s.result (marks c.args.name) c.mark.ensures c.session_in-s.ensures.1
