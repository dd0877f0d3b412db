-- `session_block::start` meets its contract.
-- Assumes nothing.
use Rattle.session_block.proofs.Block.{letters_started}
use Rattle.session_block.proofs.start.Goals as goal

pub put_session-requires : goal.put_session-requires
put_session-requires c = letters_started _ _ c.start-step.ensures
