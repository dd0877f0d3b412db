-- `session_block::mark_in` meets its contract.
-- Assumes nothing.
use Rattle.ring.specs.Table.{present}
use Rattle.session_block.specs.Block.{mark_in}
use Rattle.session_block.proofs.mark_in.Goals as goal

pub returns : goal.returns
unfolding mark_in present
returns c = rw (c.table_in.ensures, c.requires)
