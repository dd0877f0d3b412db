-- `session_block::put_session` meets its contract: one part behind another.
-- Assumes nothing.
use borrow.Author.Rules.{rules}
use Rattle.session_block.proofs.Block.{session_put}
use Rattle.session_block.proofs.put_session.Goals as goal

pub returns : goal.returns
returns c = session_put c.args.s.now c.args.block.now _ _ (search rules) (search rules) c.copy_from_slice.ensures.after c.put_marks.ensures
