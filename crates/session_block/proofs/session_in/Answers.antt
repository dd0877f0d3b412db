-- `session_block::session_in` meets its contract.
-- Assumes nothing.
use borrow.Author.Rules.{rules}
use Rattle.session_block.proofs.Block.{session_taken}
use Rattle.session_block.proofs.session_in.Goals as goal

pub returns : goal.returns
returns c = (
  session_taken _ _ _ _ _ _ _ _ c.from.ensures c.from-2.ensures c.table_in-table.ensures c.mark_in-a.ensures c.mark_in-b.ensures
      c.mark_in-c.ensures c.mark_in-d.ensures,
  record { unknowns = search rules; givens = search rules },
)
