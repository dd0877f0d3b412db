-- The first masks of the buffer are those of the written order. Assumes nothing.
use mathlib.Core.Path.{refl}
use borrow.Author.Rules.{rules}
use Rattle.writer.proofs.Parts.{ordered, order-length}
use Rattle.writer.proofs.list_condition.Goals as goal

pub list_table-requires-clause-rooms : goal.list_table-requires-clause-rooms
list_table-requires-clause-rooms c =
    (search rules, search rules, ordered _ _ c.args.ordered.letters.table_len_is c.fill_order.ensures, c.requires.rooms.1)

pub returns : goal.returns
returns c = record {
  by_index = c.list_table.ensures;
  masks_after = (ordered _ _ refl c.fill_order.ensures, order-length _ _ c.fill_order.ensures c.requires.rooms.0);
}
