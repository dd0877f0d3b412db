-- The condition's words, and the values of what is solved. Assumes nothing.
use mathlib.Core.Path.{sym, ◌∙◌}
use Rattle.words.proofs.Words.{size_words}
use Rattle.writer.proofs.Entries.{table_listable, table_lists}
use Rattle.writer.proofs.list_table.Goals as goal

pub multiply_into-requires : goal.multiply_into-requires
multiply_into-requires c = size_words _ _ _ c.transform.ensures ∙ sym (size_words _ _ _ c.requires.tables.2.are)

pub list_entry-requires : goal.list_entry-requires
list_entry-requires c = (
  table_listable c.args.ordered _ _ c.requires.tables.1 c.pack.ensures c.requires.tables.0 c.transform.ensures c.multiply_into.ensures c.requires.tables.2
      c.requires.rooms.2,
  c.requires.rooms.3,
)

pub returns : goal.returns
returns c = table_lists c.args.ordered _ _ c.requires.tables.1 c.pack.ensures c.transform.ensures c.multiply_into.ensures c.list_entry.ensures
