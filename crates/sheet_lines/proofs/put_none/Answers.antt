-- Two lines. Assumes nothing.
use borrow.Author.Rules.{rules}
use Rattle.sheet_lines.proofs.Entries.{none_room, none_put}
use Rattle.sheet_lines.proofs.put_none.Goals as goal

pub put_end-requires : goal.put_end-requires
put_end-requires c = (search rules, search none_room)

pub returns : goal.returns
returns c = search none_put
