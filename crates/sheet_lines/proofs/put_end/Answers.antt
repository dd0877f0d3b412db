-- The line of one record. Assumes nothing.
use Rattle.sheet_lines.proofs.Entries.{end_line}
use Rattle.sheet_lines.proofs.put_end.Goals as goal

pub returns : goal.returns
returns c = search end_line
