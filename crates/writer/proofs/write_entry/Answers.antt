-- The call asks the questions on the tables, and lends them on with room for the values of 1 + g. Assumes nothing.
use Rattle.std.proofs.lemmas.Result.{err_from_is_err_and}
use Rattle.writer.proofs.Asked.{write_refused, write_done}
use Rattle.writer.proofs.write_entry.Goals as goal

pub returns-in_err-ordered : goal.returns-in_err-ordered
returns-in_err-ordered c =
    let no = err_from_is_err_and c.from_residual.result c.from_residual.ensures.1 in
    rw (no.1, no.2) (write_refused _ _ _ _ _ _ _ _ c.in_err-ordered.ensures)

pub returns : goal.returns
returns c = write_done _ _ _ _ _ _ _ c.in_ok-ordered.ensures _ c.write_tables.ensures
