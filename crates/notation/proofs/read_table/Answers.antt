-- `notation::read_table` meets its contract: the words of the text, then back to coefficients.
-- Assumes nothing.
use Rattle.notation.proofs.Values.{table_text}
use Rattle.notation.proofs.read_table.Goals as goal

pub returns-clause-table_after : goal.returns-clause-table_after
returns-clause-table_after c =
    table_text _ _ _ _ _ c.in_ok-symbol_values.ensures.words_after (rw (← c.args.letters.n_is) c.put_table.ensures)
