-- The rows of the signs hold, by computation.
-- Assumes nothing.
use mathlib.Core.Path.{refl}
use Rattle.ring.specs.Letters.{bit}
use Rattle.ring.specs.Polynomial.{count, odd, constant, letter, sum, product}
use Rattle.ring.specs.Table.{tabulate, table}
use Rattle.grammar.specs.Symbols.{symbol, symbols, is_unknown, is_given, is_single, is_declared, every, all_declared}
use Rattle.grammar.specs.Meaning.{normal_form}
use Rattle.grammar.specs.Reader.{reads, read_with, and_then, grammar_reads, tree_of}
use Rattle.grammar.specs.Text.{text_table}
use Rattle.grammar.specs.SignRows.{sign_rows, RowHolds, EachRow, end, ◌also◌}

pub sign_rows_hold : EachRow RowHolds sign_rows
unfolding sign_rows all_declared every is_declared is_unknown is_given is_single grammar_reads symbols symbol reads read_with and_then text_table table tabulate normal_form tree_of constant letter sum product odd count bit
sign_rows_hold =
    record { is_read = record { declared = refl; reads = refl }; read_into = refl }
    also record { is_read = record { declared = refl; reads = refl }; read_into = refl }
    also record { is_read = record { declared = refl; reads = refl }; read_into = refl }
    also record { is_read = record { declared = refl; reads = refl }; read_into = refl }
    also record { is_read = record { declared = refl; reads = refl }; read_into = refl }
    also end
