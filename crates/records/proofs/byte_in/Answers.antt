-- No monomial is of a table before the kind's first. Assumes nothing.
use native.Mathlib.Omega.{arith}
use Rattle.records.proofs.OneRecord.{table_least}
use Rattle.records.proofs.byte_in.Goals as goal

pub overflow_sub-result : goal.overflow_sub-result
overflow_sub-result c = omega (arith, c.monomial_in-monomial.ensures.is.0, c.first_table.ensures, table_least _ c.requires.0)
