-- Assumes nothing.
use mathlib.Core.Path.{◌∙◌}
use native.Mathlib.Omega.{arith}
use lib.ListN.{length-set}
use Rattle.tables.proofs.Put.{put_before, put_length}
use Rattle.printing.proofs.put_number.Goals as goal

pub put_decimal-requires : goal.put_decimal-requires
put_decimal-requires c = simp length-set (omega arith)

pub shape_of-out : goal.shape_of-out
shape_of-out c = put_length c.put_decimal.ensures.put ∙ simp length-set

pub returns : goal.returns
returns c = record { put = put_before 32 c.put_decimal.ensures.put; upper_bound = omega arith }
