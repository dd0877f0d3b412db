-- Assumes nothing.
use native.Mathlib.Omega.{arith}
use Rattle.printing.proofs.Lines.{count_put}
use Rattle.printing.proofs.put_count.Goals as goal

pub returns : goal.returns
returns c = count_put _ c.put_decimal-end.ensures.put (omega arith)
