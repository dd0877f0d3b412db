-- Assumes nothing.
use native.Mathlib.Omega.{arith}
use Rattle.printing.proofs.Lines.{refused_put}
use Rattle.printing.proofs.put_refused.Goals as goal

pub returns : goal.returns
returns c = refused_put _ c.put_refusal-end.ensures.put (omega arith)
