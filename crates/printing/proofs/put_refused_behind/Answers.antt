-- Assumes nothing.
use mathlib.Core.Path.{◌∙◌}
use native.Mathlib.Omega.{arith}
use lib.ListN.{length-set}
use Rattle.tables.proofs.Put.{put_length}
use Rattle.printing.proofs.Lines.{refused_behind_put}
use Rattle.printing.proofs.put_refused_behind.Goals as goal

pub shape_of-out : goal.shape_of-out
shape_of-out c = simp length-set
    (put_length c.put_number-end.ensures.put
    ∙ put_length c.put_refusal-middle.ensures.put)

pub returns : goal.returns
returns c = refused_behind_put _ _ c.put_refusal-middle.ensures.put
    c.put_number-end.ensures.put (omega arith)
