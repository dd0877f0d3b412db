-- Bytes copied to their place. Assumes nothing.
use native.Mathlib.Omega.{arith}
use Rattle.writer.proofs.Parts.{put_part}
use Rattle.writer.proofs.put.Goals as goal

pub returns : goal.returns
returns g c = put_part _ _ _ _ c.copy_from_slice.ensures.after (omega arith) c.requires
