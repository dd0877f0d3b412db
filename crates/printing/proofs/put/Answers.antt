-- All of the part is written. Assumes nothing.
use Rattle.printing.proofs.Parts.{put_part}
use Rattle.printing.proofs.put.Goals as goal

pub returns : goal.returns
returns c = put_part _ _ _ c.copy_from_slice.ensures.after c.requires
