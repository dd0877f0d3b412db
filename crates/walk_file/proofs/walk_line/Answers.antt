-- One way out for each answer of the walk, and one for a volume that is too long. Assumes nothing.
use Rattle.tables.proofs.Put.{put_same}
use Rattle.walk_file.proofs.Walk.{walk_long, walk_count, walk_refused}
use Rattle.walk_file.proofs.walk_line.Goals as goal

pub returns-then-volume-gt-LONGEST_VOLUME : goal.returns-then-volume-gt-LONGEST_VOLUME
returns-then-volume-gt-LONGEST_VOLUME c = put_same c.put_unreadable.ensures (walk_long _ c.if-volume-gt-LONGEST_VOLUME.true)

pub returns-in-Ok : goal.returns-in-Ok
returns-in-Ok c = put_same c.put_count.ensures
    (walk_count _ c.if-volume-gt-LONGEST_VOLUME.false c.walk_volume.ensures c.in-Ok.is)

pub returns-in-Err : goal.returns-in-Err
returns-in-Err c = put_same c.put_refused_behind.ensures
    (rw c.number-number.ensures (walk_refused _ c.if-volume-gt-LONGEST_VOLUME.false c.walk_volume.ensures c.in-Err.is))
