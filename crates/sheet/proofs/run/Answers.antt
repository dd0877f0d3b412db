-- The run goes on from piece to piece, and ends with what the last line prints. Assumes nothing.
use Rattle.std.proofs.Common.{◌≡◌, arith, length-take-le}
use Rattle.tables.proofs.Put.{put_length}
use Rattle.sheet.proofs.Running.{reached_start, reached_more, reached_end}
use Rattle.sheet.proofs.run.Goals as goal

pub loop-next-init : goal.loop-next-init
loop-next-init g c = rw c.new-printer.ensures reached_start

pub loop-next-preserved : goal.loop-next-preserved
loop-next-preserved g c = let step = rw c.in-Some.is at c.in_ok-next.ensures in reached_more c.loop-next.invariant step.1

pub returns : goal.returns
returns g c =
    let same : c.read_piece.new.printer ≡ c.loop-next.printer = rw c.in_default.is at c.in_ok-next.ensures in
    let done = c.finish-n.ensures in
    reached_end {after = c.loop-next.progress} {c = c.read_piece.new.printer} (rw same c.loop-next.invariant) (omega (
      arith,
      c.in_ok-written.ensures,
      done.place,
      length-take-le c.finish-n.result c.finish-n.new.out (omega (arith, done.inside, put_length done)),
    ))
