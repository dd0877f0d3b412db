-- The invariant: this far the run has come behind some input. The measure is what can still be read before the count of bytes is full.
-- Assumes nothing.
use Rattle.std.proofs.Common.{◌-◌, ◌^◌}
use Rattle.sheet.proofs.Running.{Reached}
use Rattle.sheet.proofs.run.Given as goal

abbrev pub invariant-loop-next : goal.invariant-loop-next
invariant-loop-next g l = Reached l.progress l.printer

abbrev pub decreases-loop-next : goal.decreases-loop-next
decreases-loop-next g l = 2 ^ 64 - l.progress.read
