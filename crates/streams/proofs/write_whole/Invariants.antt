-- The measure is what is left to write. Assumes nothing.
use Rattle.std.proofs.Common.{length}
use Rattle.streams.proofs.write_whole.Given as goal

abbrev pub decreases-loop-rest : goal.decreases-loop-rest
decreases-loop-rest g l = length l.rest
