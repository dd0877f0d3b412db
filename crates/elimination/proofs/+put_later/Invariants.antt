-- The order gets shorter with each call. Assumes nothing.
use Rattle.std.proofs.Common.{length}
use Rattle.elimination.proofs.+put_later.Given as goal

abbrev pub decreases-put_later : goal.decreases-put_later
decreases-put_later l = length l.order.now
