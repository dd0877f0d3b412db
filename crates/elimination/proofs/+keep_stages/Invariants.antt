-- The order gets shorter with each call. Assumes nothing.
use Rattle.std.proofs.Common.{length}
use Rattle.elimination.proofs.+keep_stages.Given as goal

abbrev pub decreases-keep_stages : goal.decreases-keep_stages
decreases-keep_stages l = length l.order.now
