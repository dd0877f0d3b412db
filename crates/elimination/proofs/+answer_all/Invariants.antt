-- The order gets shorter with each call. Assumes nothing.
use Rattle.std.proofs.Common.{length}
use Rattle.elimination.proofs.+answer_all.Given as goal

abbrev pub decreases-answer_all : goal.decreases-answer_all
decreases-answer_all l = length l.order.now
