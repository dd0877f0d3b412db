-- The order gets shorter with each call. Assumes nothing.
use Rattle.std.proofs.Common.{length}
use Rattle.elimination.proofs.+answer_word.Given as goal

abbrev pub decreases-answer_word : goal.decreases-answer_word
decreases-answer_word l = length l.order.now
