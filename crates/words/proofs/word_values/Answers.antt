-- `words::word_values` meets its contract. Assumes nothing.
use Rattle.std.proofs.Common.{arith}
use Rattle.words.proofs.Words.{word_lt}
use Rattle.words.proofs.Transform.{word_step, word_last}
use Rattle.words.proofs.word_values.Goals as goal

pub loop-j-preserved : goal.loop-j-preserved
loop-j-preserved c =
    (rw c.step_word-v.ensures (word_lt _), word_step _ _ _ _ c.loop-j-test.true c.step_word-v.ensures c.loop-j.invariant.1)

pub returns : goal.returns
returns c = word_last _ _ _ (omega arith) c.loop-j.invariant.0 c.loop-j.invariant.1
