-- `words::pass` meets its contract. Assumes nothing.
use Rattle.std.proofs.Common.{arith, rules}
use Rattle.words.proofs.Words.{size_words}
use Rattle.words.proofs.Transform.{stages_start, stages_next, stages_end}
use Rattle.words.proofs.Turned.{machine_words}
use Rattle.words.proofs.pass.Goals as goal

pub loop-j-init : goal.loop-j-init
loop-j-init c = stages_start _ _ (machine_words _ _ c.requires.1 (λ i. search rules))

pub loop-j-preserved : goal.loop-j-preserved
loop-j-preserved c = stages_next _ _ _ _ _ c.loop-j-test.true c.loop-j.auto.j c.loop-j.invariant c.step_words.ensures

pub returns : goal.returns
returns c = stages_end _ _ _ _ _ _ (omega arith) (size_words _ _ _ c.loop-j.invariant) c.loop-j.invariant c.low_values.ensures
