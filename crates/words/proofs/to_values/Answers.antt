-- `words::to_values` meets its contract. Assumes nothing.
use Rattle.std.proofs.Common.{rules}
use Rattle.words.proofs.Transform.{one_word_values}
use Rattle.words.proofs.Turned.{machine_words}
use Rattle.words.proofs.to_values.Goals as goal

pub returns-then-c-eq0 : goal.returns-then-c-eq0
returns-then-c-eq0 c = one_word_values _ c.args.t.now _ c.if-c-eq0.true c.requires.1 (machine_words _ _ c.requires.1 (λ i. search rules)) c.word_values.ensures
