-- `words::gather` meets its contract. Assumes nothing.
use Rattle.ring.specs.Table.{present}
use Rattle.words.proofs.Crossing.{rows_word}
use Rattle.words.proofs.gather.Goals as goal

pub returns : goal.returns
returns c = rows_word (present c.args.t.now) _ _ _ _ _ _ _ _
    c.eight.ensures.0
    c.eight-2.ensures.0
    c.eight-3.ensures.0 c.eight-4.ensures.0
    c.eight-5.ensures.0
    c.eight-6.ensures.0 c.eight-7.ensures.0 c.eight-8.ensures.0
