-- `words::low_values` meets its contract. Assumes nothing.
use Rattle.std.proofs.Common.{rules}
use Rattle.words.proofs.Holds.{word_holds}
use Rattle.words.proofs.Transform.{low_word}
use Rattle.words.proofs.low_values.Goals as goal

pub returns : goal.returns
returns c = c.put_each.ensures _ (λ w v i e l m. (word_holds v _ (low_word c.args.t.now w v (search rules))).bits i m)
