-- `words::cross_all` meets its contract. Assumes nothing.
use Rattle.std.proofs.Common.{rules}
use Rattle.words.proofs.Crossing.{cross_holds}
use Rattle.words.proofs.cross_all.Goals as goal

pub returns : goal.returns
returns c = c.put_each.ensures _ (λ w v i e l m. (cross_holds c.args.words.now w v (search rules)).bits i m)
