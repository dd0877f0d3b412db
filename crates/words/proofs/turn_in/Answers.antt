-- `words::turn_in` meets its contract. Assumes nothing.
use Rattle.std.proofs.Common.{rules, refl}
use Rattle.words.proofs.Turned.{turn_low_holds}
use Rattle.words.proofs.turn_in.Goals as goal

pub returns : goal.returns
returns c = c.put_each.ensures _ (λ w v i e l m.
    (turn_low_holds c.args.words.now _ _ _ w _ v c.requires c.pow2-width.ensures c.low_letter-mask.ensures (search rules) refl (search rules)).bits i m)
