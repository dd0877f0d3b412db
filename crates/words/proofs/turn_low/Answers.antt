-- `words::turn_low` meets its contract. Assumes nothing.
use Rattle.std.proofs.Common.{arith, rules, refl}
use Rattle.words.proofs.Turned.{turn_low_holds}
use Rattle.words.proofs.turn_low.Goals as goal

pub returns : goal.returns
returns c = c.put_each.ensures _ (λ w v i e l m.
    (turn_low_holds c.args.f.now _ _ _ w _ v c.requires.0 c.pow2-width.ensures c.low_letter-mask.ensures (omega (arith, c.type_inv.f w)) refl (search rules)).bits i m)
