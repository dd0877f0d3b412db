-- `words::put_each` meets its contract. Assumes nothing.
use Rattle.std.proofs.Common.{arith, length}
use Rattle.words.proofs.Holds.{words_each}
use Rattle.words.proofs.put_each.Goals as goal

pub returns : goal.returns
returns g c = λ h gives. let at = c.loop-i.invariant in
    words_each h (length c.args.words.now) c.loop-i.words at.3 (λ w l. at.1 w (omega arith)) (λ w i l m. gives w _ i (at.0 w (omega arith)) l m)
