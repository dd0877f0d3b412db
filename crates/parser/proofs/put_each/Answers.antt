-- `parser::put_each` meets its contract. Assumes nothing.
use native.Mathlib.Omega.{arith}
use lib.Seq.{get_or-take, length-take-le}
use Rattle.parser.proofs.Blocks.{made_front}
use Rattle.parser.proofs.put_each.Goals as goal

pub returns : goal.returns
returns g c = λ h gives. let at = c.loop-i.invariant in
    let size = length-take-le c.args.k c.args.stack.now c.requires.room in
    made_front c.args.k c.args.stack.now c.loop-i.words h c.requires.room at.2
    (λ i l. gives i _ l (rw (get_or-take c.args.k c.args.stack.now i 0 l) at (at.0 i (omega arith))))
