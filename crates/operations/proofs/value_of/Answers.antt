-- `operations::value_of` meets its contract: few masks by one loop, more in blocks.
-- Assumes nothing.
use mathlib.Core.Path.{refl}
use native.Mathlib.Omega.{arith}
use lib.Bits.{and_le_r}
use Rattle.ring.specs.Table.{present}
use Rattle.operations.proofs.Work.{parity_end, parity_few, few_masks, whole_blocks}
use Rattle.operations.proofs.value_of.Goals as goal

pub overflow_cast-p : goal.overflow_cast-p
overflow_cast-p c = omega (arith, and_le_r c.args.p 63)

pub odd_below-requires : goal.odd_below-requires
odd_below-requires c = few_masks c.args.n c.args.t.now c.if-n-lt6.true c.requires

pub returns-then-n-lt6 : goal.returns-then-n-lt6
returns-then-n-lt6 c = parity_few c.args.n _ (present c.args.t.now) c.args.p _ _ _ c.if-n-lt6.true c.requires refl
    c.odd_below.ensures c.from.ensures

pub odd_in_blocks-requires : goal.odd_in_blocks-requires
odd_in_blocks-requires c = whole_blocks c.args.n c.args.t.now c.if-n-lt6.false c.requires

pub returns : goal.returns
returns c = parity_end c.args.n _ (present c.args.t.now) c.args.p _ _ c.requires c.odd_in_blocks.ensures
    c.from-2.ensures
