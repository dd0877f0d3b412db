-- `polynomials::add` meets its contract: one block, or as many as the table has.
-- Assumes nothing.
use mathlib.Core.Path.{refl, sym, ◌∙◌}
use Prim.Native.Nat.{◌-◌, ◌^◌}
use native.Mathlib.Omega.{arith}
use Rattle.polynomials.proofs.Sums.{sum_made, whole_blocks}
use Rattle.polynomials.proofs.add.Goals as goal

pub returns-then-n-lt7 : goal.returns-then-n-lt7
returns-then-n-lt7 c = sum_made c.args.n _ _ c.args.a.now c.args.b.now _ c.requires.3 c.add_few.ensures.0
    c.add_few.ensures.1

pub add_blocks-requires : goal.add_blocks-requires
add_blocks-requires c =
    let whole = whole_blocks c.args.n (2 ^ (c.args.n - 7)) refl c.if-n-lt7.false c.requires.0 in (
      omega (arith, whole.0, whole.1, c.requires.3),
      omega (arith, whole.0, c.requires.3),
      c.requires.1.size ∙ sym c.requires.3,
      c.requires.2.size ∙ sym c.requires.3,
      c.requires.1.bits,
      c.requires.2.bits,
    )

pub returns : goal.returns
returns c = sum_made c.args.n _ _ c.args.a.now c.args.b.now _ c.requires.3 c.add_blocks.ensures.0 c.add_blocks.ensures.1
