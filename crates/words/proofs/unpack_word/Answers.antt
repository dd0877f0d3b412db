-- `words::unpack_word` meets its contract. Assumes nothing.
use mathlib.Core.Path.{refl}
use Prim.Native.Nat.{◌<◌}
use native.Mathlib.Omega.{arith}
use borrow.Author.Rules.{rules}
use Rattle.ring.specs.Letters.{bit}
use Rattle.tables.proofs.Filled.{filled-start, filled_whole}
use Rattle.words.specs.Inner.Words.{crossed}
use Rattle.words.proofs.Parts.{parts_more, part_length_lem}
use Rattle.words.proofs.Crossing.{row_listed}
use Rattle.words.proofs.unpack_word.Goals as goal

pub loop-j-init : goal.loop-j-init
loop-j-init c = (omega arith, filled-start _ _ _ refl, refl)

pub put_eight-requires : goal.put_eight-requires
put_eight-requires c = part_length_lem c.loop-j.j 8 c.loop-j.out
    (omega (arith, c.requires.1, c.loop-j-test.true, c.loop-j.invariant.2))

pub loop-j-preserved : goal.loop-j-preserved
loop-j-preserved c = let few : c.loop-j.j < 8 = omega (arith, c.requires.0, c.loop-j-test.true) in (
  omega (arith, c.requires.1, c.loop-j-test.true),
  parts_more c.loop-j.j 8 _ _ _ _ c.loop-j.invariant.1
      (row_listed c.args.word c.loop-j.j _ few c.put_eight.ensures),
  search rules,
)

pub returns : goal.returns
returns c = filled_whole (λ p. bit c.args.word (crossed p)) _ _ _ c.loop-j.invariant.1 (omega (arith, c.requires.1, c.loop-j.invariant.0, c.loop-j-test.false))
    (omega (arith, c.requires.1, c.loop-j.invariant.0, c.loop-j-test.false))
