-- `words::pack` meets its contract. Assumes nothing.
use mathlib.Core.Path.{refl}
use Prim.Native.Nat.{◌-◌, ◌^◌}
use native.Mathlib.Omega.{arith}
use Rattle.ring.specs.Table.{present}
use Rattle.words.proofs.Packing.{small_word, small_size, large_size}
use Rattle.words.proofs.Crossing.{crossed_back, word_back, eights}
use Rattle.words.proofs.pack.Goals as goal

pub pack_word-requires : goal.pack_word-requires
pack_word-requires c = (small_size _ c.args.t.now (omega (arith, c.if-n-lt3.true)) c.requires.1.size, c.requires.1.bits)

pub returns-then-n-lt3 : goal.returns-then-n-lt3
returns-then-n-lt3 c = small_word _ _ c.args.t.now c.args.words.now (omega (arith, c.if-n-lt3.true)) c.requires.2 c.pack_word.ensures

pub gather_few-requires : goal.gather_few-requires
gather_few-requires c = let shaped = eights c.args.n (2 ^ (c.args.n - 3)) c.args.t.now refl
    c.if-n-lt3.false c.if-n-lt6.true c.requires.1.size in
    (omega (arith, shaped.0, shaped.1), omega (arith, shaped.1), c.requires.1.bits)

pub returns-then-n-lt6 : goal.returns-then-n-lt6
returns-then-n-lt6 c = small_word _ _ c.args.t.now c.args.words.now c.if-n-lt6.true c.requires.2
    (word_back (present c.args.t.now) _ _ c.gather_few.ensures c.cross.ensures)

pub gather_all-requires : goal.gather_all-requires
gather_all-requires c = (
  large_size _ _ c.args.t.now c.if-n-lt6.false c.requires.1.size c.requires.2,
  c.requires.1.bits,
)

pub returns : goal.returns
returns c = crossed_back _ _ (present c.args.t.now) _ _ c.requires.2
    c.gather_all.ensures c.cross_all.ensures
