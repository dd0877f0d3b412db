-- `words::unpack` meets its contract. Assumes nothing.
use mathlib.Core.Path.{◌≡◌, refl, ap, ◌∙◌}
use Prim.Native.Nat.{ℕ, ◌-◌, ◌^◌}
use native.Mathlib.Omega.{arith}
use lib.ListN.{length}
use Rattle.ring.specs.Table.{tabulate, table}
use Rattle.words.specs.Inner.Words.{bit_at}
use Rattle.words.proofs.Words.{size_words}
use Rattle.words.proofs.Letters.{room}
use Rattle.words.proofs.Packing.{large_size}
use Rattle.words.proofs.Crossing.{large_bytes, small_bytes, eights}
use Rattle.words.proofs.unpack.Goals as goal

pub unpack_each-requires : goal.unpack_each-requires
unpack_each-requires c = omega (arith, room c.args.n, c.requires.1, c.requires.2)

pub returns-then-n-lt3 : goal.returns-then-n-lt3
unfolding table
returns-then-n-lt3 c = c.unpack_each.ensures ∙ ap (λ (x : ℕ). tabulate x (bit_at c.args.words.now)) c.requires.2

pub unpack_word-requires : goal.unpack_word-requires
unpack_word-requires c =
    let shaped = eights c.args.n (2 ^ (c.args.n - 3)) c.args.out.now refl c.if-n-lt3.false c.if-n-lt6.true c.requires.2 in
    (omega (arith, shaped.0, shaped.1), omega (arith, shaped.1))

pub returns-then-n-lt6 : goal.returns-then-n-lt6
returns-then-n-lt6 c =
    small_bytes c.args.n _ c.args.words.now _ c.args.out.now _ c.if-n-lt6.true
    c.requires.1 c.requires.2 c.cross_all.ensures refl c.unpack_word.ensures

pub unpack_all-requires : goal.unpack_all-requires
unpack_all-requires c = let crossed-size : length c.cross_all.new.words ≡ 2 ^ (c.args.n - 6) = size_words _ _ _ c.cross_all.ensures ∙ c.requires.1 in
    large_size c.args.n _ c.args.out.now c.if-n-lt6.false c.requires.2 (crossed-size)

pub returns : goal.returns
returns c = large_bytes c.args.n c.args.words.now _ c.args.out.now _ c.requires.1 c.requires.2
    c.cross_all.ensures c.unpack_all.ensures.0
