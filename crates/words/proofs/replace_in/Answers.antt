-- `words::replace_in` meets its contract. Assumes nothing.
use Rattle.std.proofs.Common.{◌∙◌, ◌≤◌, ◌^◌, sym, arith}
use lib.Pow.{pow_mono}
use lib.Seq.{length-take-le}
use Rattle.words.proofs.replace_in.Goals as goal

pub slice_bounds-room-end : goal.slice_bounds-room-end
slice_bounds-room-end c = let b : 2 ^ c.args.c ≤ 2 ^ 4 = pow_mono c.requires.1 in omega (arith, c.pow2-k.ensures)

pub slice_bounds-old-end : goal.slice_bounds-old-end
slice_bounds-old-end c = let b : 2 ^ c.args.c ≤ 2 ^ 4 = pow_mono c.requires.1 in sym (length-take-le _ _ (omega (arith, c.pow2-k.ensures)))

pub copy-requires : goal.copy-requires
copy-requires c = let b : 2 ^ c.args.c ≤ 2 ^ 4 = pow_mono c.requires.1 in
    length-take-le _ _ (omega (arith, c.pow2-k.ensures)) ∙ c.pow2-k.ensures ∙ sym c.requires.2
