-- `words::flip_high` meets its contract. Assumes nothing.
use Rattle.std.proofs.Common.{◌≡◌, ◌<◌, ◌^◌, arith, rules, ap, ◌∙◌, get_or}
use lib.Bits.{bit_xor}
use Rattle.ring.specs.Letters.{bit}
use Rattle.words.proofs.Holds.{words_sized}
use Rattle.words.proofs.Flipped.{flip_room, flip_high_holds}
use Rattle.words.proofs.flip_high.Goals as goal

pub put_each-requires : goal.put_each-requires
put_each-requires c = λ w l.
    let room : bit_xor w c.args.high < 2 ^ c.args.c = flip_room _ _ _ _ c.requires.0 l c.requires.2 in search rules

pub returns : goal.returns
returns c = words_sized _ _ _ _ (c.put_each.ensures _ (λ w v i e l m.
    let room : bit_xor w c.args.high < 2 ^ c.args.c = flip_room _ _ _ _ c.requires.0 l c.requires.2 in
    let is : v ≡ get_or c.args.f.now (bit_xor w c.args.high) 0 = search rules in
    ap (λ x. bit x i) is ∙ (flip_high_holds c.args.f.now _ _ _ room (omega (arith, c.type_inv.f (bit_xor w c.args.high)))).bits i m)) c.requires.2
