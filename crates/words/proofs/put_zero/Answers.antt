-- `words::put_zero` meets its contract. Assumes nothing.
use Rattle.std.proofs.Common.{◌≡◌, ◌<◌, ◌*◌, ◌^◌, ◌%◌, rules, refl, ap, ◌∙◌, get_or}
use lib.Bits.{bit_and, bit_xor}
use Rattle.ring.specs.Letters.{bit}
use Rattle.words.proofs.Turned.{zero_holds}
use Rattle.words.proofs.put_zero.Goals as goal

pub returns : goal.returns
returns c = c.put_each.ensures _ (λ w v i e l m.
    let word = get_or c.args.words.now w 0 in
    let mask = c.low_letter-mask.result in
    let is : v ≡ bit_xor (bit_xor word (bit_and word mask)) (bit_and (word * 2 ^ c.pow2-width.result % 2 ^ 64) mask) = search rules in
    let small : word < 2 ^ 64 = search rules in
    ap (λ x. bit x i) is ∙ (zero_holds c.args.words.now _ _ _ w _ c.requires c.pow2-width.ensures c.low_letter-mask.ensures small refl).bits i m)
