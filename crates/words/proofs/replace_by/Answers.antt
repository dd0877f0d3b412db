-- `words::replace_by` meets its contract. Assumes nothing.
use Rattle.std.proofs.Common.{◌≡◌, ◌+◌, ◌*◌, ◌^◌, ℕ, arith, rules, length, get_or}
use lib.Bits.{bit_and, bit_xor}
use Rattle.ring.specs.Letters.{bit}
use Rattle.words.specs.Inner.Words.{word_of}
use Rattle.words.proofs.Words.{size_words}
use Rattle.words.proofs.Holds.{words_sized}
use Rattle.words.proofs.Turned.{replace_bits}
use Rattle.words.proofs.replace_by.Goals as goal

pub returns : goal.returns
returns g c = λ h is. let size : length c.turn.new.out ≡ 2 ^ c.args.c = size_words _ _ _ c.turn.ensures in
    words_sized _ _ _ _ (c.put_each.ensures _ (λ w v i e l m.
    let own = get_or c.args.f.now w 0 in
    let made : (y : ℕ) × goal.A-post g c.args.a w y
    × (v ≡ bit_xor own (bit_and (bit_xor (word_of (λ i. bit (64 * w + i) c.args.x)) y) (bit_xor own (get_or c.turn.new.out w 0)))) = search rules in
    replace_bits _ _ w i made.0 v c.args.f.now c.turn.new.out _ c.turn.ensures (omega (arith, size, l)) m made.2 (is w made.0 i made.1 (omega (arith, size, l)) m))) size
