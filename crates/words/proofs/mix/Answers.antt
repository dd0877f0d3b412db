-- `words::mix` meets its contract. Assumes nothing.
use Rattle.std.proofs.Common.{rules}
use Rattle.ring.proofs.Bitwise.{and_bit, xor_bit}
use Rattle.words.proofs.Words.{word_bit, bit_at_lem}
use Rattle.words.proofs.mix.Goals as goal

pub returns : goal.returns
returns c = search (rules, c.put_each.ensures, and_bit, xor_bit, word_bit, bit_at_lem)
