-- `words::add_letter` meets its contract. Assumes nothing.
use Rattle.std.proofs.Common.{rules}
use Rattle.ring.proofs.Bitwise.{xor_bit}
use Rattle.words.proofs.Words.{word_bit, bit_at_lem}
use Rattle.words.proofs.add_letter.Goals as goal

pub returns : goal.returns
returns c = search (rules, c.put_each.ensures, xor_bit, word_bit, bit_at_lem)
