-- `words::multiply_into` meets its contract. Assumes nothing.
use Rattle.std.proofs.Common.{rules}
use Rattle.ring.proofs.Bitwise.{and_bit}
use Rattle.words.proofs.Words.{bit_at_lem}
use Rattle.words.proofs.multiply_into.Goals as goal

pub returns : goal.returns
returns c = search (rules, c.put_each.ensures, and_bit, bit_at_lem)
