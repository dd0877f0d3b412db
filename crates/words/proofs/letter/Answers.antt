-- `words::letter` meets its contract. Assumes nothing.
use Rattle.std.proofs.Common.{rules}
use Rattle.words.proofs.Words.{word_bit}
use Rattle.words.proofs.letter.Goals as goal

pub returns : goal.returns
returns c = search (rules, c.put_each.ensures, word_bit)
