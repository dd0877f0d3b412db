-- `words::both_cases` meets its contract. Assumes nothing.
use Rattle.words.proofs.Words.{size_words}
use Rattle.words.proofs.Holds.{words_sized}
use Rattle.words.proofs.Turned.{both_done}
use Rattle.words.proofs.both_cases.Goals as goal

pub returns : goal.returns
returns c = both_done _ _ c.args.f.now _ _
    c.turn.ensures
    (words_sized _ _ _ _ c.multiply_into.ensures
    (size_words _ _ _ c.turn.ensures))
