-- The letter's number, then its block. Assumes nothing.
use Rattle.parser.proofs.put_symbol.Goals as goal

pub returns : goal.returns
returns c = rw (← c.letter_of.ensures.0) c.put_letter.ensures
