-- The first no of those before 22, or of all. Assumes nothing.
use Rattle.std.proofs.lemmas.Result.{err_from_is_err_and}
use Rattle.records.proofs.Answers.{gathered_no, gathered_passed}
use Rattle.records.proofs.ask_entry.Goals as goal

pub returns-in_err-letters : goal.returns-in_err-letters
returns-in_err-letters c =
    let no = err_from_is_err_and c.from_residual.result c.from_residual.ensures.1 in
    rw (no.1, no.2) (gathered_no _ c.requires _ c.in_err-letters.ensures)

pub ask_fact-requires : goal.ask_fact-requires
ask_fact-requires c = gathered_passed _ c.requires c.in_ok-letters.ensures.none_no c.in_ok-letters.ensures.letters_are

pub returns : goal.returns
returns c = (c.in_ok-ask_fact.ensures, gathered_passed _ c.requires c.in_ok-letters.ensures.none_no c.in_ok-letters.ensures.letters_are)
