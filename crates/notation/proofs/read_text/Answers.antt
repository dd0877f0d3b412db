-- `notation::read_text` meets its contract: the call asks its early questions, and then reads into exactly the bytes that are needed, which
-- answers the late ones.
-- Assumes nothing.
use mathlib.Core.Path.{sym, ◌∙◌}
use lib.Seq.{length-take-le}
use Rattle.std.proofs.lemmas.Result.{err_from_is_err_and}
use Rattle.tables.proofs.Answered.{call_no}
use Rattle.words.proofs.Letters.{count_small}
use Rattle.notation.proofs.Refusal.{text_plain, first_early, ends_refused, ends_done}
use Rattle.notation.proofs.read_text.Goals as goal

pub returns-in_err-letters : goal.returns-in_err-letters
returns-in_err-letters c =
    let no = err_from_is_err_and c.from_residual.result c.from_residual.ensures.1 in
    rw (no.1, no.2) (call_no _ _ _ _ (text_plain _ _ _ _) (first_early _ _ _ _ _ c.in_err-letters.ensures))

pub slice_bounds-words-end : goal.slice_bounds-words-end
slice_bounds-words-end c = count_small _ _ c.word_count-k.ensures c.in_ok-letters.letters.n_fits

pub slice_bounds-read_table-end : goal.slice_bounds-read_table-end
slice_bounds-read_table-end c = sym (length-take-le _ _ (count_small _ _ c.word_count-k.ensures c.in_ok-letters.letters.n_fits))

pub read_table-requires : goal.read_table-requires
read_table-requires c =
    let passed = c.in_ok-letters.ensures in
    let letters = c.in_ok-letters.letters in (
      passed.short,
      length-take-le _ _ (count_small _ _ c.word_count-k.ensures letters.n_fits) ∙ c.word_count-k.ensures,
      length-take-le _ _ passed.room_fits ∙ letters.table_len_is,
    )

pub returns-in_err-read_table : goal.returns-in_err-read_table
returns-in_err-read_table c =
    let no = err_from_is_err_and c.from_residual-in_err-read_table.result c.from_residual-in_err-read_table.ensures.1 in
    rw (no.1, no.2)
    (ends_refused _ _ _ _ _ _ c.in_ok-letters.ensures.letters c.in_ok-letters.ensures.none_no c.in_err-read_table.ensures.table_after _
    c.in_err-read_table.ensures.value)

pub returns : goal.returns
returns c =
    ends_done _ _ _ _ _ _ c.in_ok-letters.ensures.letters c.in_ok-letters.ensures.none_no c.in_ok-read_table.ensures.value
    c.in_ok-read_table.ensures.table_after
