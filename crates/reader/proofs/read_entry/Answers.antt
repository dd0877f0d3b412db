-- Refused before question 4, or by it, or with the tables written. Assumes nothing.
use mathlib.Core.Path.{◌≡◌, ◌∙◌}
use Prim.Native.Nat.{◌≤◌}
use lib.ListN.{length}
use lib.Seq.{length-take-le}
use native.Mathlib.Omega.{arith}
use Rattle.std.proofs.Common.{rules}
use Rattle.std.proofs.lemmas.Result.{err_from_is_err_and}
use Rattle.records.proofs.Facts.{passed_fits}
use Rattle.reader.proofs.Buffers.{read_refused, read_short, survey_passed, size_small, read_done}
use Rattle.reader.proofs.Filling.{table_held}
use Rattle.reader.proofs.read_entry.Goals as goal

pub returns-in_err-survey : goal.returns-in_err-survey
returns-in_err-survey c =
    let no = err_from_is_err_and c.from_residual.result c.from_residual.ensures.1 in
    rw (no.1, no.2) (read_refused _ _ _ _ _ _ c.in_err-survey.ensures.question)

pub returns-in_err-ask_room : goal.returns-in_err-ask_room
returns-in_err-ask_room c =
    let no = err_from_is_err_and c.from_residual-in_err-ask_room.result c.from_residual-in_err-ask_room.ensures.1 in
    rw (no.1, no.2) (read_short _ c.in_ok-survey.ensures _ _ _ _ _ c.in_err-ask_room.ensures)

pub overflow_mul-size : goal.overflow_mul-size
overflow_mul-size c = omega (arith, size_small _ c.in_ok-survey.ensures)

pub fill_fact-requires : goal.fill_fact-requires
fill_fact-requires c = (survey_passed _ c.in_ok-survey.ensures, length-take-le _ _ c.in_ok-ask_room.ensures.fact_room)

pub fill_tables-requires : goal.fill_tables-requires
fill_tables-requires c = (passed_fits _ (survey_passed _ c.in_ok-survey.ensures), length-take-le _ _ c.in_ok-ask_room.ensures.condition_room)

pub returns : goal.returns
returns c =
    let six : length c.in_ok-survey.survey.order ≡ 6 = search rules in
    let fits : c.answer_room-room.result ≤ length c.args.answers.now = omega (arith, c.in_ok-ask_room.ensures.answer_room) in
    let lent = length-take-le c.answer_room-room.result c.args.answers.now fits in
    read_done _ c.in_ok-survey.ensures _ _ _ _ c.in_ok-ask_room.ensures c.answer_room-room.ensures.is c.fill_fact.ensures
    (table_held _ (survey_passed _ c.in_ok-survey.ensures) c.fill_tables.ensures.condition_after) (λ e. c.fill_tables.ensures.answers_after (lent ∙ e)) (c.fill_tables.ensures.answers_len ∙ lent) six
    c.told-order
