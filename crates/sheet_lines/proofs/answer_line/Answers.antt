-- The entry, or the first no. Assumes nothing.
use mathlib.Core.Path.{◌≡◌, refl, sym, ◌∙◌}
use Rattle.sheet_lines.specs.Sheet.{line_refusal}
use Rattle.tables.proofs.FirstNo.{number_some}
use Rattle.sheet_lines.proofs.Refusals.{answers_refused, answers_done}
use Rattle.sheet_lines.proofs.answer_line.Goals as goal

pub returns-in-Ok : goal.returns-in-Ok
returns-in-Ok c = answers_done _ _ _ _ _ (sym c.in-Ok.ensures.none_no) refl refl c.in-Ok.ensures.put

pub returns-in-Err : goal.returns-in-Err
returns-in-Err c =
    let same : c.number.result ≡ line_refusal c.args.last c.args.line.route c.args.line.unknowns c.args.line.givens c.args.text.now =
    c.number.ensures ∙ c.in-Err.ensures.0 in
    answers_refused _ _ _ _ _ same (λ z. number_some c.in-Err.question (sym c.number.ensures ∙ z))
    (rw (← c.in-Err.ensures.1) c.put_refused-next.ensures)
