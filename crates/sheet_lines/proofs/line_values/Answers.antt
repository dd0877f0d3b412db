-- Question 2, then those of the text by way of reading it, then 15. Assumes nothing.
use mathlib.Core.Path.{sym, ◌∙◌}
use Rattle.std.proofs.lemmas.Result.{err_from_is_err_and}
use Rattle.sheet_lines.proofs.Refusals.{refused_route, refused_text, refused_rising, passes}
use Rattle.sheet_lines.proofs.line_values.Goals as goal

pub returns-in_err-require-clause-value : goal.returns-in_err-require-clause-value
returns-in_err-require-clause-value c =
    let no = err_from_is_err_and c.from_residual.result c.from_residual.ensures.1 in
    rw (no.1, no.2, c.in_err-require.ensures.0)
    (refused_route _ _ _ _ _ c.requires.0 (sym c.route_fits.ensures ∙ c.in_err-require.ensures.1))

pub returns-in_err-text_values-clause-value : goal.returns-in_err-text_values-clause-value
returns-in_err-text_values-clause-value c =
    let no = err_from_is_err_and c.from_residual-in_err-text_values.result c.from_residual-in_err-text_values.ensures.1 in
    rw (no.1, no.2)
    (refused_text _ _ _ _ _ c.requires.0 (sym c.route_fits.ensures ∙ c.in_ok-require.ensures) _ c.in_err-text_values.ensures.value)

pub returns-in_err-require-2-clause-value : goal.returns-in_err-require-2-clause-value
returns-in_err-require-2-clause-value c =
    let no = err_from_is_err_and c.from_residual-in_err-require-2.result c.from_residual-in_err-require-2.ensures.1 in
    rw (no.1, no.2, c.in_err-require-2.ensures.0)
    (refused_rising _ _ _ _ _ c.requires.0 (sym c.route_fits.ensures ∙ c.in_ok-require.ensures) c.in_ok-text_values.ensures.value
    c.in_err-require-2.ensures.1)

pub returns-clause-value : goal.returns-clause-value
returns-clause-value c =
    passes _ _ _ _ _ c.requires.0 (sym c.route_fits.ensures ∙ c.in_ok-require.ensures) c.in_ok-text_values.ensures.value
    c.in_ok-require-2.ensures
