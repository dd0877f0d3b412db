-- `notation::text_values` meets its contract: question 3, then those of the symbols.
-- Assumes nothing.
use mathlib.Core.Path.{sym, ◌∙◌}
use Rattle.std.proofs.lemmas.Result.{err_from_is_err_and}
use Rattle.notation.proofs.Refusal.{text_short, values_length, values-symbols}
use Rattle.notation.proofs.text_values.Goals as goal

pub returns-in_err-require-clause-value : goal.returns-in_err-require-clause-value
returns-in_err-require-clause-value c =
    let no = err_from_is_err_and c.from_residual.result c.from_residual.ensures.1 in
    rw (no.1, no.2, c.in_err-require.ensures.0) (values_length _ _ _ (sym c.has_text_length.ensures ∙ c.in_err-require.ensures.1))

pub symbol_values-requires : goal.symbol_values-requires
symbol_values-requires c = (text_short _ (sym c.has_text_length.ensures ∙ c.in_ok-require.ensures), c.requires)

pub returns-clause-value : goal.returns-clause-value
returns-clause-value c =
    rw (values-symbols c.args.letters.unknowns c.args.letters.givens _ (sym c.has_text_length.ensures ∙ c.in_ok-require.ensures))
    c.symbol_values.ensures.value
