-- `notation::early_questions` meets its contract: what its yes to each question tells.
-- Assumes nothing.
use mathlib.Core.Path.{sym, ◌∙◌}
use Rattle.notation.proofs.Refusal.{early_yes}
use Rattle.notation.proofs.early_questions.Goals as goal

pub returns : goal.returns
returns c =
    early_yes _ _ _ _ _ (record { unknowns = c.in_ok-letters.ensures.0; givens = c.in_ok-letters.ensures.1 }) c.in_ok-letters.ensures.2
    (sym c.has_text_length.ensures ∙ c.in_ok-require.ensures) (sym c.has_room.ensures ∙ c.in_ok-require-2.ensures)
