-- `operations::questions::of_derivative` meets its contract: what its yes to each question tells.
-- Assumes nothing.
use mathlib.Core.Path.{sym, ◌∙◌}
use Rattle.operations.proofs.Calls.{passed_derivative}
use Rattle.operations.proofs.questions.of_derivative.Goals as goal

pub returns : goal.returns
returns c =
    let letters = c.in_ok-letters.ensures in
    passed_derivative _ _ _ (record { unknowns = letters.0; givens = letters.1 }) letters.2 _ _ _
    (sym c.has_room.ensures ∙ c.in_ok-require.ensures)
    (sym c.has_room-2.ensures ∙ c.in_ok-require-2.ensures)
    (sym c.holds_bits.ensures ∙ c.in_ok-require-3.ensures)
    c.in_ok-require-4.ensures
