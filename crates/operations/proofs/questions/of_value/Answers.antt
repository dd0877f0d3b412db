-- `operations::questions::of_value` meets its contract: what its yes to each question tells.
-- Assumes nothing.
use mathlib.Core.Path.{sym, ◌∙◌}
use Rattle.operations.proofs.Calls.{passed_value}
use Rattle.operations.proofs.questions.of_value.Goals as goal

pub returns : goal.returns
returns c =
    let letters = c.in_ok-letters.ensures in
    passed_value _ _ _ (record { unknowns = letters.0; givens = letters.1 }) letters.2 _ _ _
    (sym c.has_room.ensures ∙ c.in_ok-require.ensures)
    (sym c.holds_bits.ensures ∙ c.in_ok-require-2.ensures)
    (sym (rw (letters.0, letters.1) at c.in_range.ensures) ∙ c.in_ok-require-3.ensures)
