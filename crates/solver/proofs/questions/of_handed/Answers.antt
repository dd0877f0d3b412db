-- `solver::questions::of_handed` meets its contract: what its yes to each question tells.
-- Assumes nothing.
use mathlib.Core.Path.{sym, ◌∙◌}
use Rattle.solver.proofs.Handed.{passed_handed}
use Rattle.solver.proofs.questions.of_handed.Goals as goal

pub returns : goal.returns
returns c =
    let letters = c.in_ok-letters.ensures in
    passed_handed _ _ _ _ _ _ _ (record { unknowns = letters.0; givens = letters.1 }) letters.2
    (sym c.has_room.ensures ∙ c.in_ok-require.ensures)
    (sym c.has_room-2.ensures ∙ c.in_ok-require-2.ensures)
    (sym c.has_room-3.ensures ∙ c.in_ok-require-3.ensures)
    (sym c.has_room-4.ensures ∙ c.in_ok-require-4.ensures)
    (sym c.holds_bits.ensures ∙ c.in_ok-require-5.ensures)
    (sym c.holds_bits-2.ensures ∙ c.in_ok-require-6.ensures)
    (sym c.holds_bits-3.ensures ∙ c.in_ok-require-7.ensures)
