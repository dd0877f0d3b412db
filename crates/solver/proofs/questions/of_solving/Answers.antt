-- `solver::questions::of_solving` meets its contract: what its yes to each question tells.
-- Assumes nothing.
use mathlib.Core.Path.{sym, ap, ◌∙◌}
use Rattle.tables.specs.declared.Letters.{Letters}
use Rattle.solver.proofs.Calls.{passed_solving}
use Rattle.solver.proofs.questions.of_solving.Goals as goal

pub returns : goal.returns
returns c =
    let letters = c.in_ok-new.ensures in
    let ordered = c.in_ok-ordered.ensures in
    let unknowns = ap (λ (l : Letters). l.unknowns) ordered.0 ∙ letters.0 in
    let givens = ap (λ (l : Letters). l.givens) ordered.0 ∙ letters.1 in
    passed_solving _ _ _ _ _ _ _ (record { unknowns = unknowns; givens = givens }) ordered.1 letters.2
    (sym c.has_room.ensures ∙ c.in_ok-require.ensures)
    (sym c.has_room-2.ensures ∙ c.in_ok-require-2.ensures)
    (sym c.has_room-3.ensures ∙ c.in_ok-require-3.ensures)
    (sym c.holds_bits.ensures ∙ c.in_ok-require-4.ensures)
    (sym c.holds_bits-2.ensures ∙ c.in_ok-require-5.ensures)
