-- `shorter::Parts::new` meets its contract: what its yes to each question tells.
-- Assumes nothing.
use mathlib.Core.Path.{refl, sym, ◌∙◌}
use Rattle.tables.proofs.Questions.{held_bits}
use Rattle.shorter.proofs.Calls.{passed}
use Rattle.shorter.proofs.Parts.new.Goals as goal

pub invariant_of-result : goal.invariant_of-result
invariant_of-result c = record {
  boole_bits = held_bits _ _ (sym c.holds_bits.ensures ∙ c.in_ok-require-3.ensures);
  lowenheim_bits = held_bits _ _ (sym c.holds_bits-2.ensures ∙ c.in_ok-require-4.ensures);
}

pub returns : goal.returns
returns c =
    let letters = c.in_ok-letters.ensures in (
      passed _ _ _ _ c.in_ok-letters.letters letters.0 letters.1 letters.2
          (sym c.has_room.ensures ∙ c.in_ok-require.ensures)
          (sym c.has_room-2.ensures ∙ c.in_ok-require-2.ensures)
          (sym c.holds_bits.ensures ∙ c.in_ok-require-3.ensures)
          (sym c.holds_bits-2.ensures ∙ c.in_ok-require-4.ensures),
      refl,
      refl,
    )
