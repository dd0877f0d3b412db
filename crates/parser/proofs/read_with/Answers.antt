-- A sum that ends where the symbols end is the whole, and its block is copied. Assumes nothing.
use mathlib.Core.Path.{refl, sym, ◌∙◌}
use Rattle.parser.proofs.WholeText.{whole_found, whole_unfound}
use Rattle.parser.proofs.read_with.Goals as goal

pub returns-then-whole : goal.returns-then-whole
returns-then-whole c =
    let all = whole_found c.args.u c.args.s.now c.args.words.now _ _ _ _ c.sum.ensures refl (sym c.eq-whole.ensures ∙ c.if-whole.true) _ c.copy.ensures in
    record { value = c.if-whole.true ∙ all.0; words_after = all.1 }

pub returns-else-whole : goal.returns-else-whole
returns-else-whole c =
    let none = whole_unfound c.args.u c.args.s.now c.args.words.now _ _ _ _ c.sum.ensures (sym c.eq-whole.ensures ∙ c.if-whole.false) in
    record { value = c.if-whole.false ∙ none.0; words_after = none.1 }
