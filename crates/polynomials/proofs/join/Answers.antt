-- `polynomials::join` meets its contract: the product, and both added to it.
-- Assumes nothing.
use mathlib.Core.Path.{sym, ◌∙◌}
use Rattle.polynomials.proofs.Work.{made_table, added-table, join_done}
use Rattle.polynomials.proofs.join.Goals as goal

pub add_into-requires : goal.add_into-requires
add_into-requires c = let made = made_table _ _ _ c.multiply.ensures.0 in
    (made.size ∙ sym c.requires.1.size, made.bits, c.requires.1.bits)

pub add_into-requires-2 : goal.add_into-requires-2
add_into-requires-2 c =
    let more = added-table _ _ _ _ (made_table _ _ _ c.multiply.ensures.0) c.add_into.ensures in
    (more.size ∙ sym c.requires.2.size, more.bits, c.requires.2.bits)

pub returns : goal.returns
returns c =
    join_done _ _ _ _ _ _ c.multiply.ensures.0 c.add_into.ensures c.add_into-2.ensures
