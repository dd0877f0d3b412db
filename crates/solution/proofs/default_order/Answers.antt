-- `solution::default_order` meets its contract. Assumes nothing.
use borrow.Author.Rules.{rules}
use borrow.Author.Tests.{tests}
use mathlib.Core.Bool.{cond}
use mathlib.Core.Path.{◌∙◌}
use lib.Dec.{ltb}
use Rattle.ring.proofs.Lists.{listed_cong}
use Rattle.solution.specs.Order.{order_bytes}
use Rattle.solution.proofs.OrderAsked.{made_by, default_at}
use Rattle.solution.proofs.default_order.Goals as goal

pub returns : goal.returns
unfolding order_bytes
returns c = made_by _ (λ i. cond (ltb i c.args.u) i 255) _ (λ i y q k. search (rules, tests)) _ 6 c.from_fn.ensures.items
    ∙ listed_cong 6 _ _ (λ i l. default_at c.args.u i)
