-- `order::fill_order` meets its contract. Here the tests of the whole tables are computed for the constants, all masks at once.
-- Assumes nothing.
use mathlib.Core.Path.{refl, sym, ap, ◌∙◌}
use mathlib.Core.List.{◌++◌}
use Prim.Native.Nat.{ℕ, ◌^◌}
use native.Mathlib.Omega.{arith}
use borrow.Author.Rules.{rules}
use lib.ListN.{drop}
use Rattle.ring.specs.Lists.{listed}
use Rattle.ring.specs.Polynomial.{count}
use Rattle.order.specs.Order.{order}
use Rattle.order.proofs.Letters.{letters_in}
use Rattle.order.proofs.Places.{rank_in, climbs, is_order, is_the_order, fewer_in, are_starts}
use Rattle.order.proofs.fill_order.Goals as goal

pub skip_large-requires : goal.skip_large-requires
unfolding is_order climbs rank_in letters_in fewer_in count listed
skip_large-requires c = (search rules, omega arith, is_the_order 6 _ refl, are_starts 6 _ refl, search rules)

pub copy_order-requires : goal.copy_order-requires
unfolding is_order climbs rank_in letters_in
copy_order-requires c = (is_the_order 10 _ refl, rw c.if-n-eq10.true at c.requires.1)

pub returns-then-n-eq10 : goal.returns-then-n-eq10
returns-then-n-eq10 c = let out = c.args.out.now in
    c.copy_order.ensures ∙ ap (λ (k : ℕ). order k ++ drop (2 ^ k) out) (sym c.if-n-eq10.true)

pub skip_large-requires-2 : goal.skip_large-requires-2
unfolding is_order climbs rank_in letters_in fewer_in count listed
skip_large-requires-2 c = (search rules, omega arith, is_the_order 10 _ refl, are_starts 10 _ refl, search rules)
