-- Sign by sign. Assumes nothing.
use borrow.Author.Rules.{rules}
use borrow.Author.Tests.{eq-eqb, ne_eqb}
use Rattle.parser.specs.Inner.Blocks.{sum_of}
use Rattle.parser.proofs.join_sum.Goals as goal

pub returns-then-sign-eq124 : goal.returns-then-sign-eq124
unfolding sum_of
returns-then-sign-eq124 c = rw (eq-eqb _ _ c.if-sign-eq124.true) (c.join.ensures _ (λ a b v given. search rules))

pub returns-else-sign-eq124 : goal.returns-else-sign-eq124
unfolding sum_of
returns-else-sign-eq124 c = rw (ne_eqb _ _ c.if-sign-eq124.false) (c.join-else-sign-eq124.ensures _ (λ a b v given. search rules))
