-- Without a first record that is no end, a second one, and kind 6 there, the order is 0, 1, 2, .. Assumes nothing.
use mathlib.Core.Path.{sym}
use Rattle.records.proofs.Standing.{ends, goes_on, behind_it, lent_of}
use Rattle.entry.specs.Record.{size, fields, widths}
use Rattle.records.proofs.Answers.{order_no_first, order_first_ends, order_other, order_there}
use Rattle.records.proofs.order_of.Goals as goal

pub returns-in_default : goal.returns-in_default
returns-in_default c = order_no_first _ _ c.in_default.ensures c.default_order-default.ensures

pub returns-then-eq : goal.returns-then-eq
returns-then-eq c = order_first_ends _ _ _ c.in-Some.ensures.stands (ends _ c.if-eq.ensures) c.default_order-default.ensures

pub returns-then-not-is_there : goal.returns-then-not-is_there
returns-then-not-is_there c =
    order_other _ _ _ c.in-Some.ensures.stands (goes_on _ c.if-eq.ensures) c.size-at.ensures (sym c.if-not-is_there.ensures.value)
    c.default_order-default.ensures

pub order_in-requires : goal.order_in-requires
unfolding size fields widths
order_in-requires c = (lent_of _ _ _ c.if-not-is_there.ensures.there.stands (behind_it _ c.size.ensures)).long

pub returns : goal.returns
returns c =
    order_there _ _ _ c.in-Some.ensures.stands (goes_on _ c.if-eq.ensures) c.size-at.ensures c.if-not-is_there.ensures.there.stands
    (behind_it _ c.size.ensures) c.order_in.ensures
