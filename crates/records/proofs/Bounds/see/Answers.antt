-- Each arm is one case of the kind. Assumes nothing.
use mathlib.Core.Path.{◌≡◌}
use mathlib.Core.Bool.{true}
use Rattle.std.proofs.Common.{rules}
use Rattle.records.specs.Inner.Kinds.{stands_in_row}
use Rattle.records.proofs.OneRecord.{see_start, see_monomial, see_beyond, see_end, see_none, see_order}
use Rattle.records.proofs.Bounds.see.Goals as goal

pub returns-in-Start : goal.returns-in-Start
returns-in-Start c = see_start _ _ _ c.args.seen _ c.requires c.may_follow.ensures c.in-Start.is

pub returns-in-Some : goal.returns-in-Some
returns-in-Some c =
    let row : stands_in_row c.args.kind ≡ true = search rules in
    see_monomial _ _ _ c.args.seen _ c.requires c.may_follow.ensures row c.in-Some.ensures.0 c.in-Some.ensures.1

pub returns-in-None-place_in : goal.returns-in-None-place_in
returns-in-None-place_in c =
    let row : stands_in_row c.args.kind ≡ true = search rules in
    see_beyond _ _ _ c.args.seen _ c.requires c.may_follow.ensures row c.in-None-place_in.ensures

pub returns-in-End : goal.returns-in-End
returns-in-End c = see_end _ _ _ c.args.seen _ c.requires c.may_follow.ensures c.in-End.is

pub returns-in-None : goal.returns-in-None
returns-in-None c = see_none _ _ _ c.args.seen _ c.requires c.may_follow.ensures c.in-None.is c.from.ensures c.args.self.now.states_are c.from-in-None.ensures c.or.ensures

pub returns-in-Order : goal.returns-in-Order
returns-in-Order c = see_order _ _ _ c.args.seen _ c.requires c.may_follow.ensures c.in-Order.is c.order_in.ensures c.is_default.ensures
