-- `elimination::place` meets its contract. Assumes nothing.
use Rattle.std.proofs.Common.{◌≡◌, ◌≢◌, rules}
use borrow.Author.Tests.{tests}
use Rattle.std.proofs.lemmas.Iterator.{YieldsList-from_slice, IsFirst-from_position}
use Rattle.elimination.specs.Inner.Stages.{place_of}
use Rattle.elimination.proofs.Stages.{place_found}
use Rattle.elimination.proofs.place.Goals as goal

pub unwrap-requires : goal.unwrap-requires
unwrap-requires c =
    let found = place_found c.args.order.now c.args.x _ c.requires (IsFirst-from_position _ _ c.position.result (λ y. y ≡ c.args.x) (λ y. y ≢ c.args.x) c.position.ensures.ran
    (YieldsList-from_slice c.args.order.now cc) (λ y q k. search (rules, tests)) (λ y q k. search (rules, tests))) in
    rw found.0 (search rules)

pub returns : goal.returns
returns c =
    let found = place_found c.args.order.now c.args.x _ c.requires (IsFirst-from_position _ _ c.position.result (λ y. y ≡ c.args.x) (λ y. y ≢ c.args.x) c.position.ensures.ran
    (YieldsList-from_slice c.args.order.now cc) (λ y q k. search (rules, tests)) (λ y q k. search (rules, tests))) in
    let is : c.unwrap.result ≡ place_of c.args.order.now c.args.x = cc in
    (is, rw is found.1)
