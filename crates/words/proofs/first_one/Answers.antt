-- `words::first_one` meets its contract. Assumes nothing.
use Rattle.std.proofs.Common.{◌≡◌, ◌≢◌, arith, rules}
use borrow.Author.Tests.{tests}
use Rattle.std.proofs.lemmas.Iterator.{YieldsList-from_slice, IsFirst-from_position}
use Rattle.words.proofs.Counts.{first_at, first_none}
use Rattle.words.proofs.first_one.Goals as goal

pub returns-in-Some : goal.returns-in-Some
returns-in-Some c =
    let at = rw c.in-Some.is at (IsFirst-from_position _ _ c.position.result (λ x. x ≢ 0) (λ x. x ≡ 0) c.position.ensures.ran
    (YieldsList-from_slice c.args.words.now cc) (λ x q k. search (rules, tests)) (λ x q k. search (rules, tests))) in
    first_at c.args.words.now c.in-Some.i at.0 (omega (arith, c.type_inv.words c.in-Some.i)) (at.1 0) (λ k l. at.2 k 0 (omega arith) l)

pub returns-in-None : goal.returns-in-None
returns-in-None c =
    let none = rw c.in-None.is at (IsFirst-from_position _ _ c.position.result (λ x. x ≢ 0) (λ x. x ≡ 0) c.position.ensures.ran
    (YieldsList-from_slice c.args.words.now cc) (λ x q k. search (rules, tests)) (λ x q k. search (rules, tests))) in
    first_none c.args.words.now (λ k l. none k 0 (omega arith) l)
