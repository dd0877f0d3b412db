-- `solution::holds_each` meets its contract. Assumes nothing.
use mathlib.Core.Path.{◌∙◌}
use borrow.Author.Rules.{rules}
use borrow.Author.Tests.{tests}
use native.Mathlib.Omega.{arith}
use lib.Dec.{eqb}
use Rattle.std.proofs.lemmas.Iterator.{YieldsList-from_range}
use Rattle.std.proofs.lemmas.Iterator.Search.{all_from_yields_List}
use Rattle.ring.specs.Lists.{times}
use Rattle.solution.proofs.OrderAsked.{all_numbers}
use Rattle.solution.proofs.holds_each.Goals as goal

pub returns : goal.returns
returns c = all_from_yields_List (λ x. eqb (times x c.args.s.now) 1) _ _ _ c.all.ensures.ran (YieldsList-from_range 0 c.args.u _ (cc) (omega arith)) (λ x b q k. search (rules, tests))
    ∙ all_numbers (λ x. eqb (times x c.args.s.now) 1) c.args.u
