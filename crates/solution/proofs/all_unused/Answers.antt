-- `solution::all_unused` meets its contract. Assumes nothing.
use mathlib.Core.Path.{◌∙◌}
use borrow.Author.Rules.{rules}
use borrow.Author.Tests.{tests}
use lib.Dec.{eqb}
use Rattle.std.proofs.lemmas.Iterator.{YieldsList-from_slice}
use Rattle.std.proofs.lemmas.Iterator.Search.{all_from_yields_List}
use Rattle.solution.proofs.OrderAsked.{all_bytes}
use Rattle.solution.proofs.all_unused.Goals as goal

pub returns : goal.returns
returns c = all_from_yields_List (λ x. eqb x 255) _ _ _ c.all.ensures.ran (YieldsList-from_slice c.args.s.now cc) (λ x b q k. search (rules, tests))
    ∙ all_bytes (λ x. eqb x 255) c.args.s.now
