-- The bool says whether each symbol so far has passed the test. Assumes nothing.
use mathlib.Core.Path.{◌≡◌, refl}
use mathlib.Core.Bool.{true}
use borrow.Author.Rules.{rules}
use borrow.Author.Tests.{tests}
use Rattle.std.proofs.lemmas.Fn.{fold_over, fronts}
use Rattle.std.proofs.lemmas.Iterator.{YieldsList-from_slice}
use Rattle.grammar.specs.Symbols.{every}
use Rattle.parser.specs.Inner.Questions.{is_letter_declared}
use Rattle.parser.proofs.Decoding.{every_more}
use Rattle.parser.proofs.all_declared.Goals as goal

pub returns : goal.returns
unfolding every
returns c = fold_over fronts (λ y. y.now) _ (λ l all. all ≡ every (is_letter_declared c.args.u c.args.g) l) _
    (λ l all x more f' h k. (every_more (is_letter_declared c.args.u c.args.g) l all more x.now h (search (rules, tests)), search rules))
    c.iter.result c.args.s.now true _ (YieldsList-from_slice c.args.s.now (cc)).runs refl c.fold.ensures.ran
