-- `session::put_table` meets its contract. Assumes nothing.
use mathlib.Core.Path.{◌≡◌, refl, ◌∙◌}
use native.Mathlib.Omega.{arith}
use borrow.Author.Rules.{rules}
use lib.ListN.{length}
use Rattle.ring.proofs.Lists.{listed_get_d}
use Rattle.tables.proofs.Filled.{filled-start, filled_more, filled_end}
use Rattle.session.proofs.put_table.Goals as goal

pub loop-i-init : goal.loop-i-init
loop-i-init c = (filled-start _ _ _ refl, refl)

pub loop-i-preserved : goal.loop-i-preserved
loop-i-preserved c = (filled_more _ _ _ _ c.loop-i.invariant.0 _ (omega arith) refl, search rules)

pub returns : goal.returns
returns c = let long : length c.args.to.now ≡ length c.args.from.now = search rules in
    filled_end _ _ _ _ c.loop-i.invariant.0 (omega arith) (omega arith) ∙ rw long (listed_get_d _)
