-- `words::copy` meets its contract. Assumes nothing.
use mathlib.Core.Path.{refl, ◌∙◌}
use native.Mathlib.Omega.{arith}
use borrow.Author.Rules.{rules}
use Rattle.ring.proofs.Lists.{listed_get_d}
use Rattle.tables.proofs.Filled.{filled-start, filled_more, filled_end}
use Rattle.words.proofs.copy.Goals as goal

pub loop-i-init : goal.loop-i-init
loop-i-init c = (filled-start _ _ _ refl, refl)

pub loop-i-preserved : goal.loop-i-preserved
loop-i-preserved c = (filled_more _ _ _ _ c.loop-i.invariant.0 _ (omega arith) refl, search rules)

pub returns : goal.returns
returns c = filled_end _ _ _ _ c.loop-i.invariant.0 (omega arith) (omega arith) ∙ rw c.requires (listed_get_d _)
