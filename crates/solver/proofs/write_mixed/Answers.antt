-- `solver::write_mixed` meets its contract: each part is mixed with the condition's values. Assumes nothing.
use mathlib.Core.Bool.{◌&&◌}
use borrow.Author.Rules.{rules}
use Rattle.ring.specs.Letters.{bit}
use Rattle.ring.specs.Polynomial.{◌⊕◌}
use Rattle.words.specs.Inner.Words.{bit_at}
use Rattle.solver.specs.Inner.Words.{mixed_value}
use Rattle.solver.proofs.Tables.{mixed_words}
use Rattle.solver.proofs.write_mixed.Goals as goal

pub returns : goal.returns
unfolding mixed_value
returns c =
    c.write_each.ensures (λ x b p. bit p x ⊕ (bit_at c.args.values.now p && (bit p x ⊕ b)))
    (λ x part own left lx lp lo post. mixed_words c.args.letters _ _ _ part.now left.now lo (search rules))
