-- `solver::write_tables` meets its contract: each part is what is written. Assumes nothing.
use borrow.Author.Rules.{rules}
use Rattle.solver.proofs.write_tables.Goals as goal

pub returns : goal.returns
returns c = c.write_each.ensures (λ x b p. b) (λ x part own left lx lp lo post. (search rules, λ p lt. search rules))
