-- `solver::write_by` meets its contract: each method's tables.
-- Assumes nothing.
use borrow.Author.Rules.{rules}
use Rattle.solver.proofs.Written.{boole_by, particular_by, lowenheim_by}
use Rattle.solver.proofs.write_by.Goals as goal

pub returns-in-Boole : goal.returns-in-Boole
returns-in-Boole c = (λ order fact t ev ef. search boole_by, search rules)

pub returns-in-Particular : goal.returns-in-Particular
returns-in-Particular c = (λ order fact t ev ef. search particular_by, search rules)

pub returns-in-Lowenheim : goal.returns-in-Lowenheim
returns-in-Lowenheim c = (λ order fact t ev ef. search lowenheim_by, search rules)
