-- `layodegi::layodegi_session_add` meets its contract: the call's answer as a code, and the block as the call leaves it.
-- Assumes nothing.
use Rattle.layodegi.specs.Codes.{code}
use Rattle.layodegi.proofs.Coded.{coded-call}
use Rattle.layodegi.proofs.layodegi_session_add.Goals as goal

pub returns : goal.returns
returns c = coded-call code c.outcome_code.ensures c.add.ensures
