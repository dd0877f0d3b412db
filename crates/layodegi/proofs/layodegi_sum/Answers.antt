-- `layodegi::layodegi_sum` meets its contract: the call's answer as a code, and the buffer as the call leaves it.
-- Assumes nothing.
use Rattle.layodegi.specs.Codes.{code}
use Rattle.layodegi.proofs.Coded.{coded-call}
use Rattle.layodegi.proofs.layodegi_sum.Goals as goal

pub returns : goal.returns
returns c = coded-call code c.value_code.ensures c.sum.ensures
