-- `layodegi::layodegi_which_shorter` meets its contract: the call's answer as a code.
-- Assumes nothing.
use Rattle.layodegi.specs.Codes.{code}
use Rattle.layodegi.proofs.Coded.{coded-call}
use Rattle.layodegi.proofs.layodegi_which_shorter.Goals as goal

pub returns : goal.returns
returns c = coded-call code c.shorter_code.ensures c.which_shorter.ensures
