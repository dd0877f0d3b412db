-- `layodegi::layodegi_walk` meets its contract: the call's answer as a code.
-- Assumes nothing.
use Rattle.layodegi.specs.Codes.{code}
use Rattle.layodegi.proofs.Coded.{coded-call}
use Rattle.layodegi.proofs.layodegi_walk.Goals as goal

pub returns : goal.returns
returns c = coded-call code c.walk_code.ensures c.walk_volume.ensures
