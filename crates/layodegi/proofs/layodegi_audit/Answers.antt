-- `layodegi::layodegi_audit` meets its contract: the call's answer as a code.
-- Assumes nothing.
use Rattle.layodegi.specs.Codes.{entry_code}
use Rattle.layodegi.proofs.Coded.{coded-call}
use Rattle.layodegi.proofs.layodegi_audit.Goals as goal

pub returns : goal.returns
returns c = coded-call entry_code c.read_code.ensures c.audit.ensures
