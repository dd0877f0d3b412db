-- `layodegi::layodegi_read_entry` meets its contract: the call's answer as a code, and the buffers as the call leaves them.
-- Assumes nothing.
use Rattle.layodegi.specs.Codes.{entry_code}
use Rattle.layodegi.proofs.Coded.{coded-call}
use Rattle.layodegi.proofs.layodegi_read_entry.Goals as goal

pub returns : goal.returns
returns c = coded-call entry_code c.read_code.ensures c.read_entry.ensures
