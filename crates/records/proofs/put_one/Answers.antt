-- Past the end nothing is set. Assumes nothing.
use mathlib.Core.Path.{sym}
use lib.Seq.{set_out}
use Rattle.records.proofs.put_one.Goals as goal

pub returns-else-p-t : goal.returns-else-p-t
returns-else-p-t c = sym (set_out _ _ _ c.if-p-t.false)
