-- `session::put_table` meets its contract. The loop fills the place from the front. Assumes nothing.
use mathlib.Core.Path.{◌≡◌}
use lib.ListN.{length, get_or}
use Rattle.tables.proofs.Filled.{filled}
use Rattle.session.proofs.put_table.Given as goal

abbrev pub invariant-loop-i : goal.invariant-loop-i
invariant-loop-i l = (l.to ≡ filled l.i (λ m. get_or l.from m 0) l.initial.to) × (length l.to ≡ length l.initial.to)
