-- `words::copy` meets its contract. The loop fills the destination from the front. Assumes nothing.
use mathlib.Core.Path.{◌≡◌}
use lib.ListN.{length, get_or}
use Rattle.tables.proofs.Filled.{filled}
use Rattle.words.proofs.copy.Given as goal

abbrev pub invariant-loop-i : goal.invariant-loop-i
invariant-loop-i l = (l.d ≡ filled l.i (λ m. get_or l.s m 0) l.initial.d) × (length l.d ≡ length l.initial.d)
