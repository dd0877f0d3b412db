-- The invariant: the answers for the unknowns below j agree. Assumes nothing.
use mathlib.Core.Path.{◌≡◌}
use lib.ListN.{length}
use Rattle.audit.proofs.Same.{Agreed}
use Rattle.audit.proofs.same_values.Given as goal

abbrev pub invariant-loop-j : goal.invariant-loop-j
invariant-loop-j l = (length l.own ≡ length l.initial.own) × Agreed l.u l.n l.held l.fresh l.j
