-- The invariant: so many of the monomials so far are present. Assumes nothing.
use mathlib.Core.Path.{◌≡◌}
use Rattle.ring.specs.Polynomial.{count}
use Rattle.ring.specs.Table.{present}
use Rattle.writer.proofs.fact_size.Given as goal

abbrev pub invariant-loop-byte : goal.invariant-loop-byte
invariant-loop-byte l = l.count ≡ count l.byte-index (present l.fact)
