-- `shorter::count_few` meets its contract. The loop's invariant: `few` is the count over the bytes passed, and so at most their number.
-- Assumes nothing.
use mathlib.Core.Path.{◌≡◌}
use Rattle.ring.specs.Polynomial.{count}
use Rattle.ring.specs.Table.{present}
use Rattle.shorter.proofs.count_few.Given as goal

abbrev pub invariant-loop-byte : goal.invariant-loop-byte
invariant-loop-byte l = l.few ≡ count l.byte-index (present l.t)
