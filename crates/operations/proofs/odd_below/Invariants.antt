-- `operations::odd_below` meets its contract. The loop's invariant: `odd` is the parity over the masks passed.
-- Assumes nothing.
use mathlib.Core.Path.{◌≡◌}
use mathlib.Core.Bool.{◌&&◌}
use Rattle.ring.specs.Polynomial.{odd as parity, within}
use Rattle.ring.specs.Table.{present}
use Rattle.operations.proofs.odd_below.Given as goal

abbrev pub invariant-loop-m : goal.invariant-loop-m
invariant-loop-m l = l.odd ≡ parity l.m (λ i. present l.t i && within i l.p)
