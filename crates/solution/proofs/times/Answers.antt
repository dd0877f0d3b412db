-- `solution::times` meets its contract. Assumes nothing.
use mathlib.Core.Path.{ap, ◌∙◌}
use Prim.Native.Nat.{ℕ}
use native.Mathlib.Omega.{arith}
use lib.Dec.{eqb}
use lib.Seq.{take_all}
use Rattle.std.specs.List.{count_by}
use Rattle.solution.proofs.OrderAsked.{times_counts}
use Rattle.solution.proofs.times.Goals as goal

pub returns : goal.returns
returns c =
    c.loop-byte.invariant
    ∙ ap (count_by (λ (y : ℕ). eqb c.args.x y)) (take_all c.loop-byte.byte-index c.args.s.now (omega arith))
    ∙ times_counts c.args.x c.args.s.now
