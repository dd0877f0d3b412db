-- `layodegi::verdict_code` meets its contract, case by case.
-- Assumes nothing.
use mathlib.Core.Path.{sym, ap, ◌∙◌}
use Prim.Native.Nat.{◌+◌}
use native.Mathlib.Omega.{arith}
use Rattle.calls.specs.Entries.{state_said}
use Rattle.layodegi.specs.Codes.{state_code}
use Rattle.layodegi.proofs.verdict_code.Goals as goal

pub returns-in-None : goal.returns-in-None
returns-in-None c = let low = c.byte_of.ensures in
    (ap (λ x. 1 + x) low.0 ∙ sym (ap (λ x. state_code (state_said x)) c.in-None.is), omega (arith, low.1))
