-- `order::next_start` meets its contract. Assumes nothing.
use mathlib.Core.Path.{ap, ◌∙◌}
use Prim.Native.Nat.{ℕ, ◌+◌}
use lib.ListN.{get_or}
use Rattle.order.proofs.next_start.Goals as goal

pub returns : goal.returns
returns c = c.from.ensures
    ∙ ap (λ (k : ℕ). get_or c.args.starts.now (k + 1) 0) c.count_letters.ensures.0
