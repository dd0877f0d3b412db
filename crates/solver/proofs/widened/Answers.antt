-- `solver::widened` meets its contract, byte by byte. Assumes nothing.
use mathlib.Core.Path.{◌≡◌}
use native.Mathlib.Omega.{arith}
use borrow.Author.Rules.{rules}
use lib.ListN.{length}
use lib.Seq.{ext_get_or}
use Rattle.solver.proofs.widened.Goals as goal

pub returns : goal.returns
returns c =
    let six : length c.args.order ≡ 6 = omega arith in
    ext_get_or 0 c.map.result c.args.order (omega arith) (λ i l.
    let called = c.map.ensures.items.at i 0 0 (omega arith) in
    search rules)
