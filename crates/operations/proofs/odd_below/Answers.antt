-- `operations::odd_below` meets its contract. The loop's invariant: `odd` is the parity over the masks passed.
-- Assumes nothing.
use mathlib.Core.Path.{◌≡◌, sym, ap, ◌∙◌}
use mathlib.Core.Bool.{◌&&◌}
use Prim.Native.Nat.{ℕ}
use native.Mathlib.Omega.{arith}
use lib.ListN.{length}
use Rattle.ring.specs.Polynomial.{odd as parity, within}
use Rattle.ring.specs.Table.{present}
use Rattle.ring.proofs.Parity.{odd_zero}
use Rattle.operations.proofs.Work.{parity_more}
use Rattle.operations.proofs.odd_below.Goals as goal

pub loop-m-init : goal.loop-m-init
loop-m-init c = sym (odd_zero _)

pub loop-m-preserved : goal.loop-m-preserved
unfolding present
loop-m-preserved c = parity_more _ _ _ _ c.loop-m.invariant c.counts-odd.ensures

pub returns : goal.returns
returns c = let e : c.loop-m.m ≡ length c.args.t.now = omega arith in
    let args = c.args in
    c.loop-m.invariant ∙ ap (λ (k : ℕ). parity k (λ i. present args.t.now i && within i args.p)) e
