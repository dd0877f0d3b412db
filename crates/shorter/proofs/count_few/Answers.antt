-- `shorter::count_few` meets its contract. The loop's invariant: `few` is the count over the bytes passed, and so at most their number.
-- Assumes nothing.
use mathlib.Core.Path.{◌≡◌, refl, ap, ◌∙◌}
use Prim.Native.Nat.{ℕ}
use lib.ListN.{length}
use native.Mathlib.Omega.{arith}
use Rattle.ring.specs.Polynomial.{count}
use Rattle.ring.specs.Table.{present}
use Rattle.ring.proofs.Parity.{count_most}
use Rattle.shorter.proofs.Counting.{byte_more}
use Rattle.shorter.proofs.count_few.Goals as goal

pub loop-byte-init : goal.loop-byte-init
unfolding count
loop-byte-init c = refl

pub overflow_add-few : goal.overflow_add-few
overflow_add-few c = let i = c.loop-byte.byte-index in
    omega (arith, count_most i (present c.args.t.now), c.requires.1 i)

pub loop-byte-preserved : goal.loop-byte-preserved
loop-byte-preserved c = byte_more _ _ _ c.requires.1 c.loop-byte.invariant

pub returns : goal.returns
returns c = let all : c.loop-byte.byte-index ≡ length c.args.t.now = omega arith in
    c.from.ensures ∙ c.loop-byte.invariant ∙ ap (λ (k : ℕ). count k (present c.args.t.now)) all
