-- `facts::is_zero` meets its contract. The loop's invariant: the union so far is 0 exactly if no monomial so far is present.
-- Assumes nothing.
use mathlib.Core.Path.{◌≡◌, refl, ap, ◌∙◌}
use mathlib.Core.Bool.{not}
use Prim.Native.Nat.{ℕ, ◌^◌}
use native.Mathlib.Omega.{arith}
use Rattle.ring.specs.Polynomial.{every_below}
use Rattle.ring.specs.Table.{present}
use Rattle.solution.specs.Elimination.{is_zero}
use Rattle.facts.proofs.Unions.{union_more}
use Rattle.facts.proofs.is_zero.Goals as goal

pub loop-byte-init : goal.loop-byte-init
unfolding every_below
loop-byte-init c = refl

pub loop-byte-preserved : goal.loop-byte-preserved
loop-byte-preserved c =
    let fact = c.args.fact.now in
    union_more fact (λ i. not (present fact i)) c.loop-byte.union _ c.loop-byte.invariant c.requires refl

pub returns : goal.returns
unfolding is_zero
returns c n size = let whole : c.loop-byte.byte-index ≡ 2 ^ n = omega arith in
    c.loop-byte.invariant ∙ ap (λ (k : ℕ). every_below k (λ i. not (present c.args.fact.now i))) whole
