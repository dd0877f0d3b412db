-- `facts::has_no_unknown` meets its contract. The loop's invariant: the union so far is 0 exactly if no monomial so far that has an unknown
-- is present.
-- Assumes nothing.
use mathlib.Core.Path.{◌≡◌, refl, ap, ◌∙◌}
use Prim.Native.Nat.{ℕ, ◌^◌}
use native.Mathlib.Omega.{arith}
use lib.Pow.{pow_pos}
use Rattle.ring.specs.Polynomial.{every_below}
use Rattle.ring.specs.Table.{present}
use Rattle.solution.specs.Fact.{has_no_unknown}
use Rattle.facts.proofs.Unions.{union_more, union_skip, monomial_fits, with_unknown, without_unknown}
use Rattle.facts.proofs.has_no_unknown.Goals as goal
use Rattle.facts.proofs.has_no_unknown.Goals.{then-m-unknowns-ne0, else-m-unknowns-ne0}

pub pow2-unknowns-requires : goal.pow2-unknowns-requires
pow2-unknowns-requires c = omega arith

pub overflow_sub-unknowns : goal.overflow_sub-unknowns
overflow_sub-unknowns c = rw c.pow2-unknowns.ensures (pow_pos c.args.u)

pub loop-m-init : goal.loop-m-init
unfolding every_below
loop-m-init c = refl

pub loop-m-preserved : goal.loop-m-preserved
loop-m-preserved c =
    let fact = c.args.fact.now in
    let u = c.args.u in
    elim c.if-m-unknowns-ne0.branch [
      | then-m-unknowns-ne0 w ↦
          rw w.union-is (union_more fact (monomial_fits u (present fact)) c.loop-m.union _ c.loop-m.invariant c.requires.1
          (with_unknown u _ _ c.pow2-unknowns.ensures (present fact) w.if-m-unknowns-ne0.true))
      | else-m-unknowns-ne0 w ↦
          rw w.union-is (union_skip fact (monomial_fits u (present fact)) c.loop-m.union _ c.loop-m.invariant
          (without_unknown u _ _ c.pow2-unknowns.ensures (present fact) w.if-m-unknowns-ne0.false))
    ]

pub returns : goal.returns
unfolding has_no_unknown
returns c n size = let whole : c.loop-m.m ≡ 2 ^ n = omega arith in
    c.loop-m.invariant ∙ ap (λ (k : ℕ). every_below k (monomial_fits c.args.u (present c.args.fact.now))) whole
