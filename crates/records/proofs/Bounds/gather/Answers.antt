-- The loop ends at the first kind 4, or where no whole record stands. Assumes nothing.
use native.Mathlib.Omega.{arith}
use mathlib.Core.Path.{◌≡◌}
use Rattle.records.specs.declared.kinds.Kind.TheVariants as kinds
use Rattle.records.proofs.Standing.{ends, goes_on, behind_it, some_size, lent_of}
use Rattle.records.proofs.Loops.{further_then, gather_out, gather_end, gather_next}
use Rattle.records.proofs.Bounds.gather.Goals as goal

pub see-next-requires : goal.see-next-requires
see-next-requires c = lent_of _ _ _ c.in-Some.ensures.stands (behind_it _ c.size.ensures)

pub returns-then-eq : goal.returns-then-eq
returns-then-eq c =
    let last : c.in-Some.kind ≡ kinds.End = ends _ c.if-eq.ensures in
    gather_end _ _ _ _ _ _ c.loop-kind.invariant _ c.in-Some.ensures.stands (behind_it _ c.size.ensures) c.see-next.ensures last

pub loop-kind-smaller : goal.loop-kind-smaller
loop-kind-smaller c = omega (arith, some_size c.in-Some.kind, c.in-Some.ensures.inside, c.size.ensures, c.pass_monomials-to.ensures.onward, c.pass_monomials-to.ensures.inside)

pub loop-kind-preserved : goal.loop-kind-preserved
loop-kind-preserved c =
    further_then _ _ _ _ (gather_next _ _ _ _ _ _ c.loop-kind.invariant _ c.in-Some.ensures.stands (behind_it _ c.size.ensures) c.see-next.ensures (goes_on _ c.if-eq.ensures)) c.pass_monomials-to.ensures

pub returns : goal.returns
returns c = gather_out _ _ _ _ _ _ c.loop-kind.invariant c.in_default.ensures
