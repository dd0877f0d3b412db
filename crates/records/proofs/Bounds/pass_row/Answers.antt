-- A monomial that passes question 12 behind one of its kind changes only the place. Assumes nothing.
use mathlib.Core.Path.{sym, ◌∙◌}
use native.Mathlib.Omega.{arith}
use Rattle.records.proofs.Standing.{behind_it, some_size, lent_of}
use Rattle.records.proofs.Loops.{further_start, row_next}
use Rattle.records.proofs.Bounds.pass_row.Goals as goal

pub loop-kind-init : goal.loop-kind-init
loop-kind-init c = further_start _ _ _ _ _ _ c.requires.0

pub place_in-requires : goal.place_in-requires
place_in-requires c = (lent_of _ _ _ c.loop-kind-test.ensures.there.stands (behind_it _ c.size.ensures), c.requires.2)

pub loop-kind-smaller : goal.loop-kind-smaller
loop-kind-smaller c = omega (arith, some_size c.args.kind, c.loop-kind-test.ensures.there.inside)

pub loop-kind-preserved : goal.loop-kind-preserved
loop-kind-preserved c =
    rw (c.size-at.ensures ∙ sym c.size.ensures)
    (row_next _ _ _ _ c.args.seen _ _ c.loop-kind.invariant _ c.requires.2 c.requires.1 c.loop-kind-test.ensures.there.stands (behind_it _ c.size.ensures)
    c.in-Some.ensures.0 c.in-Some.ensures.1 c.if-next-place.false)
