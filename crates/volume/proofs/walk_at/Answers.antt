-- The invariant: the walk's answer is what it is from `at` on, behind the entries passed, which are no more than the bytes passed; and `at`
-- is not below the place. Assumes nothing.
use mathlib.Core.Path.{◌≡◌, refl}
use native.Mathlib.Omega.{arith}
use Rattle.std.proofs.Common.{rules}
use Rattle.std.proofs.lemmas.Result.{err_from_is_err_and}
use Rattle.calls.specs.Walk.{walk_reply}
use Rattle.volume.proofs.Turns.{ok_before, err_before, walk_ends, walk_refused, walk_passed, some_used, used_within}
use Rattle.volume.proofs.walk_at.Goals as goal

pub loop-at-init : goal.loop-at-init
unfolding walk_reply
loop-at-init c = (omega arith, omega arith, refl)

pub returns-in_err-entry : goal.returns-in_err-entry
returns-in_err-entry c =
    let no = err_from_is_err_and c.from_residual.result c.from_residual.ensures.1 in
    let found = err_before c.audit_at.result _ c.map_err.ensures.cases c.in_err-entry.was in
    let is : c.in_err-entry.field-0.0 ≡ record { question = found.0; passed = c.loop-at.passed } = search rules in
    rw (no.1, no.2, is) (walk_refused _ _ _ _ _ c.loop-at.invariant.2 c.loop-at-test.true _ (rw found.1 at c.audit_at.ensures))

pub overflow_add-at : goal.overflow_add-at
overflow_add-at c =
    let ok = ok_before c.audit_at.result _ c.map_err.ensures.cases c.in_ok-entry.was in
    omega (arith, used_within _ _ _ _ _ c.loop-at.invariant.2 c.loop-at-test.true _ (rw ok at c.audit_at.ensures))

pub loop-at-smaller : goal.loop-at-smaller
loop-at-smaller c =
    let ok = ok_before c.audit_at.result _ c.map_err.ensures.cases c.in_ok-entry.was in
    omega (
      arith,
      some_used _ _ _ _ _ c.loop-at.invariant.2 c.loop-at-test.true _ (rw ok at c.audit_at.ensures),
      used_within _ _ _ _ _ c.loop-at.invariant.2 c.loop-at-test.true _ (rw ok at c.audit_at.ensures),
    )

pub loop-at-preserved : goal.loop-at-preserved
loop-at-preserved c =
    let ok = ok_before c.audit_at.result _ c.map_err.ensures.cases c.in_ok-entry.was in
    let e = rw ok at c.audit_at.ensures in (
      omega arith,
      omega (arith, some_used _ _ _ _ _ c.loop-at.invariant.2 c.loop-at-test.true _ e),
      walk_passed _ _ _ _ _ c.loop-at.invariant.2 c.loop-at-test.true _ e,
    )

pub returns : goal.returns
returns c = walk_ends _ _ _ _ _ c.loop-at.invariant.2 c.loop-at-test.false
