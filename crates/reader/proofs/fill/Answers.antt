-- A row fills its own table, and every other record leaves both as they are. Assumes nothing.
use native.Mathlib.Omega.{arith}
use Rattle.records.proofs.Standing.{behind_it, some_size}
use Rattle.records.proofs.Filling.{fill_out}
use Rattle.reader.proofs.Filling.{conditions_next, answers_next, others_next, both_end}
use Rattle.reader.proofs.fill.Goals as goal

pub loop-kind-preserved-in-Condition : goal.loop-kind-preserved-in-Condition
loop-kind-preserved-in-Condition c = conditions_next _ c.args.letters c.loop-kind.invariant c.put_row-at.ensures.row

pub loop-kind-preserved-in-Answer : goal.loop-kind-preserved-in-Answer
loop-kind-preserved-in-Answer c = answers_next _ c.args.letters c.loop-kind.invariant c.put_row-at-in-Answer.ensures.row

pub returns-in-End-clause-condition_after : goal.returns-in-End-clause-condition_after
returns-in-End-clause-condition_after c = (both_end _ _ c.loop-kind.invariant _ c.in-Some.ensures.stands c.in-End.is).0

pub returns-in-End-clause-answers_after : goal.returns-in-End-clause-answers_after
returns-in-End-clause-answers_after c = (both_end _ _ c.loop-kind.invariant _ c.in-Some.ensures.stands c.in-End.is).1

pub loop-kind-smaller : goal.loop-kind-smaller
loop-kind-smaller c = omega (arith, c.size-at.ensures, some_size c.in-Some.kind, c.in-Some.ensures.inside)

pub loop-kind-preserved : goal.loop-kind-preserved
loop-kind-preserved c = others_next _ _ c.loop-kind.invariant _ c.in-Some.ensures.stands c.in-Start.is (behind_it _ c.size-at.ensures)

pub returns-clause-condition_after : goal.returns-clause-condition_after
returns-clause-condition_after c = fill_out _ _ _ _ _ _ 0 _ c.loop-kind.invariant.condition c.in_default.ensures

pub returns-clause-answers_after : goal.returns-clause-answers_after
returns-clause-answers_after c = fill_out _ _ _ _ _ _ 0 _ c.loop-kind.invariant.answers c.in_default.ensures
