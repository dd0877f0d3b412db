-- The condition that was read is a table, so that its values where the fact is 0 can be taken and solved by the entry's order; what the
-- entry says is then compared with the fresh verdict. Assumes nothing.
use mathlib.Core.Path.{sym, ◌∙◌}
use Rattle.audit.proofs.Same.{condition_table, order_passes, facts_pass, both_solved, both_none, solved_none, none_solved, values_taken}
use Rattle.records.proofs.Facts.{passed_fits}
use Rattle.reader.proofs.Buffers.{survey_passed}
use Rattle.reader.proofs.Filling.{table_held}
use Rattle.audit.proofs.answers_hold.Goals as goal

pub fill_tables-requires : goal.fill_tables-requires
fill_tables-requires c = (passed_fits _ (survey_passed _ c.requires.surveyed), c.requires.tables_len.0)

pub take_counted-requires : goal.take_counted-requires
take_counted-requires c =
    record {
      passed = survey_passed _ c.requires.surveyed;
      fact_passed = facts_pass _ c.requires.surveyed;
      is-table = condition_table _ _ c.requires.surveyed.letters _ (table_held _ (survey_passed _ c.requires.surveyed) c.fill_tables.ensures.condition_after);
      long = c.requires.words_len.0;
      kept_long = c.requires.words_len.2;
    }

pub invariant_of-solve_values : goal.invariant_of-solve_values
invariant_of-solve_values c = record { in_order = order_passes _ c.requires.surveyed }

pub returns-in-Solved-Solved : goal.returns-in-Solved-Solved
returns-in-Solved-Solved c =
    let is = c.requires.surveyed in
    both_solved _ _ is.letters _ (table_held _ (survey_passed _ c.requires.surveyed) c.fill_tables.ensures.condition_after) _ is.order _ _
    (c.solve_values-afresh.ensures _ _ (values_taken _ _ is.letters _ (table_held _ (survey_passed _ c.requires.surveyed) c.fill_tables.ensures.condition_after) _ is.order c.take_counted.ensures))
    (sym is.verdict ∙ c.in-Solved-Solved.is-0) c.in-Solved-Solved.is-1 (c.fill_tables.ensures.answers_after c.requires.tables_len.1)
    c.same_values.ensures

pub returns-in-None-None : goal.returns-in-None-None
returns-in-None-None c =
    let is = c.requires.surveyed in
    c.eq.ensures ∙ both_none _ _ is.letters _ (table_held _ (survey_passed _ c.requires.surveyed) c.fill_tables.ensures.condition_after) _ is.order _ _
    (c.solve_values-afresh.ensures _ _ (values_taken _ _ is.letters _ (table_held _ (survey_passed _ c.requires.surveyed) c.fill_tables.ensures.condition_after) _ is.order c.take_counted.ensures))
    (sym is.verdict ∙ c.in-None-None.is-0) c.in-None-None.is-1

pub returns-in_default : goal.returns-in_default
returns-in_default c =
    let is = c.requires.surveyed in
    solved_none _ _ is.letters _ (table_held _ (survey_passed _ c.requires.surveyed) c.fill_tables.ensures.condition_after) _ is.order _ _
    (c.solve_values-afresh.ensures _ _ (values_taken _ _ is.letters _ (table_held _ (survey_passed _ c.requires.surveyed) c.fill_tables.ensures.condition_after) _ is.order c.take_counted.ensures))
    (sym is.verdict ∙ c.in_default.is-0) c.in_default.is-1

pub returns-in_default-2 : goal.returns-in_default-2
returns-in_default-2 c =
    let is = c.requires.surveyed in
    none_solved _ _ is.letters _ (table_held _ (survey_passed _ c.requires.surveyed) c.fill_tables.ensures.condition_after) _ is.order _ _
    (c.solve_values-afresh.ensures _ _ (values_taken _ _ is.letters _ (table_held _ (survey_passed _ c.requires.surveyed) c.fill_tables.ensures.condition_after) _ is.order c.take_counted.ensures))
    (sym is.verdict ∙ c.in_default.is-0) c.in_default.is-1
