-- The ways out of the audit: refused by one of the questions that reading puts too, by 13, and passed.
-- Assumes nothing.
use mathlib.Core.Path.{◌≡◌, refl, sym, ap, ◌∙◌}
use mathlib.Core.Bool.{Bool, true, false}
use mathlib.Core.List.{List, [], ◌∷◌}
use Prim.Native.Nat.{ℕ}
use Rattle.tables.specs.declared.Question.{Question}
use Rattle.tables.specs.declared.Question.TheVariants.{Afresh}
use Rattle.tables.specs.Questions.{number}
use Rattle.tables.specs.Inner.Passed.{IsFirstNo}
use Rattle.tables.specs.Answered.{accepted, refused, answered}
use Rattle.tables.proofs.FirstNo.{number_some}
use Rattle.tables.proofs.Answered.{call_stops, call_last_no, call_done_none}
use Rattle.solution.specs.Elimination.{solved, none, Verdict as Said}
use Rattle.entry.specs.Held.{records, held_verdict}
use Rattle.entry.specs.Questions.{answers_hold}
use Rattle.calls.specs.Questions.{fact_questions, record_questions, entry_questions, audit_questions}
use Rattle.calls.specs.Entries.{read_values, state_of, state_said, audit_call}
use Rattle.calls.proofs.Questions.{passes_exactly, audit_exactly}
use Rattle.records.specs.declared.Survey.{Survey}
use Rattle.records.specs.Inner.Headings.{heading_of, said}
use Rattle.records.specs.Inner.Gathering.{IsSurvey}

pub refused_before : (bs : List ℕ) (q : Question) → IsFirstNo (entry_questions (records bs)) q
    → answered (refused (number q) []) [] ≡ audit_call bs
unfolding audit_questions entry_questions record_questions fact_questions
refused_before bs q e = call_stops (entry_questions (records bs)) _ (read_values (records bs)) [] (number q) refl e (number_some q)

-- the state that an entry says
state_said_lem : (v : Said (List ℕ)) → state_said (said v) ≡ state_of v
state_said_lem (solved a) = refl
state_said_lem (none state) = refl

module _ (bs : List ℕ) {survey : Survey} (is : IsSurvey (records bs) survey) {b : Bool} (e : b ≡ answers_hold (records bs)) where
  pub refused_afresh : (q : Question) → (q ≡ Afresh) × (b ≡ false) → answered (refused (number q) []) [] ≡ audit_call bs
  unfolding audit_questions
  refused_afresh q f = rw f.0 (call_last_no (entry_questions (records bs)) Afresh _ [] (read_values (records bs)) [] is.none_no (sym e ∙ f.1))

  pub passed_all : b ≡ true
      → answered
      (accepted
      (survey.entry.heading.route ∷ survey.entry.heading.unknowns ∷ survey.entry.heading.givens ∷ survey.entry.heading.used
      ∷ state_said survey.entry.verdict)) []
      ≡ audit_call bs
  unfolding read_values heading_of
  passed_all f =
      let p = (passes_exactly (records bs)).0 is.none_no in
      ap (λ (values : List ℕ). answered (accepted values) []) (rw (is.heading, is.verdict, state_said_lem (held_verdict (records bs)), p.whole))
      ∙ call_done_none (audit_questions (records bs)) (read_values (records bs)) ((audit_exactly (records bs)).1 (p, sym e ∙ f))
