-- The ways out of reading: refused by one of the questions before 4, by 4, and with the tables written.
-- Assumes nothing.
use mathlib.Core.Path.{◌≡◌, refl, sym, ap, ap₂, ◌∙◌}
use mathlib.Core.List.{List, [], ◌∷◌, ◌++◌, append-nil}
use mathlib.Core.Logic.{◌⊎◌, inl, inr}
use Prim.Native.Nat.{ℕ, ◌+◌, ◌*◌, ◌^◌, ◌≤◌}
use native.Mathlib.Omega.{arith}
use lib.ListN.{length, drop, drop_of_length-le}
use Rattle.ring.specs.declared.State.{State}
use Rattle.ring.specs.Table.{answer_table}
use Rattle.ring.proofs.Table.{length-table}
use Rattle.tables.specs.declared.Letters.{Letters}
use Rattle.tables.specs.declared.Question.{Question}
use Rattle.tables.specs.Questions.{Asked, number, first_no, writes, room_questions, bit_questions, buffer_questions}
use Rattle.tables.specs.Inner.Passed.{IsFirstNo}
use Rattle.tables.specs.Answered.{accepted, refused, answered, ◌into◌}
use Rattle.tables.proofs.FirstNo.{number_some, then_further, asked_before}
use Rattle.tables.proofs.Answered.{call_stops, call_no, call_done_none, call-also}
use Rattle.tables.proofs.Parts.{answers_fit}
use Rattle.solution.specs.Elimination.{solved, none, Verdict as Said}
use Rattle.entry.specs.Held.{records, order_in, unknowns_of, givens_of, condition_in, answers_in, unless_none, held_condition, held_verdict}
use Rattle.entry.proofs.Canonical.{unless_cases}
use Rattle.calls.specs.declared.Verdict.{Verdict}
use Rattle.calls.specs.Questions.{fact_questions, record_questions, entry_questions, read_questions}
use Rattle.calls.specs.Entries.{read_values, read_call, state_of, state_said, answers_of}
use Rattle.calls.proofs.Questions.{passes_exactly}
use Rattle.records.specs.declared.Survey.{Survey}
use Rattle.records.specs.Inner.Headings.{heading_of, said}
use Rattle.records.specs.Inner.Gathering.{IsSurvey}
use Rattle.records.specs.Inner.Filling.{Passed}
use Rattle.records.proofs.OneRecord.{whole_length}
use Rattle.records.proofs.Facts.{fact_table}
use Rattle.reader.specs.Inner.Filling.{room_for, PassedRoom}

-- whether a verdict is 'none', and in which state
state_told : {A : Type 0} (w : Said A) → state_said (said w) ≡ state_of w
state_told (solved a) = refl
state_told (none state) = refl

-- ---- refused before question 4
pub read_refused : (bs o f c a : List ℕ) (q : Question) → IsFirstNo (entry_questions (records bs)) q
    → answered (refused (number q) []) (o ∷ f ∷ c ∷ a ∷ []) ≡ read_call bs o f c a
unfolding read_questions entry_questions record_questions fact_questions
read_refused bs o f c a q e =
    call_stops (entry_questions (records bs)) _ _ (_ into o ∷ _ into f ∷ _ into c ∷ _ into a ∷ []) (number q) refl e (number_some q)

-- ---- behind the questions before it
module _ (bs : List ℕ) {survey : Survey} (is : IsSurvey (records bs) survey) where
  abbrev l : Letters
  l = survey.letters

  pub survey_passed : Passed bs survey.letters
  unfolding entry_questions
  survey_passed = record { yes = asked_before (record_questions (records bs)) _ is.none_no; letters = is.letters }

  pub size_small : survey.letters.unknowns * survey.letters.table_len ≤ 6144
  size_small = answers_fit l.unknowns_fit l.table_len_is l.n_fits

  length_is : l.table_len ≡ 2 ^ (unknowns_of (records bs) + givens_of (records bs))
  length_is = whole_length l ∙ ap₂ (λ (u g : ℕ). 2 ^ (u + g)) is.letters.unknowns is.letters.givens

  module _ (lent f c a : List ℕ) where
    asked : List Asked
    asked = read_questions (records bs) (length f) (length c) (length a)

    room_first : first_no (buffer_questions (writes l.table_len (length f) ∷ writes l.table_len (length c) ∷ writes (l.unknowns * l.table_len) (length a) ∷ []))
        ≡ first_no asked
    unfolding asked read_questions
    room_first =
        ap₂ (λ (k u : ℕ). first_no (buffer_questions (writes k (length f) ∷ writes k (length c) ∷ writes (u * k) (length a) ∷ []))) length_is is.letters.unknowns
        ∙ sym (then_further (entry_questions (records bs)) _ is.none_no)

    pub read_short : (q : Question)
        → IsFirstNo
        (buffer_questions
        (writes l.table_len (length f) ∷ writes l.table_len (length c) ∷ writes (l.unknowns * l.table_len) (length a) ∷ [])) q
        → answered (refused (number q) []) (lent ∷ f ∷ c ∷ a ∷ []) ≡ read_call bs lent f c a
    unfolding asked read_questions entry_questions record_questions fact_questions buffer_questions room_questions bit_questions
    read_short q e = call_no asked _ (_ into lent ∷ _ into f ∷ _ into c ∷ _ into a ∷ []) q refl (e ∙ room_first)

    -- filled, and back in place
    module _ (passed : PassedRoom l.table_len (length f) (length c) (l.unknowns * l.table_len) (length a)) {room : ℕ}
        (er : room ≡ room_for survey.entry.verdict (l.unknowns * l.table_len)) {f₁ c₁ a₁ : List ℕ} (ef : f₁ ≡ (held_condition (records bs)).fact)
        (ec : c₁ ≡ (held_condition (records bs)).table)
        (ea : room ≡ l.unknowns * l.table_len → a₁ ≡ answer_table l.unknowns l.n (answers_in (records bs))) (el : length a₁ ≡ room) where
      fact_done : f₁ ++ drop l.table_len f ≡ (held_condition (records bs)).fact ++ drop (length (held_condition (records bs)).fact) f
      fact_done =
          let e : l.table_len ≡ length (held_condition (records bs)).fact = l.table_len_is ∙ sym (fact_table bs survey_passed).size in rw (ef, ← e)

      condition_done : c₁ ++ drop l.table_len c ≡ (held_condition (records bs)).table ++ drop (length (held_condition (records bs)).table) c
      unfolding held_condition
      condition_done =
          let e : l.table_len ≡ length (held_condition (records bs)).table =
          length_is ∙ sym (length-table (unknowns_of (records bs) + givens_of (records bs)) (condition_in (records bs))) in
          rw (ec, ← e)

      values : (survey.entry.heading.route ∷ survey.entry.heading.unknowns ∷ survey.entry.heading.givens ∷ survey.entry.heading.used
          ∷ state_said survey.entry.verdict)
          ≡ read_values (records bs)
      unfolding read_values heading_of
      values = rw (is.heading, is.verdict, state_told (held_verdict (records bs)), ((passes_exactly (records bs)).0 is.none_no).whole)

      -- the answers of a solved entry; a 'none' entry has none
      abbrev answer_tables : List ℕ
      answer_tables = answer_table (unknowns_of (records bs)) (unknowns_of (records bs) + givens_of (records bs)) (answers_in (records bs))

      answers_are : a₁ ≡ answers_of (held_verdict (records bs))
      unfolding held_verdict
      answers_are = go (unless_cases answer_tables (records bs))
        where
          room_is : (w : Said (List ℕ)) → unless_none answer_tables (records bs) ≡ w → room ≡ room_for (said w) (l.unknowns * l.table_len)
          room_is w e = er ∙ ap (λ (x : Verdict). room_for x (l.unknowns * l.table_len)) (is.verdict ∙ ap said e)

          none_left : (xs : List ℕ) → length xs ≡ 0 → xs ≡ []
          none_left [] e = refl
          none_left (x ∷ xs) e = absurd (omega arith)

          go : (unless_none answer_tables (records bs) ≡ solved answer_tables) ⊎
              ((state : State) × (unless_none answer_tables (records bs) ≡ none state))
              → a₁ ≡ answers_of (unless_none answer_tables (records bs))
          go (inl e) =
              rw e
              (ea (room_is (solved answer_tables) e)
              ∙ ap₂ (λ (u n : ℕ). answer_table u n (answers_in (records bs))) is.letters.unknowns (l.n_is ∙ ap₂ ◌+◌ is.letters.unknowns is.letters.givens))
          go (inr e) = rw e.1 (none_left a₁ (el ∙ room_is (none e.0) e.1))

      answers_done : a₁ ++ drop room a ≡ answers_of (held_verdict (records bs)) ++ drop (length (answers_of (held_verdict (records bs)))) a
      answers_done = rw (← answers_are, el)

      -- an order in six bytes
      order_done : length survey.order ≡ 6 → length lent ≡ 6 → survey.order ≡ order_in (records bs) ++ drop (length (order_in (records bs))) lent
      order_done e g =
          let h : length lent ≤ length survey.order = omega arith in
          rw (← is.order, drop_of_length-le lent h) (sym (append-nil survey.order))

      pub read_done : length survey.order ≡ 6 → length lent ≡ 6
          → answered
          (accepted
          (survey.entry.heading.route ∷ survey.entry.heading.unknowns ∷ survey.entry.heading.givens ∷ survey.entry.heading.used
          ∷ state_said survey.entry.verdict))
          (survey.order ∷ (f₁ ++ drop l.table_len f) ∷ (c₁ ++ drop l.table_len c) ∷ (a₁ ++ drop room a) ∷ []) ≡ read_call bs lent f c a
      unfolding asked
      read_done e g =
          let done : first_no asked ≡ 0 = sym room_first ∙ passed.none_no in
          call-also asked (read_values (records bs)) _ lent _ _ done (order_done e g)
          (call-also asked (read_values (records bs)) _ f _ _ done fact_done
          (call-also asked (read_values (records bs)) _ c _ _ done condition_done
          (call-also asked (read_values (records bs)) _ a _ _ done answers_done
          (ap (λ (x : List ℕ). answered (accepted x) []) values ∙ call_done_none asked (read_values (records bs)) done))))
