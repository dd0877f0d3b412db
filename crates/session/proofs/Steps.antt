-- A step behind a history (document 02, C-12): the session of the history passes its own questions, and the step, where it is not refused, turns
-- it into the session of the longer history (`add_exactly`, `mark_exactly`, `return_exactly`); where it is refused the two are one
-- (`passed_or_same`).
-- Assumes nothing.
use mathlib.Core.Path.{◌≡◌, refl, sym, ap, ◌∙◌}
use mathlib.Core.Logic.{◌⊎◌, inl, inr}
use mathlib.Core.Bool.{true, false}
use mathlib.Core.List.{List, [], ◌∷◌, ◌++◌}
use Prim.Native.Nat.{ℕ, ◌+◌, ◌^◌}
use lib.ListN.{length}
use Rattle.ring.proofs.Bool.{and_left, and_right, bool_cases, both, never}
use Rattle.std.specs.Prelude.{Result}
use Rattle.tables.specs.declared.Question.{Question}
use Rattle.tables.specs.declared.Question.TheVariants.{Name, Marked}
use Rattle.tables.specs.Questions.{Asked, asks, asks_giving, reads, first_no, letters_fit, has_room, holds_bits, room_questions, bit_questions, buffer_questions}
use Rattle.tables.proofs.FirstNo.{number_some, each_yes, none_no}
use Rattle.calls.specs.Questions.{session_questions, is_name}
use Rattle.session.specs.declared.Session.{Session}
use Rattle.session.specs.Session.{unmarked, under, asked_tables, added, marked, returned, outcome_of, stepped}
use Rattle.session.specs.History.{Action, adds, marks, returns, History, Stored, nothing, stored, or_else}
use Rattle.session.specs.History.{is_condition, present_list, list_under, is_stored, history_questions, list_table, mark_of, session_of}
use Rattle.session.proofs.Outcomes.{outcome_behind}
use Rattle.session.proofs.Tables.{each_name, other_name, list_bits, list_added, marks_pass}

-- ---- steps
-- questions in front that are all answered yes play no part; nor does what a step would make of the session where it is refused
pub asked_step : (own further asked : List Asked) (after after' s : Session) → first_no own ≡ 0 → outcome_of further ≡ outcome_of asked
    → (first_no asked ≡ 0 → after ≡ after')
    → stepped (outcome_of (own ++ further)) after s ≡ stepped (outcome_of asked) after' s
unfolding stepped outcome_of first_no
asked_step own further asked after after' s z e h =
    ap (λ (r : Result Unit Question). stepped r after s) (outcome_behind own further z ∙ e) ∙ go asked h
  where
    go : (qs : List Asked) → (first_no qs ≡ 0 → after ≡ after') → stepped (outcome_of qs) after s ≡ stepped (outcome_of qs) after' s
    go [] f = rw (f refl)
    go (asks_giving question true given ∷ rest) f = go rest f
    go (asks_giving question false given ∷ rest) f = refl

-- where a refused step would leave the session as it is, the session is the one after the step either way
pub step_after : (asked : List Asked) (after s : Session) → (first_no asked ≡ 0) ⊎ (after ≡ s)
    → (stepped (outcome_of asked) after s).session ≡ after
unfolding stepped outcome_of first_no
step_after [] after s e = refl
step_after (asks_giving question true given ∷ rest) after s e = step_after rest after s e
step_after (asks_giving question false given ∷ rest) after s (inl e) = absurd (number_some question e)
step_after (asks_giving question false given ∷ rest) after s (inr e) = sym e

-- ---- what stands under a name
-- the name is marked exactly if a list is stored ..
mark_set : (n : ℕ) (l : Stored) → (mark_of n l).set ≡ is_stored l
unfolding mark_of unmarked
mark_set n nothing = refl
mark_set n (stored list) = refl

-- .. and then its table is that of the list
mark_table : (n : ℕ) (l : Stored) (other : List (List ℕ)) → is_stored l ≡ true → (mark_of n l).table ≡ list_table n (or_else l other)
unfolding mark_of
mark_table n nothing other e = never e refl
mark_table n (stored list) other e = refl

-- else nothing is
not_stored : (l : Stored) → is_stored l ≡ false → l ≡ nothing
not_stored nothing e = refl
not_stored (stored list) e = never refl e

-- ---- a step behind a history
module _ (U G : ℕ) (before : History) where
  -- 'every step first puts 1 and 8 to the session handed in': that of a history passes them
  pub own_pass : letters_fit U G ≡ true → first_no (session_questions U G (asked_tables (session_of U G before))) ≡ 0
  unfolding first_no session_questions bit_questions session_of
  own_pass fits =
      rw (fits, list_bits (U + G) (present_list (U + G) before))
      (marks_pass (U + G) (λ name. list_under (U + G) name before) (65 ∷ 66 ∷ 67 ∷ 68 ∷ []))

  -- what the session holds under a name
  under_name : (name : ℕ) → is_name name ≡ true → under (session_of U G before) name ≡ mark_of (U + G) (list_under (U + G) name before)
  unfolding under session_of
  under_name =
      each_name (λ name. under (session_of U G before) name ≡ mark_of (U + G) (list_under (U + G) name before)) refl refl refl refl

  -- adding: 'under 4 and 8'
  pub add_passes : (h : List ℕ) → first_no (history_questions (U + G) before (adds h)) ≡ 0 → is_condition (U + G) h ≡ true
  unfolding history_questions buffer_questions room_questions bit_questions is_condition
  add_passes h z = let yes_all = each_yes _ z in both yes_all.0 yes_all.1.0

  -- 'turns f into f + h + f*h'
  pub add_exactly : (h : List ℕ) → is_condition (U + G) h ≡ true → added (session_of U G before) h ≡ session_of U G (adds h ∷ before)
  unfolding added session_of present_list
  add_exactly h e = rw (e, list_added (U + G) (present_list (U + G) before) h)

  -- 'Marking stores the present list of added conditions under the name, over any earlier one'
  pub mark_exactly : (name : ℕ) → is_name name ≡ true → marked (session_of U G before) name ≡ session_of U G (marks name ∷ before)
  unfolding marked session_of present_list mark_of is_name
  mark_exactly = each_name (λ name. marked (session_of U G before) name ≡ session_of U G (marks name ∷ before)) refl refl refl refl

  -- returning: 19 is asked of a name alone
  pub return_asked : (name : ℕ) → outcome_of (asks Name (is_name name) ∷ asks Marked (under (session_of U G before) name).set ∷ [])
      ≡ outcome_of (history_questions (U + G) before (returns name))
  unfolding history_questions outcome_of
  return_asked name = go (bool_cases (is_name name))
    where
      go : (is_name name ≡ true) ⊎ (is_name name ≡ false)
          → outcome_of (asks Name (is_name name) ∷ asks Marked (under (session_of U G before) name).set ∷ [])
          ≡ outcome_of (asks Name (is_name name) ∷ asks Marked (is_stored (list_under (U + G) name before)) ∷ [])
      go (inl e) = rw (under_name name e, mark_set (U + G) (list_under (U + G) name before))
      go (inr e) = rw e

  -- 'Returning makes the stored list the present one and keeps all marks'
  pub return_exactly : (name : ℕ) → is_name name ≡ true → is_stored (list_under (U + G) name before) ≡ true
      → returned (session_of U G before) name ≡ session_of U G (returns name ∷ before)
  unfolding returned session_of present_list
  return_exactly name e f = rw (under_name name e, mark_table (U + G) (list_under (U + G) name before) (present_list (U + G) before) f)

  -- 'a refused step changes nothing': a step is passed, or the session of the longer history is that of the history
  pub passed_or_same : (action : Action)
      → (first_no (history_questions (U + G) before action) ≡ 0) ⊎ (session_of U G (action ∷ before) ≡ session_of U G before)
  unfolding session_of present_list history_questions buffer_questions room_questions bit_questions is_condition
  passed_or_same (adds h) = go (bool_cases (is_condition (U + G) h))
    where
      go : (is_condition (U + G) h ≡ true) ⊎ (is_condition (U + G) h ≡ false)
          → (first_no (buffer_questions (reads (2 ^ (U + G)) h ∷ [])) ≡ 0) ⊎ (session_of U G (adds h ∷ before) ≡ session_of U G before)
      go (inl e) = inl (none_no _ (and_left _ (holds_bits (2 ^ (U + G)) h) e, (and_right (has_room (2 ^ (U + G)) (length h)) _ e, tt)))
      go (inr e) = inr (rw e)
  passed_or_same (marks name) = go (bool_cases (is_name name))
    where
      go : (is_name name ≡ true) ⊎ (is_name name ≡ false)
          → (first_no (asks Name (is_name name) ∷ []) ≡ 0) ⊎ (session_of U G (marks name ∷ before) ≡ session_of U G before)
      go (inl e) = inl (none_no _ (e, tt))
      go (inr e) = inr (rw e)
  passed_or_same (returns name) = go (bool_cases (is_name name)) (bool_cases (is_stored (list_under (U + G) name before)))
    where
      go : (is_name name ≡ true) ⊎ (is_name name ≡ false)
          → (is_stored (list_under (U + G) name before) ≡ true) ⊎ (is_stored (list_under (U + G) name before) ≡ false)
          → (first_no (asks Name (is_name name) ∷ asks Marked (is_stored (list_under (U + G) name before)) ∷ []) ≡ 0)
          ⊎ (session_of U G (returns name ∷ before) ≡ session_of U G before)
      go (inl e) (inl f) = inl (none_no _ (e, (f, tt)))
      go (inl e) (inr f) = inr (rw (not_stored (list_under (U + G) name before) f))
      go (inr e) f = inr (rw (other_name (U + G) name before e))
