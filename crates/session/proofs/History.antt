-- The laws of histories (document 02, C-12). `history_exactly`: the session after any list of steps is the one that holds the tables of the
-- lists that document 02's words define, the whole session in one equation. It goes step by step, by `each_step`. Then what follows for
-- marks, for solutions and for values, and what holds of every session, also of one that no history made.
-- Assumes nothing.
use mathlib.Core.Path.{◌≡◌, refl, sym, ap, ◌∙◌}
use mathlib.Core.Logic.{◌↔◌}
use mathlib.Core.Bool.{true, false, not, and-false}
use mathlib.Core.List.{List, [], ◌∷◌, ◌++◌, map}
use Prim.Native.Nat.{ℕ, ◌+◌, ◌-◌, ◌^◌}
use lib.Dec.{eqb}
use lib.ListN.{replicate}
use borrow.Author.Tests.{eq-eqb, not-true}
use Rattle.ring.specs.Letters.{point_where}
use Rattle.ring.specs.Polynomial.{Polynomial, value}
use Rattle.ring.specs.Table.{present}
use Rattle.ring.specs.Join.{joined, Member}
use Rattle.ring.proofs.Bool.{and_left, and_right}
use Rattle.ring.proofs.Value.{value_cong}
use Rattle.ring.proofs.Table.{table_cong}
use Rattle.ring.proofs.Join.{one_joined, joined_one, same_members}
use Rattle.std.specs.Prelude.{Result, Ok, Err}
use Rattle.tables.specs.declared.Question.{Question}
use Rattle.tables.specs.Questions.{letters_fit}
use Rattle.tables.proofs.FirstNo.{each_yes}
use Rattle.tables.proofs.Questions.{letters_small, pow_small}
use Rattle.solution.specs.Letters.{Letter, HoldsGivens, Valuation, value_over}
use Rattle.solution.specs.Substitution.{Substitution, put_in, MakesZero}
use Rattle.solution.proofs.Letters.{replaced_value, value-put_in}
use Rattle.solution.proofs.Join.{zero_joined}
use Rattle.calls.specs.Questions.{start_questions, add_questions, is_name, mark_questions, return_questions}
use Rattle.session.specs.declared.Session.{Session}
use Rattle.session.specs.declared.Step.{Step}
use Rattle.session.specs.Session.{new_session, added, marked, returned, outcome_of, stepped, start_step, return_step}
use Rattle.session.specs.History.{Action, adds, marks, returns, History, step_from, session_after, stored}
use Rattle.session.specs.History.{present_list, list_under, leaves_mark, history_questions, list_table, mark_of, session_of}
use Rattle.session.proofs.Tables.{empty_list, present_list_lem, member_map, each_mapped}
use Rattle.session.proofs.Steps.{asked_step, step_after, own_pass, add_passes, add_exactly, mark_exactly, return_asked, return_exactly}
use Rattle.session.proofs.Steps.{passed_or_same}

-- ---- every history
-- 'The session starts with a U and G .. and the empty table': no steps
new_session_lem : (U G : ℕ) → letters_fit U G ≡ true → new_session U G ≡ session_of U G []
unfolding new_session session_of present_list mark_of
new_session_lem U G fits = rw (empty_list (U + G) (pow_small (2 ^ (U + G)) (U + G) refl (letters_small U G fits)))

module _ (U G : ℕ) (fits : letters_fit U G ≡ true) where
  -- a step puts the questions that the history leaves to it, and goes from the session of a history to that of the longer one
  pub each_step : (before : History) (action : Action) → step_from (session_of U G before) action
      ≡ stepped (outcome_of (history_questions (U + G) before action)) (session_of U G (action ∷ before)) (session_of U G before)
  unfolding session_of add_questions mark_questions return_questions history_questions
  each_step before (adds h) = asked_step _ _ _ _ _ _ (own_pass U G before fits) refl (λ z. add_exactly U G before h (add_passes U G before h z))
  each_step before (marks name) = asked_step _ _ _ _ _ _ (own_pass U G before fits) refl (λ z. mark_exactly U G before name (each_yes _ z).0)
  each_step before (returns name) =
      asked_step _ _ _ _ _ _ (own_pass U G before fits) (return_asked U G before name)
      (λ z. return_exactly U G before name (each_yes _ z).0 (each_yes _ z).1.0)

  -- from any start that hands back the new session of U and G
  from_start : (u g : ℕ) → (start_step u g).session ≡ new_session U G → (history : History) → session_after u g history ≡ session_of U G history
  unfolding session_after
  from_start u g e [] = e ∙ new_session_lem U G fits
  from_start u g e (action ∷ before) =
      ap (λ (s : Session). (step_from s action).session) (from_start u g e before) ∙ ap (λ (t : Step). t.session) (each_step before action)
      ∙ step_after _ (session_of U G (action ∷ before)) (session_of U G before) (passed_or_same U G before action)

  -- 'For every list of these steps from a new session, the table is that of the present list as the history defines it': the whole session
  pub history_exactly : (history : History) → session_after U G history ≡ session_of U G history
  unfolding start_questions stepped outcome_of
  history_exactly = from_start U G (rw fits)

  -- the same as `each_step`, of the session after a history
  pub step-answered : (before : History) (action : Action) → step_from (session_after U G before) action
      ≡ stepped (outcome_of (history_questions (U + G) before action)) (session_after U G (action ∷ before)) (session_after U G before)
  step-answered before action = rw (history_exactly before, history_exactly (action ∷ before)) (each_step before action)

-- 'a refused start hands back the new session of U = 0 and G = 0'
pub refused_start : (U G : ℕ) → letters_fit U G ≡ false → (history : History) → session_after U G history ≡ session_of 0 0 history
unfolding letters_fit start_questions stepped outcome_of
refused_start U G f = from_start 0 0 refl U G (rw f)

-- ---- 'tries something and returns'
-- what stands under a name stays there until the name is marked again
mark_kept : (n x : ℕ) (between before : History) → is_name x ≡ true → leaves_mark x between ≡ true
    → list_under n x (between ++ (marks x ∷ before)) ≡ stored (present_list n before)
unfolding leaves_mark list_under
mark_kept n x [] before e l = rw (e, eq-eqb x x refl)
mark_kept n x (adds h ∷ between) before e l = mark_kept n x between before e l
mark_kept n x (marks y ∷ between) before e l =
    let other : eqb y x ≡ false = not-true (eqb y x) (and_left (not (eqb y x)) (leaves_mark x between) l) in
    rw (other, and-false) (mark_kept n x between before e (and_right (not (eqb y x)) (leaves_mark x between) l))
mark_kept n x (returns y ∷ between) before e l = mark_kept n x between before e l

-- 'Returning makes the stored list the present one', whatever was tried in between
pub return_brings_back : (n x : ℕ) (between before : History) → is_name x ≡ true → leaves_mark x between ≡ true
    → present_list n (returns x ∷ (between ++ (marks x ∷ before))) ≡ present_list n before
unfolding present_list
return_brings_back n x between before e l = rw (mark_kept n x between before e l)

-- the same of sessions
pub table_brought_back : (U G x : ℕ) (between before : History) → letters_fit U G ≡ true → is_name x ≡ true → leaves_mark x between ≡ true
    → (session_after U G (returns x ∷ (between ++ (marks x ∷ before)))).table ≡ (session_after U G before).table
unfolding session_of
table_brought_back U G x between before fits e l =
    ap (λ (s : Session). s.table) (history_exactly U G fits (returns x ∷ (between ++ (marks x ∷ before))))
    ∙ ap (list_table (U + G)) (return_brings_back (U + G) x between before e l)
    ∙ sym (ap (λ (s : Session). s.table) (history_exactly U G fits before))

-- ---- any session, also one that no history made
-- what holds of the session after the step and of the one before it holds of what the step hands back
either_way : (P : Session → Type 0) (outcome : Result Unit Question) (after s : Session) → P after → P s → P (stepped outcome after s).session
unfolding stepped
either_way P (Ok done) after s a b = a
either_way P (Err question) after s a b = b

-- 'keeps all marks'
pub return_keeps_marks : (s : Session) (name : ℕ) → (return_step s name).session.marks ≡ s.marks
unfolding returned
return_keeps_marks s name = either_way (λ t. t.marks ≡ s.marks) _ (returned s name) s refl refl

-- t has the letters of s
abbrev HasLetters : Session → Session → Type 0
HasLetters s t = (t.unknowns ≡ s.unknowns) × (t.givens ≡ s.givens)

-- the letters stay those of the start
pub letters_stay : (s : Session) (action : Action)
    → ((step_from s action).session.unknowns ≡ s.unknowns) × ((step_from s action).session.givens ≡ s.givens)
unfolding added marked returned
letters_stay s (adds h) = either_way (HasLetters s) _ (added s h) s (refl, refl) (refl, refl)
letters_stay s (marks name) = either_way (HasLetters s) _ (marked s name) s (refl, refl) (refl, refl)
letters_stay s (returns name) = either_way (HasLetters s) _ (returned s name) s (refl, refl) (refl, refl)

-- a step whose outcome is a question hands back the session before it
refused_before : (question : Question) (outcome : Result Unit Question) (after s : Session) → (stepped outcome after s).outcome ≡ Err question
    → (stepped outcome after s).session ≡ s
unfolding stepped
refused_before question (Ok done) after s e = cc
refused_before question (Err other) after s e = refl

-- 'a refused step changes nothing'
pub refused_unchanged : (s : Session) (action : Action) (question : Question) → (step_from s action).outcome ≡ Err question
    → (step_from s action).session ≡ s
refused_unchanged s (adds h) question e = refused_before question _ (added s h) s e
refused_unchanged s (marks name) question e = refused_before question _ (marked s name) s e
refused_unchanged s (returns name) question e = refused_before question _ (returned s name) s e

-- ---- what the present table says of the present list
module _ (U G : ℕ) (fits : letters_fit U G ≡ true) (history : History) where
  abbrev list : List (List ℕ)
  list = present_list (U + G) history

  -- the present table has the values of the present list's conditions joined
  session_value : (p : ℕ) → value (U + G) (present (session_after U G history).table) p ≡ value (U + G) (joined (U + G) (map present list)) p
  unfolding session_of
  session_value p =
      ap (λ (s : Session). value (U + G) (present s.table) p) (history_exactly U G fits history)
      ∙ value_cong (U + G) _ _ p (present_list_lem (U + G) list)

  -- the present table has the value 1 exactly where a condition of the present list has it
  pub value_of_session : (p : ℕ) → value (U + G) (present (session_after U G history).table) p ≡ true
      ↔ ((h : List ℕ) × (Member h (present_list (U + G) history) × (value (U + G) (present h) p ≡ true)))
  value_of_session p = (forth, λ (h, (m, o)). session_value p ∙ one_joined (U + G) p (member_map present m) o)
    where
      forth : value (U + G) (present (session_after U G history).table) p ≡ true
          → (h : List ℕ) × (Member h list × (value (U + G) (present h) p ≡ true))
      forth e =
          let (k, (m, o)) = joined_one (U + G) (map present list) p (sym (session_value p) ∙ e) in
          each_mapped present list (λ f. value (U + G) f p ≡ true → (h : List ℕ) × (Member h list × (value (U + G) (present h) p ≡ true)))
          (λ h i x. (h, (i, x))) k m o

  -- a substitution makes the present table zero exactly if it makes every condition of the present list zero
  pub solves_each : (L : List Letter) → HoldsGivens G L → (σ : Substitution)
      → MakesZero U G (present (session_after U G history).table) L σ
      ↔ ((h : List ℕ) → Member h (present_list (U + G) history) → MakesZero U G (present h) L σ)
  solves_each L holds σ =
      let all = zero_joined U G L holds σ (map present list) in (
        λ z h m. all.0 (λ v. sym (same v) ∙ z v) (present h) (member_map present m),
        λ z v. same v ∙ all.1 (each_mapped present list (λ f. MakesZero U G f L σ) z) v,
      )
    where
      -- what is put in has the value of the table, or of the join, at one point
      same : (v : Valuation) → value_over L (put_in U G L (present (session_after U G history).table) σ) v
          ≡ value_over L (put_in U G L (joined (U + G) (map present list)) σ) v
      same v =
          value-put_in U G L holds _ σ v
          ∙ session_value (point_where (U + G) (replaced_value U L σ v))
          ∙ sym (value-put_in U G L holds (joined (U + G) (map present list)) σ v)

-- the order of adding plays no part and adding twice adds nothing: present lists with the same members have the same table
pub same_present : (U G : ℕ) → letters_fit U G ≡ true → (one other : History)
    → ((h : List ℕ) → Member h (present_list (U + G) one) → Member h (present_list (U + G) other))
    → ((h : List ℕ) → Member h (present_list (U + G) other) → Member h (present_list (U + G) one))
    → (session_after U G one).table ≡ (session_after U G other).table
unfolding session_of list_table
same_present U G fits one other forth back =
    ap (λ (s : Session). s.table) (history_exactly U G fits one)
    ∙ ap (λ (t : List ℕ). t ++ replicate (1024 - 2 ^ (U + G)) 0)
    (table_cong (U + G) _ _ (same_members (U + G) _ _ (mapped one other forth) (mapped other one back)))
    ∙ sym (ap (λ (s : Session). s.table) (history_exactly U G fits other))
  where
    mapped : (from to : History) → ((h : List ℕ) → Member h (present_list (U + G) from) → Member h (present_list (U + G) to))
        → (f : Polynomial) → Member f (map present (present_list (U + G) from)) → Member f (map present (present_list (U + G) to))
    mapped from to m =
        each_mapped present (present_list (U + G) from) (λ f. Member f (map present (present_list (U + G) to))) (λ h i. member_map present (m h i))
