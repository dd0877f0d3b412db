-- The turns of the walk's loop: what an audit at a place says of the walk from there on.
-- Assumes nothing.
use mathlib.Core.Path.{◌≡◌, refl, sym, ap, ◌∙◌}
use mathlib.Core.Bool.{Bool, true, false}
use mathlib.Core.List.{List, [], ◌∷◌}
use Prim.Native.Nat.{ℕ, zero, suc, ◌+◌, ◌≤◌, ◌<◌}
use native.Mathlib.Numerals.{add-one}
use native.Mathlib.Omega.{arith}
use lib.Dec.{ltb}
use lib.ListN.{length, drop, length-drop, drop_of_length-le}
use lib.Seq.{drop-drop}
use borrow.Author.Tests.{lt-ltb, ne_eqb, leb-true}
use Rattle.std.proofs.Common.{Result, Ok, Err}
use Rattle.std.specs.Result.{MatchResult, IsErrAnd}
use Rattle.ring.proofs.Bool.{and_left}
use Rattle.tables.specs.declared.Question.{Question}
use Rattle.tables.specs.declared.Question.TheVariants.{Rising}
use Rattle.tables.specs.Questions.{Asked, number, first_no}
use Rattle.tables.specs.Answered.{Reply, accepted, refused, Answered, answered, call}
use Rattle.tables.proofs.FirstNo.{number_some}
use Rattle.tables.proofs.Answered.{reply_accepted, call_stops, call_last_no, call_done_none, call_gives, accepted_is, refused_is}
use Rattle.entry.specs.Record.{bytes}
use Rattle.entry.specs.Held.{records, route_of}
use Rattle.entry.specs.Questions.{route_fits}
use Rattle.entry.proofs.Records.{used_fits}
use Rattle.calls.specs.declared.Heading.{Heading}
use Rattle.calls.specs.declared.Entry.{Entry}
use Rattle.calls.specs.Questions.{fact_questions, record_questions, entry_questions, audit_questions, route_rises, walk_questions}
use Rattle.calls.specs.Entries.{reading, read_values, state_said, audit_call}
use Rattle.calls.specs.Walk.{walk_refusal, at_entry, walk_behind, walk_reply, walk_call}
use Rattle.calls.proofs.Questions.{audit_exactly, walk_exactly}
use Rattle.calls.proofs.Walk.{passed_some, walk_end, walk_on}

-- what the code finds at an entry
abbrev pub walked_at : ℕ → List ℕ → Answered Reply
walked_at before bs = call (walk_questions before (records bs)) (read_values (records bs)) []

-- the heading of an entry that passed
pub record Heads (bs : List ℕ) (h : Heading) : Type 0 where
  pub of_route : h.route ≡ route_of (records bs)
  pub of_used : h.used ≡ length (bytes (records bs))

-- an entry that was read without a no, and one with it
module _ (questions : List Asked) (bs : List ℕ) where
  pub none_no : (r : Entry) → answered (reading (Ok r)) [] ≡ call questions (read_values (records bs)) []
      → (first_no questions ≡ 0) × Heads bs r.heading
  unfolding read_values
  none_no r e =
      let y = accepted_is questions (read_values (records bs)) (call_gives questions (read_values (records bs)) [] e) in
      let values : (r.heading.route ∷ r.heading.unknowns ∷ r.heading.givens ∷ r.heading.used ∷ state_said r.verdict)
      ≡ read_values (records bs) = y.1 in
      (y.0, record { of_route = cc; of_used = cc })

  pub first_no_is : (q : Question) → answered (reading (Err q)) [] ≡ call questions (read_values (records bs)) []
      → first_no questions ≡ number q
  first_no_is q e = (refused_is questions (read_values (records bs)) (call_gives questions (read_values (records bs)) [] e)).0

-- ---- a result behind a change of its error
module _ {A E D : Type 0} (r : Result A E) {s : Result A D} (P : E → D → Type 0)
    (m : MatchResult r (λ x. s ≡ Ok x) (λ e. IsErrAnd s (P e))) where
  pub ok_before : {x : A} → s ≡ Ok x → r ≡ Ok x
  ok_before {x} e = go r m
    where
      go : (r : Result A E) → MatchResult r (λ x. s ≡ Ok x) (λ e. IsErrAnd s (P e)) → r ≡ Ok x
      go (Ok a) m = let f : ◌≡◌ {A = Result A D} (Ok a) (Ok x) = sym m ∙ e in let g : a ≡ x = (cc) in ap Ok g
      go (Err q) m = absurd (rw e at m)

  pub err_before : {y : D} → s ≡ Err y → (q : E) × (r ≡ Err q) × P q y
  err_before {y} e = go r m
    where
      go : (r : Result A E) → MatchResult r (λ x. s ≡ Ok x) (λ e. IsErrAnd s (P e)) → (q : E) × (r ≡ Err q) × P q y
      go (Ok a) m = let f : ◌≡◌ {A = Result A D} (Ok a) (Err y) = sym m ∙ e in let z : ◌≡◌ {A = ℕ} 0 1 = (cc) in absurd (omega arith)
      go (Err q) m = (q, refl, rw e at m)

-- ---- question 15
pub rises : (before route : ℕ) → 0 < route → ltb before route ≡ route_rises before route
unfolding route_rises
rises zero route h = lt-ltb 0 route h
rises (suc before) route h = rw (ne_eqb (suc before) 0 (λ z. omega arith))

-- ---- the audit's questions, then 15
module _ (before : ℕ) (bs : List ℕ) where
  pub refused_first : (q : Question) → answered (reading (Err q)) [] ≡ audit_call bs → answered (reading (Err q)) [] ≡ walked_at before bs
  unfolding walk_questions audit_questions entry_questions record_questions fact_questions
  refused_first q e =
      call_stops (audit_questions (records bs)) _ (read_values (records bs)) [] (number q) refl
      (sym (first_no_is (audit_questions (records bs)) bs q e)) (number_some q)

  module _ (r : Entry) (e : answered (reading (Ok r)) [] ≡ audit_call bs) where
    audited : (first_no (audit_questions (records bs)) ≡ 0) × Heads bs r.heading
    audited = none_no (audit_questions (records bs)) bs r e

    pub some_route : 0 < r.heading.route
    unfolding route_fits
    some_route =
        let passed = ((audit_exactly (records bs)).0 audited.0).0 in
        let one : 1 ≤ route_of (records bs) = leb-true _ _ (and_left _ _ passed.route) in
        rw audited.1.of_route one

    pub refused_rising : {b : Bool} → b ≡ route_rises before r.heading.route → (q : Question) → (q ≡ Rising) × (b ≡ false)
        → answered (reading (Err q)) [] ≡ walked_at before bs
    unfolding walk_questions
    refused_rising eb q f =
        rw f.0
        (call_last_no (audit_questions (records bs)) Rising _ [] (read_values (records bs)) [] audited.0
        (rw (← audited.1.of_route) (sym eb ∙ f.1)))

    pub passed_all : {b : Bool} → b ≡ route_rises before r.heading.route → b ≡ true → answered (reading (Ok r)) [] ≡ walked_at before bs
    passed_all eb f =
        let all = (walk_exactly (records bs) before).1 (audited.0, rw (← audited.1.of_route) (sym eb ∙ f)) in
        ap (λ (x : Reply). answered x []) (call_gives (audit_questions (records bs)) (read_values (records bs)) [] e
        ∙ sym (reply_accepted (audit_questions (records bs)) (read_values (records bs)) audited.0))
        ∙ call_done_none (walk_questions before (records bs)) (read_values (records bs)) all

-- ---- the walk's loop, at a place of the volume
module _ (v : List ℕ) (place at before passed : ℕ) (inv : walk_reply v place ≡ walk_behind before passed (drop at v)) where
  given : {found : Reply} → walk_reply v place ≡ found → answered found [] ≡ walk_call v place
  given e = ap (λ (x : Reply). answered x []) (sym e)

  pub walk_ends : length v ≤ at → answered (accepted (passed ∷ [])) [] ≡ walk_call v place
  walk_ends h = given (inv ∙ rw (drop_of_length-le v h) (walk_end before passed))

  module _ (l : at < length v) where
    on : walk_reply v place
        ≡ at_entry (walk_refusal before (drop at v)) passed
        (walk_behind (route_of (records (drop at v))) (suc passed) (drop (length (bytes (records (drop at v)))) (drop at v)))
    on = inv ∙ walk_on before passed (drop at v) (omega (arith, length-drop at v))

    pub walk_refused : (q : Question) → answered (reading (Err q)) [] ≡ walked_at before (drop at v)
        → answered (refused (number q) (passed ∷ [])) [] ≡ walk_call v place
    walk_refused q e =
        given (on
        ∙ stops (walk_refusal before (drop at v)) _ (first_no_is (walk_questions before (records (drop at v))) (drop at v) q e))
      where
        stops : (found : ℕ) (x : Reply) → found ≡ number q → at_entry found passed x ≡ refused (number q) (passed ∷ [])
        stops zero x f = absurd (number_some q (sym f))
        stops (suc found) x f = rw (← f)

    module _ (r : Entry) (e : answered (reading (Ok r)) [] ≡ walked_at before (drop at v)) where
      given_at : (walk_refusal before (drop at v) ≡ 0) × Heads (drop at v) r.heading
      given_at = none_no (walk_questions before (records (drop at v))) (drop at v) r e

      pub some_used : 0 < r.heading.used
      some_used = rw given_at.1.of_used (passed_some before (records (drop at v)) given_at.0)

      pub used_within : at + r.heading.used ≤ length v
      used_within = rw given_at.1.of_used (omega (arith, used_fits (drop at v), length-drop at v))

      pub walk_passed : walk_reply v place ≡ walk_behind r.heading.route (passed + 1) (drop (at + r.heading.used) v)
      walk_passed = on ∙ rw (given_at.0, ← given_at.1.of_route, ← given_at.1.of_used, add-one passed, drop-drop r.heading.used at v)
