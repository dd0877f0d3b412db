-- What has been gathered answers the questions: 11 where there is an end, 12 where the letters fit, and what is said in any case. What the
-- first record and the second say.
-- Assumes nothing.
use mathlib.Core.Path.{◌≡◌, refl, sym, ap, ◌∙◌}
use mathlib.Core.Bool.{Bool, true, false, cond, ◌&&◌, and-true, and_assoc}
use mathlib.Core.List.{List, [], ◌∷◌}
use mathlib.Core.Logic.{◌⊎◌, inl, inr}
use Prim.Native.Nat.{ℕ, zero, suc, ◌+◌, ◌-◌, ◌≤◌, ◌<◌}
use native.Mathlib.Nat.{zero-add}
use native.Mathlib.Omega.{arith}
use lib.Dec.{eqb, ltb}
use lib.ListN.{length, get_or, take, drop}
use lib.Seq.{get_or-take}
use borrow.Author.Tests.{ltb-true, eqb-false, eq-eqb, ne_eqb}
use Rattle.std.proofs.Common.{Option, None, Some, Result, Ok, Err}
use Rattle.std.specs.Result.{MatchResult, result_ok}
use Rattle.std.proofs.lemmas.Option.{MatchOption-at_some}
use Rattle.std.proofs.lemmas.Bool.{cases_lt}
use Rattle.std.specs.Option.{MatchOption, IfSome, option_or, unwrap_or}
use Rattle.ring.specs.declared.State.{State}
use Rattle.ring.specs.Polynomial.{every_below}
use Rattle.ring.specs.Lists.{has}
use Rattle.ring.proofs.Bool.{bool_cases, never, and_left, and_right}
use Rattle.tables.specs.declared.Letters.{Letters}
use Rattle.tables.specs.declared.Question.{Question}
use Rattle.tables.specs.declared.Question.TheVariants as questions
use Rattle.tables.specs.Questions.{number, first_no, letters_fit}
use Rattle.tables.specs.Inner.Passed.{NoneNo, IsFirstNo, AreLetters}
use Rattle.tables.proofs.FirstNo.{number_some, first_counts}
use Rattle.tables.proofs.Questions.{letters_small}
use Rattle.solution.specs.Order.{default_bytes, order_fits}
use Rattle.solution.specs.Elimination.{none}
use Rattle.entry.specs.Record.{Record, route_field, unknowns_field, givens_field, state_field, bytes, kind, value_of, is_end, is_none, is_order}
use Rattle.entry.specs.Record.{size, fields, widths, among, in_bounds}
use Rattle.entry.specs.Held.{next, records, first, second, route_of, unknowns_of, givens_of, order_in, unless_none, held_verdict}
use Rattle.entry.specs.Questions.{has_end, followers, may_follow, kinds_follow, kinds_fit, numbers_fit}
use Rattle.entry.specs.Inner.Places.{place_of, stands_behind, fits_behind}
use Rattle.entry.proofs.Fields.{start_route, start_unknowns, start_givens, end_route, lacks, lacking}
use Rattle.entry.proofs.Records.{first_next, there, here_none}
use Rattle.entry.proofs.Canonical.{ends_there, records_end, is_empty}
use Rattle.entry.proofs.Places.{numbers_by_places}
use Rattle.calls.specs.Questions.{record_questions, entry_questions}
use Rattle.calls.specs.declared.Heading.{Heading}
use Rattle.calls.specs.declared.Verdict.{Verdict}
use Rattle.calls.specs.declared.Verdict.TheVariants as verdicts
use Rattle.records.specs.declared.kinds.Kind.{Kind}
use Rattle.records.specs.declared.kinds.Kind.TheVariants as kinds
use Rattle.records.specs.declared.Seen.{Seen}
use Rattle.records.specs.declared.Gathered.{Gathered}
use Rattle.records.specs.declared.Bounds.{Bounds}
use Rattle.records.specs.Inner.Kinds.{byte_of, kind_of, byte_before, Stands, stands}
use Rattle.records.specs.Inner.Headings.{length_used, start_of, order_behind, heading_of, said}
use Rattle.records.specs.Inner.Gathering.{seen_record, seen_all, nothing_seen, gathered, said_by, gathered_questions, AsksEntry, IsSurvey, IsRefused}
use Rattle.records.specs.Inner.Filling.{Passed}
use Rattle.records.proofs.Standing.{byte_known, sized, lent, here_end, here_more}

-- ---- question 11
-- a byte that is no kind follows none
all_known : List ℕ → Bool
all_known [] = true
all_known (k ∷ ks) = ltb k 8 && all_known ks

rows_known : List (List ℕ) → Bool
rows_known [] = true
rows_known (ks ∷ rows) = all_known ks && rows_known rows

unknown_in : (k : ℕ) → 8 ≤ k → (ks : List ℕ) → all_known ks ≡ true → has k ks ≡ false
unfolding all_known has
unknown_in k h [] e = refl
unknown_in k h (l ∷ ks) e =
    let b : l < 8 = ltb-true l 8 (and_left (ltb l 8) (all_known ks) e) in
    rw (ne_eqb k l (λ f. omega arith), unknown_in k h ks (and_right (ltb l 8) (all_known ks) e))

unknown_row : (rows : List (List ℕ)) (p : ℕ) → rows_known rows ≡ true → all_known (get_or rows p []) ≡ true
unfolding rows_known all_known
unknown_row [] p e = refl
unknown_row (ks ∷ rows) zero e = and_left (all_known ks) (rows_known rows) e
unknown_row (ks ∷ rows) (suc p) e = unknown_row rows p (and_right (all_known ks) (rows_known rows) e)

unknown_none : (p k : ℕ) → 8 ≤ k → may_follow p k ≡ false
unfolding may_follow rows_known all_known
unknown_none zero k h = ne_eqb k 1 (λ f. omega arith)
unknown_none (suc p) k h = unknown_in k h (get_or followers p []) (unknown_row followers p refl)

module _ (route U G : ℕ) where
  turn : (a b c : Bool) → ((a && (b && true)) && c) ≡ (a && (b && c))
  turn false b c = refl
  turn true false c = refl
  turn true true c = refl

  -- the kind that is known of a record is that of its byte, where the record may follow at all
  kind_told : (p k : ℕ) (e : Bool) (c : Bool) (rs : List Record)
      → (may_follow p k && cond e c (kinds_follow (byte_before (kind_of k)) route rs)) ≡ (may_follow p k && cond e c (kinds_follow k route rs))
  kind_told p k e c rs = go (cases_lt k 8)
    where
      go : (k < 8) ⊎ (8 ≤ k)
          → (may_follow p k && cond e c (kinds_follow (byte_before (kind_of k)) route rs)) ≡ (may_follow p k && cond e c (kinds_follow k route rs))
      go (inl l) = rw (byte_known k l)
      go (inr l) = rw (unknown_none p k l)

  kinds_all : (x : Seen) (rs : List Record) → ends_there rs ≡ true → has_end rs ≡ true
      → (seen_all route U G x rs).kinds ≡ (x.kinds && kinds_follow (byte_before x.kind) route rs)
  unfolding seen_all kinds_follow ends_there has_end seen_record
  kinds_all x [] e h = never h refl
  kinds_all x (r ∷ rs) e h =
      go (bool_cases (is_end r)) (kinds_all (seen_record route U G x r) rs)
      ∙ ap (λ (b : Bool). x.kinds && b) (kind_told p (kind r) (is_end r) (eqb (value_of route_field r) route) rs)
    where
      p : ℕ
      p = byte_before x.kind

      on : ℕ
      on = byte_before (kind_of (kind r))

      All : List Record → Type 0
      All ss =
          (seen_all route U G (seen_record route U G x r) ss).kinds
          ≡ (x.kinds && (may_follow p (kind r) && cond (is_end r) (eqb (value_of route_field r) route) (kinds_follow on route ss)))

      alone : is_end r ≡ true → (ss : List Record) → is_empty ss ≡ true → All ss
      alone f [] z = rw f
      alone f (s ∷ ss) z = never z refl

      go : (is_end r ≡ true) ⊎ (is_end r ≡ false)
          → (ends_there rs ≡ true → has_end rs ≡ true
          → (seen_all route U G (seen_record route U G x r) rs).kinds
          ≡ ((x.kinds && (may_follow p (kind r) && cond (is_end r) (eqb (value_of route_field r) route) true)) && kinds_follow on route rs))
          → All rs
      go (inl f) ih = alone f rs (rw f at e)
      go (inr f) ih = ih (rw f at e) (rw f at h) ∙ rw f (turn x.kinds (may_follow p (kind r)) (kinds_follow on route rs))

-- ---- question 12
numbers_all : (route U G : ℕ) (x : Seen) (rs : List Record) → (seen_all route U G x rs).numbers ≡ (x.numbers && fits_behind U G x.place rs)
unfolding seen_all fits_behind seen_record
numbers_all route U G x [] = sym (and-true x.numbers)
numbers_all route U G x (r ∷ rs) = numbers_all route U G (seen_record route U G x r) rs ∙ go (in_bounds U G r) x.numbers
  where
    go : (b a : Bool) → ((a && (b && stands_behind x.place (place_of r))) && fits_behind U G (cond b (place_of r) 0) rs)
        ≡ (a && (b && (stands_behind x.place (place_of r) && fits_behind U G (place_of r) rs)))
    go true a = and_assoc a (stands_behind x.place (place_of r)) (fits_behind U G (place_of r) rs)
    go false true = refl
    go false false = refl

-- ---- solved or 'none': the first kind 5 counts, and what stands for the answers plays no part
or_else : Verdict → Verdict → Verdict
or_else verdicts.Solved v = v
or_else (verdicts.None state) v = verdicts.None state

said_all : {A : Type 0} (a : A) (route U G : ℕ) (x : Seen) (rs : List Record)
    → said_by (seen_all route U G x rs).none ≡ or_else (said_by x.none) (said (unless_none a rs))
unfolding seen_all unless_none seen_record or_else
said_all a route U G x [] = last x.none
  where
    last : (o : Option State) → said_by o ≡ or_else (said_by o) verdicts.Solved
    last None = refl
    last (Some state) = refl
said_all a route U G x (r ∷ rs) = said_all a route U G (seen_record route U G x r) rs ∙ go x.none (is_none r)
  where
    go : (o : Option State) (b : Bool)
        → or_else (said_by (cond b (option_or o (Some (record { 0 = value_of state_field r }))) o)) (said (unless_none a rs))
        ≡ or_else (said_by o) (said (cond b (none (record { 0 = value_of state_field r })) (unless_none a rs)))
    go None true = refl
    go None false = refl
    go (Some state) true = refl
    go (Some state) false = refl

-- ---- the first no
-- the letters that question 1 lets through, and those of the bounds
pub record Asks1 (U G : ℕ) (asked : Option Letters) (bounding : Letters) : Type 0 where
  pub told : MatchOption asked (letters_fit U G ≡ false) (λ l. AreLetters U G l × (letters_fit U G ≡ true))
  pub bounds : MatchOption asked ((bounding.unknowns ≡ 0) × (bounding.givens ≡ 0)) (λ l. bounding ≡ l)

module _ (rs : List Record) (ends : ends_there rs ≡ true) {asked : Option Letters} {b : Letters}
    (a : Asks1 (unknowns_of rs) (givens_of rs) asked b) {in_order : Bool} (eo : in_order ≡ order_fits (unknowns_of rs) (order_in rs)) where
  abbrev pub all : Gathered
  all = gathered (route_of rs) b.unknowns b.givens rs

  kinds_answered : has_end rs ≡ true → all.seen.kinds ≡ kinds_fit rs
  unfolding gathered kinds_fit
  kinds_answered h = kinds_all (route_of rs) b.unknowns b.givens nothing_seen rs ends h

  numbers : AreLetters (unknowns_of rs) (givens_of rs) b → letters_fit (unknowns_of rs) (givens_of rs) ≡ true → all.seen.numbers ≡ numbers_fit rs
  unfolding gathered numbers_fit
  numbers are f =
      numbers_all (route_of rs) b.unknowns b.givens nothing_seen rs
      ∙ rw (are.unknowns, are.givens) (numbers_by_places (unknowns_of rs) (givens_of rs) (letters_small (unknowns_of rs) (givens_of rs) f) rs)

  used : has_end rs ≡ true → all.used ≡ Some (length (bytes rs))
  unfolding gathered length_used
  used h = rw h

  unused : has_end rs ≡ false → all.used ≡ None
  unfolding gathered length_used
  unused h = rw h

  pub first_no_lem : first_no (gathered_questions all asked (route_of rs) in_order) ≡ first_no (record_questions rs)
  unfolding first_no record_questions
  first_no_lem = go (bool_cases (has_end rs)) asked a.told a.bounds
    where
      go : (has_end rs ≡ true) ⊎ (has_end rs ≡ false) → (o : Option Letters)
          → MatchOption o (letters_fit (unknowns_of rs) (givens_of rs) ≡ false)
          (λ l. AreLetters (unknowns_of rs) (givens_of rs) l × (letters_fit (unknowns_of rs) (givens_of rs) ≡ true))
          → MatchOption o ((b.unknowns ≡ 0) × (b.givens ≡ 0)) (λ l. b ≡ l)
          → first_no (gathered_questions all o (route_of rs) in_order) ≡ first_no (record_questions rs)
      go (inr h) o t e = rw (unused h, h)
      go (inl h) None t e = rw (used h, kinds_answered h, h, t)
      go (inl h) (Some l) t e = rw (used h, kinds_answered h, numbers (rw e t.0) t.1, h, t.1, ← eo)

  -- and what is told where there is none
  pub used_whole : {n : ℕ} → all.used ≡ Some n → n ≡ length (bytes rs)
  used_whole {n} e = go (bool_cases (has_end rs))
    where
      go : (has_end rs ≡ true) ⊎ (has_end rs ≡ false) → n ≡ length (bytes rs)
      go (inl h) = let f : Some n ≡ Some (length (bytes rs)) = sym e ∙ used h in (cc)
      go (inr h) = let f : Some n ≡ None = sym e ∙ unused h in let z : ◌≡◌ {A = ℕ} 0 1 = (cc) in absurd (omega arith)

  -- and what is told whatever they answer
  pub used_or_none : unwrap_or all.used 0 ≡ cond (has_end rs) (length (bytes rs)) 0
  used_or_none = go (bool_cases (has_end rs))
    where
      go : (has_end rs ≡ true) ⊎ (has_end rs ≡ false) → unwrap_or all.used 0 ≡ cond (has_end rs) (length (bytes rs)) 0
      go (inl h) = rw (used h, h)
      go (inr h) = rw (unused h, h)

  pub verdict-is : {v : Verdict} → v ≡ said_by all.seen.none → v ≡ said (held_verdict rs)
  unfolding gathered held_verdict or_else
  verdict-is ev = ev ∙ said_all _ (route_of rs) b.unknowns b.givens nothing_seen rs

-- ---- what the first record says
module _ (bs : List ℕ) where
  first_is : first (records bs) ≡ next bs
  first_is = first_next bs

  module _ (k : Kind) (st : Stands bs 0 k) where
    byte_there : (i : ℕ) → i < size (byte_of k) → get_or bs i 0 ≡ get_or (next bs) i 0
    byte_there i h = sym (ap (λ (r : Record). get_or r i 0) (there bs 0 (sized bs 0 k st)) ∙ get_or-take _ bs i 0 h)

  pub start_says : Stands bs 0 kinds.Start → {u g : ℕ} → u ≡ get_or bs 2 0 → g ≡ get_or bs 3 0
      → record { route = get_or bs 1 0; unknowns = u; givens = g; used = 0 } ≡ start_of (records bs)
  unfolding size fields widths
  start_says st eu eg =
      rw (
        eu,
        eg,
        byte_there kinds.Start st 1 (omega arith),
        byte_there kinds.Start st 2 (omega arith),
        byte_there kinds.Start st 3 (omega arith),
        first_is,
        start_route (next bs) st.is,
        start_unknowns (next bs) st.is,
        start_givens (next bs) st.is,
      )

  no_unknowns : (kind (next bs) ≡ 1 → ⊥) → value_of unknowns_field (next bs) ≡ 0
  unfolding every_below among fields has
  no_unknowns n = lacking unknowns_field (next bs) (lacks unknowns_field (1 ∷ []) refl (kind (next bs)) (rw (ne_eqb (kind (next bs)) 1 n)))

  no_givens : (kind (next bs) ≡ 1 → ⊥) → value_of givens_field (next bs) ≡ 0
  unfolding every_below among fields has
  no_givens n = lacking givens_field (next bs) (lacks givens_field (1 ∷ []) refl (kind (next bs)) (rw (ne_eqb (kind (next bs)) 1 n)))

  no_route : (kind (next bs) ≡ 1 → ⊥) → (kind (next bs) ≡ 4 → ⊥) → value_of route_field (next bs) ≡ 0
  unfolding every_below among fields has
  no_route n m =
      lacking route_field (next bs)
      (lacks route_field (1 ∷ 4 ∷ []) refl (kind (next bs)) (rw (ne_eqb (kind (next bs)) 1 n, ne_eqb (kind (next bs)) 4 m)))

  module _ (n : stands bs 0 kinds.Start ≡ false) where
    pub end_says : Stands bs 0 kinds.End → record { route = get_or bs 1 0; unknowns = 0; givens = 0; used = 0 } ≡ start_of (records bs)
    unfolding size fields widths
    end_says st =
        rw (
          byte_there kinds.End st 1 (omega arith),
          first_is,
          end_route (next bs) st.is,
          no_unknowns (eqb-false _ _ n),
          no_givens (eqb-false _ _ n),
        )

    pub nothing_said : stands bs 0 kinds.End ≡ false → record { route = 0; unknowns = 0; givens = 0; used = 0 } ≡ start_of (records bs)
    nothing_said m =
        rw (first_is, no_unknowns (eqb-false _ _ n), no_givens (eqb-false _ _ n), no_route (eqb-false _ _ n) (eqb-false _ _ m))

-- ---- the order
module _ (U : ℕ) (bs : List ℕ) where
  no_second : second (records bs) ≡ [] → {o : List ℕ} → o ≡ default_bytes U → o ≡ order_behind U (records bs)
  unfolding order_behind kind
  no_second e eo = eo ∙ rw e

  pub order_no_first : length (next bs) ≡ 0 → {o : List ℕ} → o ≡ default_bytes U → o ≡ order_behind U (records bs)
  order_no_first z = no_second (ap second (here_none bs 0 refl z))

  module _ (k : Kind) (st : Stands bs 0 k) where
    pub order_first_ends : k ≡ kinds.End → {o : List ℕ} → o ≡ default_bytes U → o ≡ order_behind U (records bs)
    order_first_ends e = no_second (ap second (here_end bs 0 k st e))

    module _ (more : k ≡ kinds.End → ⊥) {at : ℕ} (ea : at ≡ size (byte_of k)) where
      second_is : second (records bs) ≡ next (drop at bs)
      second_is = ap second (here_more bs 0 k st more) ∙ rw (zero-add (size (byte_of k)), ← ea) (first_next (drop at bs))

      pub order_other : stands bs at kinds.Order ≡ false → {o : List ℕ} → o ≡ default_bytes U → o ≡ order_behind U (records bs)
      unfolding order_behind
      order_other n eo = eo ∙ rw (second_is, n)

      pub order_there : Stands bs at kinds.Order → {behind : ℕ} → behind ≡ at + size (byte_of kinds.Order) → {o : List ℕ}
          → o ≡ drop 1 (take (behind - at) (drop at bs))
          → o ≡ order_behind U (records bs)
      unfolding order_behind
      order_there six eb eo =
          let f : is_order (next (drop at bs)) ≡ true = eq-eqb _ 6 six.is in eo ∙ rw (lent bs at kinds.Order six eb, second_is, f)

-- ---- the survey
module _ (bs : List ℕ) {h : Heading} (eh : h ≡ start_of (records bs)) (r : Result Letters Question)
    (er : MatchResult r (λ l. (l.unknowns ≡ h.unknowns) × (l.givens ≡ h.givens) × (letters_fit h.unknowns h.givens ≡ true))
    (λ q. (q ≡ questions.Letters) × (letters_fit h.unknowns h.givens ≡ false))) {asked : Option Letters} (ea : asked ≡ result_ok r)
    {b : Letters} (eb : MatchOption asked ((b.unknowns ≡ 0) × (b.givens ≡ 0)) (λ l. b ≡ l)) (bounds : Bounds)
    (en : (bounds.route ≡ h.route) × (bounds.letters ≡ b)) {x : Gathered}
    (ex : x ≡ gathered bounds.route bounds.letters.unknowns bounds.letters.givens (records bs)) {o : List ℕ}
    (eo : o ≡ order_behind h.unknowns (records bs)) {in_order : Bool} (ei : in_order ≡ order_fits h.unknowns o) where
  asked_told : MatchOption asked (letters_fit (unknowns_of (records bs)) (givens_of (records bs)) ≡ false)
      (λ l. AreLetters (unknowns_of (records bs)) (givens_of (records bs)) l
      × (letters_fit (unknowns_of (records bs)) (givens_of (records bs)) ≡ true))
  asked_told = rw ea (go r er)
    where
      go : (r : Result Letters Question)
          → MatchResult r (λ l. (l.unknowns ≡ h.unknowns) × (l.givens ≡ h.givens) × (letters_fit h.unknowns h.givens ≡ true))
          (λ q. (q ≡ questions.Letters) × (letters_fit h.unknowns h.givens ≡ false))
          → MatchOption (result_ok r) (letters_fit (unknowns_of (records bs)) (givens_of (records bs)) ≡ false)
          (λ l. AreLetters (unknowns_of (records bs)) (givens_of (records bs)) l
          × (letters_fit (unknowns_of (records bs)) (givens_of (records bs)) ≡ true))
      go (Ok l) e = (record { unknowns = e.0 ∙ rw eh; givens = e.1 ∙ rw eh }, rw eh at e.2)
      go (Err q) e = rw eh at e.1

  order_is : o ≡ order_in (records bs)
  unfolding order_behind order_in
  order_is = eo ∙ rw eh

  ordered : in_order ≡ order_fits (unknowns_of (records bs)) (order_in (records bs))
  ordered = ei ∙ rw (order_is, eh)

  asks : Asks1 (unknowns_of (records bs)) (givens_of (records bs)) asked b
  asks = record { told = asked_told; bounds = eb }

  over : x ≡ all (records bs) (records_end bs) asks ordered
  over = ex ∙ rw (en.0, en.1, eh)

  first_is_no : first_no (gathered_questions x asked h.route in_order) ≡ first_no (record_questions (records bs))
  first_is_no = rw (over, eh) (first_no_lem (records bs) (records_end bs) asks ordered)

  own_letters : IfSome asked (AreLetters (unknowns_of (records bs)) (givens_of (records bs)))
  own_letters = go asked asked_told
    where
      go : (o : Option Letters)
          → MatchOption o (letters_fit (unknowns_of (records bs)) (givens_of (records bs)) ≡ false)
          (λ l. AreLetters (unknowns_of (records bs)) (givens_of (records bs)) l
          × (letters_fit (unknowns_of (records bs)) (givens_of (records bs)) ≡ true))
          → IfSome o (AreLetters (unknowns_of (records bs)) (givens_of (records bs)))
      go None t = tt
      go (Some l) t = t.0

  pub asks_entry : AsksEntry (records bs) x asked h.route in_order
  asks_entry = record { same = first_is_no; letters_are = own_letters }

  -- whatever is answered
  heading_is : {n : ℕ} → n ≡ unwrap_or x.used 0
      → record { route = h.route; unknowns = h.unknowns; givens = h.givens; used = n } ≡ heading_of (records bs)
  unfolding heading_of
  heading_is eu =
      rw (eu ∙ ap (λ (y : Gathered). unwrap_or y.used 0) over ∙ used_or_none (records bs) (records_end bs) asks ordered, eh)

  says : {v : Verdict} → v ≡ said_by x.seen.none → v ≡ said (held_verdict (records bs))
  says ev = verdict-is (records bs) (records_end bs) asks ordered (ev ∙ ap (λ (y : Gathered). said_by y.seen.none) over)

  module _ {n : ℕ} (eu : n ≡ unwrap_or x.used 0) {v : Verdict} (ev : v ≡ said_by x.seen.none) where
    pub survey_is : {l : Letters} → NoneNo (entry_questions (records bs)) × Passed bs l
        → IsSurvey (records bs) (record {
          entry = record {
            heading = record { route = h.route; unknowns = h.unknowns; givens = h.givens; used = n };
            verdict = v;
          };
          letters = l;
          order = o;
        })
    survey_is p =
        record { none_no = p.0; heading = heading_is eu; verdict = says ev; letters = p.1.letters; order = order_is }

    pub refused_is : {q : Question} → IsFirstNo (entry_questions (records bs)) q
        → IsRefused (records bs) (record {
          question = q;
          entry = record {
            heading = record { route = h.route; unknowns = h.unknowns; givens = h.givens; used = n };
            verdict = v;
          };
          order = o;
        })
    refused_is e = record { question = e; heading = heading_is eu; verdict = says ev; order = order_is }

-- ---- the questions put to an entry that has been gone over
module _ (bs : List ℕ) {x : Gathered} {asked : Option Letters} {route : ℕ} {in_order : Bool} (a : AsksEntry (records bs) x asked route in_order) where
  -- the first no of these is that of all
  pub gathered_no : (q : Question) → IsFirstNo (gathered_questions x asked route in_order) q → IsFirstNo (entry_questions (records bs)) q
  unfolding entry_questions
  gathered_no q e =
      let f : number q ≡ first_no (record_questions (records bs)) = e ∙ a.same in
      f ∙ sym (first_counts (record_questions (records bs)) _ (λ z. number_some q (f ∙ z)))

  -- each is answered yes
  pub gathered_passed : {l : Letters} → NoneNo (gathered_questions x asked route in_order) → asked ≡ Some l → Passed bs l
  gathered_passed {l} none_no letters_are =
      record { yes = sym a.same ∙ none_no; letters = MatchOption-at_some _ _ l letters_are a.letters_are }
