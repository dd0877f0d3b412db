-- Records that pass questions 10, 11 and 12 are the entry's of the condition and the verdict that they hold: question 11 leaves the start,
-- the monomials, a state if there is one and the end, and question 12 fixes how the monomials stand.
-- Assumes nothing.
use mathlib.Core.Path.{◌≡◌, refl, sym, ap, ap₂, ◌∙◌}
use mathlib.Core.Bool.{Bool, true, false, ◌&&◌, ◌||◌, not, cond, and-true, and-false, or-false}
use mathlib.Core.List.{List, [], ◌∷◌, ◌++◌}
use mathlib.Core.Logic.{◌⊎◌, inl, inr}
use Prim.Native.Nat.{ℕ, zero, suc, ◌+◌, ◌^◌, ◌≤◌, ◌<◌}
use native.Mathlib.Omega.{arith}
use lib.Dec.{eqb, ltb}
use lib.ListN.{length, get_or, take, drop, get_or-eq_default}
use borrow.Author.Tests.{ltb-true, ltb-false, eqb-true, ne_eqb}
use Rattle.ring.specs.declared.State.{State}
use Rattle.ring.specs.Polynomial.{Polynomial, every_below}
use Rattle.ring.specs.Table.{present, held, answer_table}
use Rattle.ring.specs.Lists.{has}
use Rattle.ring.proofs.Table.{present-table, held-answer_table}
use Rattle.ring.proofs.Bool.{and_left, and_right, or_cases, bool_cases, never}
use Rattle.ring.proofs.Lists.{has_cases}
use Rattle.ring.proofs.Every.{every_all}
use Rattle.order.specs.Order.{monomials}
use Rattle.order.proofs.Order.{has_monomials}
use Rattle.solution.specs.Condition.{Condition}
use Rattle.solution.specs.Order.{order_bytes, default_bytes, order_fits}
use Rattle.solution.specs.Elimination.{Verdict, solved, none}
use Rattle.entry.specs.Record.{Record, route_field, unknowns_field, givens_field, unknown_field, mask_field, state_field, fields, kind}
use Rattle.entry.specs.Record.{among, value_in, value_of, is_end, is_none, is_order, is_fact, is_monomial, body_fits, same_bytes, is_default}
use Rattle.entry.specs.Record.{is_needed, in_bounds, start_record, end_record, none_record, order_record}
use Rattle.entry.specs.Entry.{order_records, verdict_records, entry_records}
use Rattle.entry.specs.Held.{next, until_end, first_records, records, first, second, route_of, unknowns_of, givens_of, order_in, has_monomial}
use Rattle.entry.specs.Held.{fact_in, condition_in, answers_in, unless_none, held_condition, held_verdict}
use Rattle.entry.specs.Questions.{followers, may_follow, kinds_follow, kinds_fit, numbers_fit}
use Rattle.entry.specs.Inner.Places.{place_of, stands_behind, fits_behind}
use Rattle.entry.proofs.Made.{field_fits_lem, every-kind, IsMade, AllMade, values_in, of_kind}
use Rattle.entry.proofs.Places.{place_other, numbers_by_places}
use Rattle.entry.proofs.Back.{is_inner, all_inner, inner_not_end, end_is, body, entry_body, body_inner}
use Rattle.entry.proofs.Verdicts.{VerdictFits, answers_fit}
use Rattle.entry.proofs.SameBytes.{same_bytes_lem}
use Rattle.entry.proofs.OrderRecord.{order_body, order_part, behind_order, order_split, behind_kinds, told_records, behind_order_lem}
use Rattle.solution.proofs.Order.{fits_bytes}
use Rattle.entry.proofs.EntryPasses.{entry_kinds, entry_places}
use Rattle.entry.proofs.Held.{entry_route, entry_made, entry-monomials, verdict_no_condition, answers_monomials, solved_unless}
use Rattle.entry.proofs.Held.{none_unless}
use Rattle.entry.proofs.Unique.{only_monomials, only_all, only_has, only_made, rising_unique, held_bounds, fits_bounds, fits_rest}
use Rattle.entry.proofs.Unique.{fits_front}

-- ---- nothing stands behind an end
abbrev pub is_empty : List Record → Bool
is_empty [] = true
is_empty (r ∷ rs) = false

empty_is : (rs : List Record) → is_empty rs ≡ true → rs ≡ []
empty_is [] e = refl
empty_is (r ∷ rs) e = never e refl

unfoldable pub ends_there : List Record → Bool
ends_there [] = true
ends_there (r ∷ rs) = cond (is_end r) (is_empty rs) (ends_there rs)

until_ends : (r : Record) (rs : List Record) → ends_there rs ≡ true → ends_there (until_end r rs) ≡ true
unfolding ends_there until_end
until_ends [] rs e = refl
until_ends (b ∷ r) rs e = go (is_end (b ∷ r))
  where
    go : (end : Bool) → cond end (is_empty (cond end [] rs)) (ends_there (cond end [] rs)) ≡ true
    go true = refl
    go false = e

first_end : (k : ℕ) (bs : List ℕ) → ends_there (first_records k bs) ≡ true
unfolding first_records ends_there
first_end zero bs = refl
first_end (suc k) bs = until_ends (next bs) (first_records k (drop (length (next bs)) bs)) (first_end k (drop (length (next bs)) bs))

pub records_end : (bs : List ℕ) → ends_there (records bs) ≡ true
unfolding records
records_end bs = first_end (length bs) bs

inner_ends : (ps : List Record) (route : ℕ) → all_inner ps ≡ true → ends_there (ps ++ (end_record route ∷ [])) ≡ true
unfolding ends_there all_inner
inner_ends [] route p = rw (end_is route)
inner_ends (r ∷ ps) route p =
    rw (inner_not_end r (and_left (is_inner r) (all_inner ps) p)) (inner_ends ps route (and_right (is_inner r) (all_inner ps) p))

pub entry_ends : (route : ℕ) (c : Condition) (v : Verdict (List ℕ)) → ends_there (entry_records route c v) ≡ true
entry_ends route c v = rw (entry_body route c v) (inner_ends (body route c v) route (body_inner route c v))

-- ---- one record and those behind it
module _ (p again : ℕ) (r : Record) (rs : List Record) (o : kinds_follow p again (r ∷ rs) ≡ true) where
  pub may : may_follow p (kind r) ≡ true
  unfolding kinds_follow
  may = and_left (may_follow p (kind r)) _ o

  pub kinds_on : is_end r ≡ false → kinds_follow (kind r) again rs ≡ true
  unfolding kinds_follow
  kinds_on e = rw e at (and_right (may_follow p (kind r)) _ o)

  same_route : is_end r ≡ true → value_of route_field r ≡ again
  unfolding kinds_follow
  same_route e = eqb-true _ _ (rw e at (and_right (may_follow p (kind r)) _ o))

module _ (r : Record) (rs : List Record) (c : ends_there (r ∷ rs) ≡ true) where
  pub ends_on : is_end r ≡ false → ends_there rs ≡ true
  unfolding ends_there
  ends_on e = rw e at c

  pub nothing_behind : is_end r ≡ true → rs ≡ []
  unfolding ends_there
  nothing_behind e = empty_is rs (rw e at c)

-- the start, the end and a kind 5 are made from what they say
start_again : (r : Record) → IsMade r → kind r ≡ 1
    → r ≡ start_record (value_of route_field r) (value_of unknowns_field r) (value_of givens_field r)
unfolding fields value_of value_in values_in
start_again r w k = of_kind 1 r w k ∙ rw k

end_again : (r : Record) → IsMade r → kind r ≡ 4 → r ≡ end_record (value_of route_field r)
unfolding fields value_of value_in values_in
end_again r w k = of_kind 4 r w k ∙ rw k

none_again : (r : Record) → IsMade r → kind r ≡ 5 → r ≡ none_record (value_of state_field r)
unfolding fields value_of value_in values_in
none_again r w k = of_kind 5 r w k ∙ rw k

-- ---- the kinds that follow another
-- each kind of a row passes a test
unfoldable pub all_pass : (ℕ → Bool) → List ℕ → Bool
all_pass test [] = true
all_pass test (k ∷ ks) = test k && all_pass test ks

in_row : (test : ℕ → Bool) (row : List ℕ) (k : ℕ) → all_pass test row ≡ true → has k row ≡ true → test k ≡ true
unfolding all_pass has
in_row test [] k e h = never h refl
in_row test (x ∷ row) k e h = go (in_row test row k (and_right (test x) (all_pass test row) e)) (has_cases k x row h)
  where
    go : (has k row ≡ true → test k ≡ true) → (k ≡ x) ⊎ (has k row ≡ true) → test k ≡ true
    go ih (inl q) = rw q (and_left (test x) (all_pass test row) e)
    go ih (inr q) = ih q

-- a test of the kind in front, kind 1 being 0, and a kind that follows it: that every row passes it is computed
unfoldable pub each_follows : (ℕ → ℕ → Bool) → Bool
each_follows test = every_below 8 (λ p. all_pass (test p) (get_or followers p []))

pub each_follows_lem : (test : ℕ → ℕ → Bool) → each_follows test ≡ true → (p k : ℕ) → may_follow (suc p) k ≡ true → test p k ≡ true
unfolding each_follows all_pass may_follow
each_follows_lem test e p k h = in_row (test p) (get_or followers p []) k (go (bool_cases (ltb p 8))) h
  where
    go : (ltb p 8 ≡ true) ⊎ (ltb p 8 ≡ false) → all_pass (test p) (get_or followers p []) ≡ true
    go (inl l) = every_all 8 (λ i. all_pass (test i) (get_or followers i [])) e p (ltb-true _ _ l)
    go (inr l) =
        let b : 8 ≤ p = ltb-false _ _ l in ap (all_pass (test p)) (get_or-eq_default followers [] {n = p} (omega arith))

-- but for the start: kind 4, kind 5, and those with a monomial
may_stand : ℕ → Bool
may_stand k = eqb k 4 || (eqb k 5 || among mask_field (fields k))

data Stands (k : ℕ) : Type 0 where
  an_end : k ≡ 4 → Stands k
  a_none : k ≡ 5 → Stands k
  a_monomial : among mask_field (fields k) ≡ true → Stands k

stands : (p k : ℕ) → may_follow (suc (suc p)) k ≡ true → Stands k
unfolding may_stand each_follows all_pass among fields every_below
stands p k h = go (or_cases (eqb k 4) _ (rw behind_start at (each_follows_lem (λ i x. eqb i 0 || may_stand x) refl (suc p) k h)))
  where
    behind_start : eqb (suc p) 0 ≡ false
    behind_start = ne_eqb (suc p) 0 (λ (e : suc p ≡ 0). absurd (omega arith))

    further : (eqb k 5 ≡ true) ⊎ (among mask_field (fields k) ≡ true) → Stands k
    further (inl e) = a_none (eqb-true k 5 e)
    further (inr e) = a_monomial e

    go : (eqb k 4 ≡ true) ⊎ ((eqb k 5 || among mask_field (fields k)) ≡ true) → Stands k
    go (inl e) = an_end (eqb-true k 4 e)
    go (inr e) = further (or_cases (eqb k 5) (among mask_field (fields k)) e)

-- only kind 3 names an unknown, and no kind with a monomial is an end or a kind 5
implied : (test : ℕ → Bool) (k : ℕ) → (not (among mask_field (fields k)) || test k) ≡ true → among mask_field (fields k) ≡ true
    → test k ≡ true
implied test k e h = rw h at e

monomial-kind : (k : ℕ) → among mask_field (fields k) ≡ true → (eqb k 4 ≡ false) × (eqb k 5 ≡ false)
unfolding among fields every_below
monomial-kind k h = (no 4 refl, no 5 refl)
  where
    some : fields k ≡ [] → ⊥
    some e = never h (ap (among mask_field) e)

    flip : (b : Bool) → not b ≡ true → b ≡ false
    flip true e = never e refl
    flip false e = refl

    no : (x : ℕ) → every_below 8 (λ i. not (among mask_field (fields i)) || not (eqb i x)) ≡ true → eqb k x ≡ false
    no x e =
        flip (eqb k x) (implied (λ i. not (eqb i x)) k (every-kind (λ i. not (among mask_field (fields i)) || not (eqb i x)) e k some) h)

unknown_kind : (k : ℕ) → among unknown_field (fields k) ≡ true → k ≡ 3
unfolding among fields every_below
unknown_kind k h =
    eqb-true k 3 (rw h at
    (every-kind (λ i. not (among unknown_field (fields i)) || eqb i 3) refl k (λ e. never h (ap (among unknown_field) e))))

-- ---- kind 5 or not
-- a kind 5, or none
abbrev none_records : {A : Type 0} → Verdict A → List Record
none_records (solved a) = []
none_records (none state) = none_record state.0 ∷ []

module _ {A : Type 0} (a : A) where
  pub unless_cases : (rs : List Record) → (unless_none a rs ≡ solved a) ⊎ ((state : State) × (unless_none a rs ≡ none state))
  unfolding unless_none
  unless_cases [] = inl refl
  unless_cases (r ∷ rs) = go (bool_cases (is_none r)) (unless_cases rs)
    where
      go : (is_none r ≡ true) ⊎ (is_none r ≡ false) → (unless_none a rs ≡ solved a) ⊎ ((state : State) × (unless_none a rs ≡ none state))
          → (cond (is_none r) (none (record { 0 = value_of state_field r })) (unless_none a rs) ≡ solved a) ⊎
          ((state : State) × (cond (is_none r) (none (record { 0 = value_of state_field r })) (unless_none a rs) ≡ none state))
      go (inl e) ih = inr (record { 0 = value_of state_field r }, rw e)
      go (inr e) (inl f) = inl (rw e f)
      go (inr e) (inr f) = inr (f.0, rw e f.1)

  clash : {B : Type 0} {state : State} → solved a ≡ none state → B
  clash {B} {state} e = let z : ◌≡◌ {A = ℕ} 0 1 = (cc) in absurd (omega arith)

  -- ---- the shape that question 11 leaves
  -- behind a kind 5 stands the end
  behind_none : (route : ℕ) (rs : List Record) → AllMade rs → kinds_follow 5 route rs ≡ true → ends_there rs ≡ true
      → rs ≡ end_record route ∷ []
  unfolding kinds_follow may_follow has AllMade
  behind_none route [] w o c = never o refl
  behind_none route (r ∷ rs) w o c =
      let e : is_end r ≡ true = sym (or-false (eqb (kind r) 4)) ∙ may 5 route r rs o in
      ap₂ (λ (x : Record) (xs : List Record). x ∷ xs)
      (end_again r w.0 (eqb-true _ _ e) ∙ ap (λ (x : ℕ). end_record x) (same_route 5 route r rs o e)) (nothing_behind r rs c e)

  -- the end alone
  end_shape : (route : ℕ) (r : Record) → IsMade r → kind r ≡ 4 → value_of route_field r ≡ route
      → r ∷ [] ≡ only_monomials (r ∷ []) ++ (none_records (unless_none a (r ∷ [])) ++ (end_record route ∷ []))
  unfolding only_monomials unless_none among fields
  end_shape route r w k q = ap (λ (x : Record). x ∷ []) (end_again r w k ∙ ap (λ (x : ℕ). end_record x) q) ∙ rw k

  -- a kind 5 and the end
  none_shape : (route : ℕ) (r : Record) → IsMade r → kind r ≡ 5
      → r ∷ (end_record route ∷ [])
      ≡ only_monomials (r ∷ (end_record route ∷ [])) ++ (none_records (unless_none a (r ∷ (end_record route ∷ []))) ++ (end_record route ∷ []))
  unfolding only_monomials unless_none among fields kind
  none_shape route r w k = ap (λ (x : Record). x ∷ (end_record route ∷ [])) (none_again r w k) ∙ rw k

  -- a monomial and what stands behind it
  monomial_shape : (route : ℕ) (r : Record) (rs : List Record) → is_monomial r ≡ true → is_none r ≡ false
      → rs ≡ only_monomials rs ++ (none_records (unless_none a rs) ++ (end_record route ∷ []))
      → r ∷ rs ≡ only_monomials (r ∷ rs) ++ (none_records (unless_none a (r ∷ rs)) ++ (end_record route ∷ []))
  unfolding only_monomials unless_none
  monomial_shape route r rs m n ih = ap (λ (l : List Record). r ∷ l) ih ∙ rw (m, n)

  -- the records behind the start and the order: the monomials, the state if there is one, and the end
  shape : (p route : ℕ) (rs : List Record) → AllMade rs → kinds_follow (suc (suc p)) route rs ≡ true → ends_there rs ≡ true
      → rs ≡ only_monomials rs ++ (none_records (unless_none a rs) ++ (end_record route ∷ []))
  unfolding kinds_follow AllMade among fields
  shape p route [] w o c = never o refl
  shape p route (r ∷ rs) w o c = go (kind r) refl (λ q. shape q route rs w.1) (stands p (kind r) (may (suc (suc p)) route r rs o))
    where
      Shape : List Record → Type 0
      Shape l = l ≡ only_monomials l ++ (none_records (unless_none a l) ++ (end_record route ∷ []))

      behind : (k : ℕ) → kind r ≡ k → is_end r ≡ false → ((q : ℕ) → kinds_follow (suc (suc q)) route rs ≡ true → ends_there rs ≡ true
          → Shape rs)
          → among mask_field (fields k) ≡ true → Shape rs
      behind zero e n ih m = never m refl
      behind (suc zero) e n ih m = never m refl
      behind (suc (suc q)) e n ih m =
          ih q (ap (λ (x : ℕ). kinds_follow x route rs) (sym e) ∙ kinds_on (suc (suc p)) route r rs o n) (ends_on r rs c n)

      go : (k : ℕ) → kind r ≡ k → ((q : ℕ) → kinds_follow (suc (suc q)) route rs ≡ true → ends_there rs ≡ true → Shape rs) → Stands (kind r)
          → Shape (r ∷ rs)
      go k e ih (an_end q) =
          let end : is_end r ≡ true = rw q in
          ap (λ (l : List Record). r ∷ l) (nothing_behind r rs c end)
          ∙ end_shape route r w.0 q (same_route (suc (suc p)) route r rs o end)
          ∙ ap (λ (l : List Record). only_monomials (r ∷ l) ++ (none_records (unless_none a (r ∷ l)) ++ (end_record route ∷ [])))
          (sym (nothing_behind r rs c end))
      go k e ih (a_none q) =
          let n : is_end r ≡ false = rw q in
          let b : rs ≡ end_record route ∷ [] =
          behind_none route rs w.1 (ap (λ (x : ℕ). kinds_follow x route rs) (sym q) ∙ kinds_on (suc (suc p)) route r rs o n)
          (ends_on r rs c n) in
          ap (λ (l : List Record). r ∷ l) b ∙ none_shape route r w.0 q
          ∙ ap (λ (l : List Record). only_monomials (r ∷ l) ++ (none_records (unless_none a (r ∷ l)) ++ (end_record route ∷ []))) (sym b)
      go k e ih (a_monomial m) =
          let d = monomial-kind (kind r) m in
          monomial_shape route r rs m d.1 (behind k e d.0 ih (ap (λ (x : ℕ). among mask_field (fields x)) (sym e) ∙ m))

  -- behind an answer stands no kind 5 ..
  behind_answer : (route : ℕ) (rs : List Record) → kinds_follow 3 route rs ≡ true → ends_there rs ≡ true → unless_none a rs ≡ solved a
  unfolding may_follow has unless_none
  behind_answer route [] o c = refl
  behind_answer route (r ∷ rs) o c = go (behind_answer route rs) (or_cases (eqb (kind r) 3) (eqb (kind r) 4 || false) (may 3 route r rs o))
    where
      go : (kinds_follow 3 route rs ≡ true → ends_there rs ≡ true → unless_none a rs ≡ solved a)
          → (eqb (kind r) 3 ≡ true) ⊎ ((eqb (kind r) 4 || false) ≡ true)
          → cond (is_none r) (none (record { 0 = value_of state_field r })) (unless_none a rs) ≡ solved a
      go ih (inl e) =
          let k : kind r ≡ 3 = eqb-true _ _ e in
          let n : is_end r ≡ false = rw k in
          rw k (ih (ap (λ (x : ℕ). kinds_follow x route rs) (sym k) ∙ kinds_on 3 route r rs o n) (ends_on r rs c n))
      go ih (inr e) =
          let f : is_end r ≡ true = sym (or-false (eqb (kind r) 4)) ∙ e in
          let k : kind r ≡ 4 = eqb-true _ _ f in
          rw k (ap (unless_none a) (nothing_behind r rs c f))

  -- .. so that an entry with a kind 5 has no answers
  no_monomials : (i m route : ℕ) → has_monomial i m (end_record route ∷ []) ≡ false
  unfolding has_monomial kind fields among
  no_monomials i m route = refl

  none_alone : (p route j m : ℕ) (state : State) (rs : List Record) → AllMade rs → kinds_follow p route rs ≡ true → ends_there rs ≡ true
      → unless_none a rs ≡ none state
      → has_monomial (suc (suc j)) m rs ≡ false
  unfolding unless_none has_monomial AllMade among fields
  none_alone p route j m s [] w o c e = refl
  none_alone p route j m s (r ∷ rs) w o c e =
      go (bool_cases (is_end r)) (bool_cases (is_none r)) (bool_cases (among unknown_field (fields (kind r))))
      (none_alone (kind r) route j m s rs w.1)
    where
      go : (is_end r ≡ true) ⊎ (is_end r ≡ false) → (is_none r ≡ true) ⊎ (is_none r ≡ false)
          → (among unknown_field (fields (kind r)) ≡ true) ⊎ (among unknown_field (fields (kind r)) ≡ false)
          → (kinds_follow (kind r) route rs ≡ true → ends_there rs ≡ true → unless_none a rs ≡ none s → has_monomial (suc (suc j)) m rs ≡ false)
          → has_monomial (suc (suc j)) m (r ∷ rs) ≡ false
      go (inl f) n u ih = let k : kind r ≡ 4 = eqb-true _ _ f in rw (k, nothing_behind r rs c f)
      go (inr f) (inl n) u ih =
          let k : kind r ≡ 5 = eqb-true _ _ n in
          let b : rs ≡ end_record route ∷ [] =
          behind_none route rs w.1 (ap (λ (x : ℕ). kinds_follow x route rs) (sym k) ∙ kinds_on p route r rs o f) (ends_on r rs c f) in
          rw (k, b) (no_monomials (suc (suc j)) m route)
      go (inr f) (inr n) (inl u) ih =
          let k : kind r ≡ 3 = unknown_kind (kind r) u in
          let b : unless_none a rs
          ≡ solved a =
          behind_answer route rs (ap (λ (x : ℕ). kinds_follow x route rs) (sym k) ∙ kinds_on p route r rs o f) (ends_on r rs c f) in
          clash (sym b ∙ (rw n at e))
      go (inr f) (inr n) (inr u) ih =
          rw (u, no_answer (is_fact r), and-false (is_monomial r)) (ih (kinds_on p route r rs o f) (ends_on r rs c f) (rw n at e))
        where
          no_answer : (fact : Bool) → eqb (suc (suc j)) (cond fact 0 1) ≡ false
          no_answer true = ne_eqb (suc (suc j)) 0 (λ (z : suc (suc j) ≡ 0). absurd (omega arith))
          no_answer false = ne_eqb (suc (suc j)) 1 (λ (z : suc (suc j) ≡ 1). absurd (omega arith))

  -- the state is in bounds
  state_bounds : (U G q : ℕ) (state : State) (rs : List Record) → fits_behind U G q rs ≡ true → unless_none a rs ≡ none state
      → state.0 < 2 ^ G
  unfolding unless_none among fields
  state_bounds U G q s [] f e = clash e
  state_bounds U G q s (r ∷ rs) f e = go (bool_cases (is_none r)) (state_bounds U G (place_of r) s rs (fits_rest U G q r rs f))
    where
      go : (is_none r ≡ true) ⊎ (is_none r ≡ false) → (unless_none a rs ≡ none s → s.0 < 2 ^ G) → s.0 < 2 ^ G
      go (inl n) ih =
          let k : kind r ≡ 5 = eqb-true _ _ n in
          let v : none (record { 0 = value_of state_field r }) ≡ none s = rw n at e in
          let p : value_of state_field r ≡ s.0 = ap (λ (x : State). x.0) (let w : record { 0 = value_of state_field r } ≡ s = (cc) in w) in
          rw (← p) (ltb-true _ _ (field_fits_lem U G state_field r (rw k) (fits_bounds U G q r rs f)))
      go (inr n) ih = ih (rw n at e)

-- question 11 asks for a kind 1 first
starts : (route : ℕ) (rs : List Record) → AllMade rs → kinds_follow 0 route rs ≡ true
    → (ss : List Record) × AllMade ss × (rs ≡ start_record (route_of rs) (unknowns_of rs) (givens_of rs) ∷ ss)
unfolding kinds_follow may_follow AllMade
starts route [] w o = never o refl
starts route (r ∷ rs) w o = (rs, w.1, ap (λ (x : Record). x ∷ rs) (start_again r w.0 (eqb-true _ _ (may 0 route r rs o))))

-- ---- a kind 6 behind the start, and what stands behind it
module _ (r : Record) (e : is_order r ≡ true) where
  six : kind r ≡ 6
  six = eqb-true _ _ e

  six_no_end : is_end r ≡ false
  six_no_end = rw six

  six_no_none : is_none r ≡ false
  six_no_none = rw six

  six_no_monomial : is_monomial r ≡ false
  unfolding among fields
  six_no_monomial = rw six

behind_made : (ss : List Record) → AllMade ss → AllMade (behind_order ss)
unfolding behind_order AllMade
behind_made [] w = w
behind_made (r ∷ rs) w = go (is_order r)
  where
    go : (b : Bool) → AllMade (cond b rs (r ∷ rs))
    go true = w.1
    go false = w

behind_ends : (ss : List Record) → ends_there ss ≡ true → ends_there (behind_order ss) ≡ true
unfolding behind_order
behind_ends [] c = c
behind_ends (r ∷ rs) c = go (bool_cases (is_order r))
  where
    go : (is_order r ≡ true) ⊎ (is_order r ≡ false) → ends_there (cond (is_order r) rs (r ∷ rs)) ≡ true
    go (inl e) = rw e (ends_on r rs c (six_no_end r e))
    go (inr e) = rw e c

behind_fits : (U G : ℕ) (ss : List Record) → fits_behind U G 0 ss ≡ true → fits_behind U G 0 (behind_order ss) ≡ true
unfolding behind_order
behind_fits U G [] p = p
behind_fits U G (r ∷ rs) p = go (bool_cases (is_order r))
  where
    go : (is_order r ≡ true) ⊎ (is_order r ≡ false) → fits_behind U G 0 (cond (is_order r) rs (r ∷ rs)) ≡ true
    go (inl e) =
        rw e (ap (λ (q : ℕ). fits_behind U G q rs) (sym (place_other r (six_no_monomial r e))) ∙ fits_rest U G 0 r rs p)
    go (inr e) = rw e p

behind_has : (i m : ℕ) (ss : List Record) → has_monomial i m (behind_order ss) ≡ has_monomial i m ss
unfolding behind_order has_monomial
behind_has i m [] = refl
behind_has i m (r ∷ rs) = go (bool_cases (is_order r))
  where
    go : (is_order r ≡ true) ⊎ (is_order r ≡ false) → has_monomial i m (cond (is_order r) rs (r ∷ rs)) ≡ has_monomial i m (r ∷ rs)
    go (inl e) = rw e (rw (six_no_monomial r e))
    go (inr e) = rw e

behind_unless : {A : Type 0} (a : A) (ss : List Record) → unless_none a (behind_order ss) ≡ unless_none a ss
unfolding behind_order unless_none
behind_unless a [] = refl
behind_unless a (r ∷ rs) = go (bool_cases (is_order r))
  where
    go : (is_order r ≡ true) ⊎ (is_order r ≡ false) → unless_none a (cond (is_order r) rs (r ∷ rs)) ≡ unless_none a (r ∷ rs)
    go (inl e) = rw e (rw (six_no_none r e))
    go (inr e) = rw e

-- question 12 asks whether it is needed
needed_first : (U G : ℕ) (ss : List Record) → fits_behind U G 0 ss ≡ true → is_order (first ss) ≡ true → is_needed U (first ss) ≡ true
unfolding in_bounds kind
needed_first U G [] p h = never h refl
needed_first U G (r ∷ rs) p h = and_right (body_fits U G (fields (kind r)) (drop 1 r)) (is_needed U r) (fits_bounds U G 0 r rs p)

six_again : (r : Record) → is_order r ≡ true → 6 ∷ drop 1 r ≡ r
unfolding kind
six_again [] h = never h refl
six_again (b ∷ bs) h = ap (λ (x : ℕ). x ∷ bs) (sym (eqb-true b 6 h))

default_again : (U : ℕ) (order : List ℕ) → order_bytes order ≡ default_bytes U → is_default U (order_bytes order) ≡ true
unfolding is_default
default_again U order e = ap (λ (bs : List ℕ). same_bytes bs (default_bytes U)) e ∙ same_bytes_lem (default_bytes U)

needed_is : (U : ℕ) (r : Record) → is_order r ≡ true → is_needed U r ≡ true → not (true && is_default U (drop 1 r)) ≡ true
unfolding is_needed
needed_is U r h n = rw h at n

-- the record of an order whose bytes are those that the records say
order_again : (U : ℕ) (order said : List ℕ) (ss : List Record) → order_bytes order ≡ said
    → said ≡ cond (is_order (first ss)) (drop 1 (first ss)) (default_bytes U)
    → (is_order (first ss) ≡ true → is_needed U (first ss) ≡ true)
    → cond (is_default U (order_bytes order)) [] (order_record order ∷ []) ≡ order_part ss
unfolding order_part kind
order_again U order said [] e s n = rw (default_again U order (e ∙ s))
order_again U order said (r ∷ rs) e s n = go (bool_cases (is_order r))
  where
    other : (b : Bool) → not (true && b) ≡ true → b ≡ false
    other true h = never h refl
    other false h = refl

    differs : is_order r ≡ true → order_bytes order ≡ drop 1 r → is_default U (order_bytes order) ≡ false
    differs h d = ap (is_default U) d ∙ other (is_default U (drop 1 r)) (needed_is U r h (n h))

    go : (is_order r ≡ true) ⊎ (is_order r ≡ false)
        → cond (is_default U (order_bytes order)) [] (order_record order ∷ []) ≡ cond (is_order r) (r ∷ []) []
    go (inl h) =
        let d : order_bytes order ≡ drop 1 r = e ∙ (rw h at s) in
        rw (differs h d, h)
        (ap (λ (x : Record). x ∷ []) (order_body order ∙ ap (λ (x : List ℕ). 6 ∷ x) d ∙ six_again r h))
    go (inr h) = rw (default_again U order (e ∙ (rw h at s)), h)

-- ---- the entry of what some records hold
module _ (rs : List Record) (w : AllMade rs) (k : kinds_fit rs ≡ true) (c : ends_there rs ≡ true) (l : unknowns_of rs + givens_of rs ≤ 10)
    (f : numbers_fit rs ≡ true) (o : order_fits (unknowns_of rs) (order_in rs) ≡ true) where
  abbrev U : ℕ
  U = unknowns_of rs

  abbrev G : ℕ
  G = givens_of rs

  -- the answers that they hold, whether or not they also say 'none'
  abbrev answered : List ℕ
  answered = answer_table U (U + G) (answers_in rs)

  abbrev rewritten : List Record
  rewritten = entry_records (route_of rs) (held_condition rs) (held_verdict rs)

  places : fits_behind U G 0 rs ≡ true
  unfolding numbers_fit
  places = numbers_by_places U G l rs ∙ f

  -- ---- the same monomials
  absent : (i m : ℕ) → ((i ≤ suc U) × (m < 2 ^ (U + G)) → ⊥) → has_monomial i m rs ≡ false
  absent i m n = go (bool_cases (has_monomial i m rs))
    where
      go : (has_monomial i m rs ≡ true) ⊎ (has_monomial i m rs ≡ false) → has_monomial i m rs ≡ false
      go (inl h) = absurd (n (held_bounds U G 0 i m rs places h))
      go (inr h) = h

  -- a table's monomials, from a polynomial that says which of them stand in the records
  one_table : (i m : ℕ) (g : Polynomial) → (m < 2 ^ (U + G) → g m ≡ has_monomial i m rs) → has m (monomials (U + G) g) ≡ has_monomial i m rs
  one_table i m g e = has_monomials (U + G) g m ∙ go (bool_cases (ltb m (2 ^ (U + G))))
    where
      go : (ltb m (2 ^ (U + G)) ≡ true) ⊎ (ltb m (2 ^ (U + G)) ≡ false) → (g m && ltb m (2 ^ (U + G))) ≡ has_monomial i m rs
      go (inl h) = rw h (and-true (g m) ∙ e (ltb-true _ _ h))
      go (inr h) = rw h (and-false (g m) ∙ sym (absent i m (λ w. far w.1)))
        where
          far : m < 2 ^ (U + G) → ⊥
          far w = let b : 2 ^ (U + G) ≤ m = ltb-false _ _ h in omega arith

  fact_table : (m : ℕ) → has m (monomials (U + G) (present (held_condition rs).fact)) ≡ has_monomial 0 m rs
  unfolding held_condition fact_in
  fact_table m = one_table 0 m (present (held_condition rs).fact) (λ h. present-table (U + G) (fact_in rs) m h)

  condition_table : (m : ℕ) → has m (monomials (U + G) (present (held_condition rs).table)) ≡ has_monomial 1 m rs
  unfolding held_condition condition_in
  condition_table m = one_table 1 m (present (held_condition rs).table) (λ h. present-table (U + G) (condition_in rs) m h)

  answer_table_lem : (j m : ℕ) → (ltb j U && has m (monomials (U + G) (held (U + G) answered j))) ≡ has_monomial (suc (suc j)) m rs
  unfolding answers_in
  answer_table_lem j m = go (bool_cases (ltb j U))
    where
      go : (ltb j U ≡ true) ⊎ (ltb j U ≡ false)
          → (ltb j U && has m (monomials (U + G) (held (U + G) answered j))) ≡ has_monomial (suc (suc j)) m rs
      go (inl h) =
          rw h
          (one_table (suc (suc j)) m (held (U + G) answered j) (λ b. held-answer_table U (U + G) (answers_in rs) j m (ltb-true _ _ h) b))
      go (inr h) = rw h (sym (absent (suc (suc j)) m (λ w. many w.0)))
        where
          many : suc (suc j) ≤ suc U → ⊥
          many w = let b : U ≤ j = ltb-false _ _ h in omega arith

  verdict-table : (j m : ℕ) → has_monomial (suc (suc j)) m (verdict_records U (U + G) (held_verdict rs)) ≡ has_monomial (suc (suc j)) m rs
  unfolding held_verdict verdict_records has_monomial kinds_fit among fields kind
  verdict-table j m = go (unless_cases answered rs)
    where
      go : (unless_none answered rs ≡ solved answered) ⊎ ((state : State) × (unless_none answered rs ≡ none state))
          → has_monomial (suc (suc j)) m (verdict_records U (U + G) (unless_none answered rs)) ≡ has_monomial (suc (suc j)) m rs
      go (inl e) = rw e (answers_monomials U (U + G) j m answered ∙ answer_table_lem j m)
      go (inr e) = rw e.1 (sym (none_alone answered 0 (route_of rs) j m e.0 rs w k c e.1))

  same_monomials : (i m : ℕ) → has_monomial i m rewritten ≡ has_monomial i m rs
  unfolding held_condition
  same_monomials i m = entry-monomials (route_of rs) (held_condition rs) (held_verdict rs) i m ∙ go i
    where
      nothing_told : (i : ℕ) → i < 2 → has_monomial i m (verdict_records U (U + G) (held_verdict rs)) ≡ false
      nothing_told i h = verdict_no_condition (route_of rs) (held_condition rs) (held_verdict rs) i m (held_verdict rs) h

      go : (i : ℕ)
          → ((eqb i 0 && has m (monomials (U + G) (present (held_condition rs).fact)))
          || ((eqb i 1 && has m (monomials (U + G) (present (held_condition rs).table)))
          || has_monomial i m (verdict_records U (U + G) (held_verdict rs)))) ≡ has_monomial i m rs
      go zero =
          rw (nothing_told 0 (omega arith))
          (or-false (has m (monomials (U + G) (present (held_condition rs).fact))) ∙ fact_table m)
      go (suc zero) =
          rw (nothing_told 1 (omega arith))
          (or-false (has m (monomials (U + G) (present (held_condition rs).table))) ∙ condition_table m)
      go (suc (suc j)) =
          rw (
            ne_eqb (suc (suc j)) 0 (λ (z : suc (suc j) ≡ 0). absurd (omega arith)),
            ne_eqb (suc (suc j)) 1 (λ (z : suc (suc j) ≡ 1). absurd (omega arith)),
          )
          (verdict-table j m)

  -- ---- the same verdict
  pub held_fits : VerdictFits U G (held_verdict rs)
  unfolding held_verdict
  held_fits = go (unless_cases answered rs)
    where
      go : (unless_none answered rs ≡ solved answered) ⊎ ((state : State) × (unless_none answered rs ≡ none state))
          → VerdictFits U G (unless_none answered rs)
      go (inl e) = rw e (answers_fit U G (answers_in rs))
      go (inr e) = rw e.1 (state_bounds answered U G 0 e.0 rs places e.1)

  same_verdict_lem : unless_none answered rewritten ≡ unless_none answered rs
  unfolding held_verdict
  same_verdict_lem = go (unless_cases answered rs)
    where
      go : (unless_none answered rs ≡ solved answered) ⊎ ((state : State) × (unless_none answered rs ≡ none state))
          → unless_none answered (entry_records (route_of rs) (held_condition rs) (unless_none answered rs)) ≡ unless_none answered rs
      go (inl e) = rw e (solved_unless answered (route_of rs) (held_condition rs) answered)
      go (inr e) = rw e.1 (none_unless answered (route_of rs) (held_condition rs) e.0)

  -- ---- the monomials of both rise, and so are the same in the same order
  rise : (ss : List Record) → AllMade ss → kinds_follow 6 (route_of rs) ss ≡ true → ends_there ss ≡ true → fits_behind U G 0 ss ≡ true
      → fits_behind U G 0 (only_monomials ss) ≡ true
  rise ss w o e p =
      let q : ss ≡ only_monomials ss
      ++ (none_records (unless_none answered ss) ++ (end_record (route_of rs) ∷ [])) = shape answered 4 (route_of rs) ss w o e in
      fits_front U G 0 (only_monomials ss) (none_records (unless_none answered ss) ++ (end_record (route_of rs) ∷ [])) (rw q at p)

  -- what stands behind the start and the order is told by its monomials and its verdict
  told_unique : (xs ys : List Record) → AllMade xs → AllMade ys
      → kinds_follow 6 (route_of rs) xs ≡ true → kinds_follow 6 (route_of rs) ys ≡ true
      → ends_there xs ≡ true → ends_there ys ≡ true → fits_behind U G 0 xs ≡ true → fits_behind U G 0 ys ≡ true
      → ((i m : ℕ) → has_monomial i m xs ≡ has_monomial i m ys) → unless_none answered xs ≡ unless_none answered ys → xs ≡ ys
  told_unique xs ys wx wy ox oy cx cy px py em ev =
      let e : only_monomials xs ≡ only_monomials ys =
      rising_unique U G 0 0 (only_monomials xs) (only_monomials ys) (only_made xs wx) (only_made ys wy) (only_all xs) (only_all ys)
      (rise xs wx ox cx px) (rise ys wy oy cy py) (λ i m. only_has i m xs ∙ em i m ∙ sym (only_has i m ys)) in
      shape answered 4 (route_of rs) xs wx ox cx
      ∙ ap₂ (λ (x : List Record) (v : Verdict (List ℕ)). x ++ (none_records v ++ (end_record (route_of rs) ∷ []))) e ev
      ∙ sym (shape answered 4 (route_of rs) ys wy oy cy)

  -- what the entry of the condition and the verdict has behind its start
  abbrev tail : List Record
  tail = order_records (held_condition rs) ++ told_records (route_of rs) (held_condition rs) (held_verdict rs)

  rewritten_tail : rewritten ≡ start_record (route_of rs) U G ∷ tail
  unfolding entry_records told_records held_condition
  rewritten_tail = refl

  tail_made : AllMade tail
  unfolding AllMade
  tail_made = (rw rewritten_tail at (entry_made (route_of rs) (held_condition rs) (held_verdict rs))).1

  -- question 12 of what stands behind a start
  places_behind : (ss : List Record) → fits_behind U G 0 (start_record (route_of rs) U G ∷ ss) ≡ true → fits_behind U G 0 ss ≡ true
  unfolding fits_behind stands_behind place_of kind fields among in_bounds body_fits is_needed
  places_behind ss p = p

  -- what the records have behind their start is so too
  behind_start : (ss : List Record) → AllMade ss → rs ≡ start_record (route_of rs) U G ∷ ss → behind_order ss ≡ behind_order tail
  unfolding kinds_fit kinds_follow may_follow ends_there has_monomial unless_none kind fields among held_condition
  behind_start ss ws e =
      let os : kinds_follow 1 (route_of rs) ss ≡ true = sym (ap (λ (x : List Record). kinds_follow 0 (route_of rs) x) e) ∙ k in
      let ot : kinds_follow 1 (route_of rs) tail ≡ true =
      ap₂ (λ (x : ℕ) (l : List Record). kinds_follow 0 x l) (sym (entry_route (route_of rs) (held_condition rs) (held_verdict rs)))
      (sym rewritten_tail)
      ∙ entry_kinds (route_of rs) (held_condition rs) (held_verdict rs) in
      let cs : ends_there ss ≡ true = sym (ap ends_there e) ∙ c in
      let ct : ends_there tail ≡ true = sym (ap ends_there rewritten_tail) ∙ entry_ends (route_of rs) (held_condition rs) (held_verdict rs) in
      let ps : fits_behind U G 0 ss ≡ true = places_behind ss (sym (ap (fits_behind U G 0) e) ∙ places) in
      let pt : fits_behind U G 0 tail ≡ true = places_behind tail (sym (ap (fits_behind U G 0) rewritten_tail)
      ∙ entry_places (held_condition rs) l (route_of rs) (held_verdict rs) held_fits) in
      told_unique (behind_order ss) (behind_order tail) (behind_made ss ws) (behind_made tail tail_made) (behind_kinds (route_of rs) ss os)
      (behind_kinds (route_of rs) tail ot) (behind_ends ss cs) (behind_ends tail ct) (behind_fits U G ss ps) (behind_fits U G tail pt)
      (λ i m. behind_has i m ss ∙ sym (ap (has_monomial i m) e) ∙ sym (same_monomials i m) ∙ ap (has_monomial i m) rewritten_tail
      ∙ sym (behind_has i m tail))
      (behind_unless answered ss ∙ sym (ap (unless_none answered) e) ∙ sym same_verdict_lem ∙ ap (unless_none answered) rewritten_tail
      ∙ sym (behind_unless answered tail))

  -- the order's record is the one that stands behind the start
  same_order : (ss : List Record) → rs ≡ start_record (route_of rs) U G ∷ ss → order_records (held_condition rs) ≡ order_part ss
  unfolding order_records order_in held_condition
  same_order ss e =
      order_again U (take U (order_in rs)) (order_in rs) ss (sym (fits_bytes U (order_in rs) o))
      (ap (λ (x : List Record). cond (is_order (second x)) (drop 1 (second x)) (default_bytes U)) e)
      (λ h. needed_first U G ss (places_behind ss (sym (ap (fits_behind U G 0) e) ∙ places)) h)

  pub canonical : rs ≡ entry_records (route_of rs) (held_condition rs) (held_verdict rs)
  unfolding kinds_fit
  canonical = go (starts (route_of rs) rs w k)
    where
      go : (ss : List Record) × AllMade ss × (rs ≡ start_record (route_of rs) U G ∷ ss) → rs ≡ rewritten
      go (ss, ws, e) =
          e
          ∙ ap (λ (x : List Record). start_record (route_of rs) U G ∷ x)
          (order_split ss
          ∙ ap₂ (λ (x y : List Record). x ++ y) (sym (same_order ss e))
          (behind_start ss ws e ∙ behind_order_lem (route_of rs) (held_condition rs) (held_verdict rs)))
          ∙ sym rewritten_tail
