-- A written entry holds what it was written from: the condition, and the answers or 'none' and the state.
-- Assumes nothing.
use mathlib.Core.Path.{◌≡◌, refl, sym, ap, ◌∙◌}
use mathlib.Core.Bool.{Bool, true, false, ◌&&◌, ◌||◌, cond, and-true, or-false, or_assoc}
use mathlib.Core.List.{List, [], ◌∷◌, ◌++◌, map}
use mathlib.Core.Logic.{◌⊎◌, inl, inr}
use Prim.Native.Nat.{ℕ, zero, suc, ◌^◌, ◌<◌}
use native.Mathlib.Omega.{arith}
use lib.Dec.{eqb, ltb}
use borrow.Author.Tests.{lt-ltb, le-ltb, ltb-true, eqb-true, eqb-false, ne_eqb}
use Rattle.ring.specs.declared.State.{State}
use Rattle.ring.specs.Polynomial.{Polynomial}
use Rattle.ring.specs.Table.{IsTable, present, table, held, answer_table}
use Rattle.ring.specs.Lists.{has}
use Rattle.ring.proofs.Bool.{bool_iff, bool_cases}
use Rattle.ring.proofs.Value.{value_cong}
use Rattle.ring.proofs.Table.{is-table, same_table, present-tabulate, table_cong, answer_table_cong}
use Rattle.order.specs.Order.{monomials}
use Rattle.order.proofs.Order.{has_monomials}
use Rattle.solution.specs.Condition.{Condition, width}
use Rattle.solution.specs.Order.{order_bytes}
use Rattle.solution.specs.Elimination.{Verdict, solved, none}
use Rattle.entry.specs.Record.{Record, route_field, unknowns_field, givens_field, mask_field, state_field, fields, kind, among, value_of}
use Rattle.entry.specs.Record.{is_none, is_monomial, table_in, is_default, answer_record, end_record}
use Rattle.entry.specs.Record.{order_record}
use Rattle.entry.specs.Entry.{order_records, fact_records, condition_records, answer_records, verdict_records, entry_records}
use Rattle.entry.specs.Held.{route_of, unknowns_of, givens_of, has_monomial, fact_in, condition_in, answers_in, unless_none}
use Rattle.entry.specs.Held.{held_verdict}
use Rattle.entry.specs.Inner.Codes.{monomial_record}
use Rattle.entry.proofs.Made.{given, made_value, AllMade, all_made_append, made_is}
use Rattle.entry.proofs.Monomials.{table-monomials, monomial_no_none, monomials_made}
use Rattle.entry.proofs.Verdicts.{VerdictFits}
use Rattle.solution.proofs.Order.{length-order_bytes}

-- ---- which monomials stand in some records
pub monomial-append : (i m : ℕ) (rs ss : List Record) → has_monomial i m (rs ++ ss) ≡ (has_monomial i m rs || has_monomial i m ss)
unfolding has_monomial
monomial-append i m [] ss = refl
monomial-append i m (r ∷ rs) ss =
    ap (λ (b : Bool). (is_monomial r && (eqb i (table_in r) && eqb m (value_of mask_field r))) || b) (monomial-append i m rs ss)
    ∙ sym (or_assoc (is_monomial r && (eqb i (table_in r) && eqb m (value_of mask_field r))) (has_monomial i m rs) (has_monomial i m ss))

-- the answers have nothing of the fact or the condition ..
no_condition : (i k n m : ℕ) (a : List ℕ) → i < 2 → has_monomial i m (answer_records k n a) ≡ false
unfolding answer_records has_monomial
no_condition i zero n m a h = refl
no_condition i (suc j) n m a h =
    monomial-append i m (answer_records j n a) (map (answer_record j) (monomials n (held n a j)))
    ∙ rw (
      no_condition i j n m a h,
      table-monomials i m (suc (suc j)) (monomials n (held n a j)),
      ne_eqb i (suc (suc j))
          (λ (e : i ≡ suc (suc j)). absurd (omega arith)),
    )

-- .. and for each unknown those of its answer
pub answers_monomials : (k n i m : ℕ) (a : List ℕ)
    → has_monomial (suc (suc i)) m (answer_records k n a) ≡ (ltb i k && has m (monomials n (held n a i)))
unfolding answer_records has_monomial
answers_monomials zero n i m a = rw (le-ltb i 0 (omega arith))
answers_monomials (suc j) n i m a =
    monomial-append (suc (suc i)) m (answer_records j n a) (map (answer_record j) (monomials n (held n a j)))
    ∙ rw (answers_monomials j n i m a, table-monomials (suc (suc i)) m (suc (suc j)) (monomials n (held n a j)))
    (last (bool_cases (eqb (suc (suc i)) (suc (suc j)))))
  where
    last : (eqb (suc (suc i)) (suc (suc j)) ≡ true) ⊎ (eqb (suc (suc i)) (suc (suc j)) ≡ false)
        → ((ltb i j && has m (monomials n (held n a i))) || (eqb (suc (suc i)) (suc (suc j)) && has m (monomials n (held n a j))))
        ≡ (ltb i (suc j) && has m (monomials n (held n a i)))
    last (inl e) =
        let q : suc (suc i) ≡ suc (suc j) = eqb-true _ _ e in
        let p : i ≡ j = omega arith in
        rw (e, lt-ltb i (suc j) (omega arith), le-ltb i j (omega arith)) (ap (λ (x : ℕ). has m (monomials n (held n a x))) (sym p))
    last (inr e) =
        rw e
        (or-false (ltb i j && has m (monomials n (held n a i)))
        ∙ ap (λ (b : Bool). b && has m (monomials n (held n a i)))
        (bool_iff (ltb i j) (ltb i (suc j)) (λ l. lt-ltb i (suc j) (omega (arith, ltb-true i j l)))
        (λ l. lt-ltb i j (other (ltb-true i (suc j) l) (eqb-false (suc (suc i)) (suc (suc j)) e)))))
      where
        other : i < suc j → (suc (suc i) ≡ suc (suc j) → ⊥) → i < j
        other l n = omega arith

-- ---- those of an entry
answers_made : (j n : ℕ) (a : List ℕ) → AllMade (answer_records j n a)
unfolding answer_records AllMade
answers_made zero n a = tt
answers_made (suc j) n a =
    all_made_append (answer_records j n a) (map (answer_record j) (monomials n (held n a j))) (answers_made j n a)
    (monomials_made (suc (suc j)) (monomials n (held n a j)))

verdict_made : (U n : ℕ) (v : Verdict (List ℕ)) → AllMade (verdict_records U n v)
unfolding verdict_records AllMade fields
verdict_made U n (solved a) = answers_made U n a
verdict_made U n (none state) = (made_is 5 (state.0 ∷ []) refl, tt)

-- the order's record, if there is one, is made, and holds no monomial
order_made : (c : Condition) → AllMade (order_records c)
unfolding order_records AllMade fields
order_made c = go (is_default c.U (order_bytes c.order))
  where
    go : (b : Bool) → AllMade (cond b [] (order_record c.order ∷ []))
    go true = tt
    go false = (made_is 6 (order_bytes c.order) (length-order_bytes c.order), tt)

order-monomials : (i m : ℕ) (c : Condition) → has_monomial i m (order_records c) ≡ false
unfolding order_records has_monomial kind fields among
order-monomials i m c = go (is_default c.U (order_bytes c.order))
  where
    go : (b : Bool) → has_monomial i m (cond b [] (order_record c.order ∷ [])) ≡ false
    go true = refl
    go false = refl

-- what its start says
module _ (route : ℕ) (c : Condition) (v : Verdict (List ℕ)) where
  pub entry_route : route_of (entry_records route c v) ≡ route
  unfolding entry_records fields given
  entry_route = made_value 1 (route ∷ c.U ∷ c.G ∷ []) refl route_field

  pub entry_unknowns : unknowns_of (entry_records route c v) ≡ c.U
  unfolding entry_records fields given
  entry_unknowns = made_value 1 (route ∷ c.U ∷ c.G ∷ []) refl unknowns_field

  pub entry_givens : givens_of (entry_records route c v) ≡ c.G
  unfolding entry_records fields given
  entry_givens = made_value 1 (route ∷ c.U ∷ c.G ∷ []) refl givens_field

  abbrev told : List Record
  told = verdict_records c.U (width c) v

  -- every one of its records is made
  pub entry_made : AllMade (entry_records route c v)
  unfolding entry_records fact_records condition_records AllMade fields
  entry_made = (
    made_is 1 (route ∷ c.U ∷ c.G ∷ []) refl,
    all_made_append (order_records c) (fact_records c ++ (condition_records c ++ (told ++ (end_record route ∷ [])))) (order_made c)
        (all_made_append (fact_records c) (condition_records c ++ (told ++ (end_record route ∷ [])))
        (monomials_made 0 (monomials (width c) (present c.fact)))
        (all_made_append (condition_records c) (told ++ (end_record route ∷ []))
        (monomials_made 1 (monomials (width c) (present c.table)))
        (all_made_append told (end_record route ∷ []) (verdict_made c.U (width c) v) (made_is 4 (route ∷ []) refl, tt)))),
  )

  pub entry-monomials : (i m : ℕ)
      → has_monomial i m (entry_records route c v)
      ≡ ((eqb i 0 && has m (monomials (width c) (present c.fact)))
      || ((eqb i 1 && has m (monomials (width c) (present c.table))) || has_monomial i m told))
  unfolding entry_records fact_records condition_records has_monomial kind fields among
  entry-monomials i m =
      monomial-append i m (order_records c) (fact_records c ++ (condition_records c ++ (told ++ (end_record route ∷ []))))
      ∙ rw (order-monomials i m c)
      (monomial-append i m (fact_records c) (condition_records c ++ (told ++ (end_record route ∷ [])))
      ∙ rw (
        table-monomials i m 0 (monomials (width c) (present c.fact)),
        monomial-append i m (condition_records c) (told ++ (end_record route ∷ [])),
        table-monomials i m 1 (monomials (width c) (present c.table)),
        monomial-append i m told (end_record route ∷ []),
        or-false (has_monomial i m told),
      ))

  pub verdict_no_condition : (i m : ℕ) (w : Verdict (List ℕ)) → i < 2 → has_monomial i m (verdict_records c.U (width c) w) ≡ false
  unfolding verdict_records has_monomial kind fields among
  verdict_no_condition i m (solved a) h = no_condition i c.U (width c) m a h
  verdict_no_condition i m (none state) h = refl

  -- the fact's
  pub fact_held : (m : ℕ) → m < 2 ^ width c → fact_in (entry_records route c v) m ≡ present c.fact m
  unfolding fact_in
  fact_held m l =
      entry-monomials 0 m
      ∙ rw (verdict_no_condition 0 m v (omega arith), has_monomials (width c) (present c.fact) m, lt-ltb m (2 ^ width c) l)
      (or-false (present c.fact m && true) ∙ and-true (present c.fact m))

  -- the condition's
  pub condition_held : (m : ℕ) → m < 2 ^ width c → condition_in (entry_records route c v) m ≡ present c.table m
  unfolding condition_in
  condition_held m l =
      entry-monomials 1 m
      ∙ rw (verdict_no_condition 1 m v (omega arith), has_monomials (width c) (present c.table) m, lt-ltb m (2 ^ width c) l)
      (or-false (present c.table m && true) ∙ and-true (present c.table m))

  -- a polynomial with the monomials of a table has that table
  again : (f : Polynomial) (t : List ℕ) → IsTable (width c) t → ((m : ℕ) → m < 2 ^ width c → f m ≡ present t m) → table (width c) f ≡ t
  unfolding table
  again f t is same =
      table_cong (width c) f (present t) same
      ∙ same_table (width c) _ t (is-table (width c) (present t)) is
      (λ p l. value_cong (width c) _ _ p (λ m h. present-tabulate (2 ^ width c) (present t) m h))

  pub fact_back : IsTable (width c) c.fact → table (width c) (fact_in (entry_records route c v)) ≡ c.fact
  fact_back is = again _ c.fact is fact_held

  pub table_back : IsTable (width c) c.table → table (width c) (condition_in (entry_records route c v)) ≡ c.table
  table_back is = again _ c.table is condition_held

-- each answer's
pub answers_held : (route : ℕ) (c : Condition) (a : List ℕ) (j m : ℕ) → j < c.U → m < 2 ^ width c
    → answers_in (entry_records route c (solved a)) j m ≡ held (width c) a j m
unfolding answers_in verdict_records
answers_held route c a j m h l =
    entry-monomials route c (solved a) (suc (suc j)) m
    ∙ rw (
      ne_eqb (suc (suc j)) 0 (λ (e : suc (suc j) ≡ 0). absurd (omega arith)),
      ne_eqb (suc (suc j)) 1 (λ (e : suc (suc j) ≡ 1). absurd (omega arith)),
      answers_monomials c.U (width c) j m a,
      lt-ltb j
          c.U h,
      has_monomials (width c) (held (width c) a j) m,
      lt-ltb m (2 ^ width c) l,
    )
    (and-true (held (width c) a j m))

-- ---- the verdict
-- no kind 5 is passed over
unless_append : {A : Type 0} (a : A) (rs ss : List Record) → unless_none a rs ≡ solved a → unless_none a (rs ++ ss) ≡ unless_none a ss
unfolding unless_none
unless_append a [] ss e = refl
unless_append {A} a (r ∷ rs) ss e = go (bool_cases (is_none r)) (unless_append a rs ss)
  where
    go : (is_none r ≡ true) ⊎ (is_none r ≡ false) → (unless_none a rs ≡ solved a → unless_none a (rs ++ ss) ≡ unless_none a ss)
        → cond (is_none r) (none (record { 0 = value_of state_field r })) (unless_none a (rs ++ ss)) ≡ unless_none a ss
    go (inl f) ih =
        let c : none (record { 0 = value_of state_field r }) ≡ solved a = rw f at e in let z : ◌≡◌ {A = ℕ} 0 1 = (cc) in absurd (omega arith)
    go (inr f) ih = rw f (ih (rw f at e))

module _ {A : Type 0} (a : A) where
  monomials_unless : (i : ℕ) (ms : List ℕ) → unless_none a (map (monomial_record i) ms) ≡ solved a
  unfolding unless_none
  monomials_unless i [] = refl
  monomials_unless i (m ∷ ms) = rw (monomial_no_none m i) (monomials_unless i ms)

  order_unless : (c : Condition) → unless_none a (order_records c) ≡ solved a
  unfolding order_records unless_none kind
  order_unless c = go (is_default c.U (order_bytes c.order))
    where
      go : (b : Bool) → unless_none a (cond b [] (order_record c.order ∷ [])) ≡ solved a
      go true = refl
      go false = refl

  answers_unless : (k n : ℕ) (b : List ℕ) → unless_none a (answer_records k n b) ≡ solved a
  unfolding answer_records unless_none
  answers_unless zero n b = refl
  answers_unless (suc j) n b =
      unless_append a (answer_records j n b) (map (answer_record j) (monomials n (held n b j))) (answers_unless j n b)
      ∙ monomials_unless (suc (suc j)) (monomials n (held n b j))

  module _ (route : ℕ) (c : Condition) where
    entry_unless : (v : Verdict (List ℕ))
        → unless_none a (entry_records route c v) ≡ unless_none a (verdict_records c.U (width c) v ++ (end_record route ∷ []))
    unfolding entry_records fact_records condition_records unless_none kind
    entry_unless v =
        unless_append a (order_records c) (fact_records c ++ (condition_records c ++ (verdict_records c.U (width c) v ++ (end_record route ∷ []))))
        (order_unless c)
        ∙ unless_append a (fact_records c) (condition_records c ++ (verdict_records c.U (width c) v ++ (end_record route ∷ [])))
        (monomials_unless 0 (monomials (width c) (present c.fact)))
        ∙ unless_append a (condition_records c) (verdict_records c.U (width c) v ++ (end_record route ∷ []))
        (monomials_unless 1 (monomials (width c) (present c.table)))

    pub solved_unless : (b : List ℕ) → unless_none a (entry_records route c (solved b)) ≡ solved a
    unfolding verdict_records unless_none kind
    solved_unless b =
        entry_unless (solved b)
        ∙ unless_append a (answer_records c.U (width c) b) (end_record route ∷ []) (answers_unless c.U (width c) b)

    pub none_unless : (state : State) → unless_none a (entry_records route c (none state)) ≡ none state
    unfolding verdict_records unless_none kind fields given
    none_unless state =
        entry_unless (none state) ∙ ap (λ (i : ℕ). none (record { 0 = i })) (made_value 5 (state.0 ∷ []) refl state_field)

pub verdict_back : (route : ℕ) (c : Condition) (v : Verdict (List ℕ)) → VerdictFits c.U c.G v
    → held_verdict (entry_records route c v) ≡ v
unfolding held_verdict
verdict_back route c (solved a) fits =
    let e : answer_table c.U (width c) (answers_in (entry_records route c (solved a))) ≡ answer_table c.U (width c) (held (width c) a) =
    answer_table_cong c.U (width c) _ _ (λ j m h l. answers_held route c a j m h l) in
    rw (entry_unknowns route c (solved a), entry_givens route c (solved a)) (solved_unless _ route c a ∙ ap solved (e ∙ fits))
verdict_back route c (none state) fits = none_unless _ route c state
