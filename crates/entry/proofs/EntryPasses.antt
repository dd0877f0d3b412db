-- A written entry passes questions 10, 11 and 12, whatever its route, its condition and its answers are, as long as a state is a state.
-- Assumes nothing.
use mathlib.Core.Path.{◌≡◌, refl, sym, ap, ◌∙◌}
use mathlib.Core.Bool.{Bool, true, false, cond}
use mathlib.Core.List.{List, [], ◌∷◌, ◌++◌, append_assoc, map}
use mathlib.Core.Logic.{◌⊎◌, inl, inr}
use Prim.Native.Nat.{ℕ, zero, suc, ◌+◌, ◌*◌, ◌^◌, ◌≤◌, ◌<◌}
use native.Mathlib.Omega.{arith}
use lib.Dec.{eqb, ltb}
use borrow.Author.Tests.{lt-ltb, ltb-true, eq-eqb}
use Rattle.ring.specs.Polynomial.{Polynomial}
use Rattle.ring.specs.Table.{present, held}
use Rattle.ring.specs.Lists.{listed, has}
use Rattle.order.specs.Order.{monomials, rises}
use Rattle.ring.proofs.Bool.{and_right, both, or_right}
use Rattle.ring.proofs.Lists.{has_first, has_rest, has_append}
use Rattle.order.proofs.Order.{rises_tail, rises_first, has_monomials, monomials_rise}
use Rattle.solution.specs.Condition.{Condition, width}
use Rattle.solution.specs.Order.{order_bytes}
use Rattle.solution.specs.Elimination.{Verdict, solved, none}
use Rattle.entry.specs.Record.{Record, route_field, fields, kind, among, is_end, is_monomial, in_bounds, start_record, condition_record}
use Rattle.entry.specs.Record.{answer_record, end_record, none_record, order_record, fact_record, body_of, low_first, body_fits, is_default, is_needed}
use Rattle.entry.specs.Entry.{order_records, fact_records, condition_records, answer_records, verdict_records, entry_records}
use Rattle.entry.specs.Questions.{has_end, may_follow, kinds_follow, kinds_fit, numbers_fit}
use Rattle.entry.specs.Inner.Places.{place, stands_behind, fits_behind}
use Rattle.entry.specs.Inner.Codes.{monomial_record}
use Rattle.entry.proofs.Made.{given, all_fit, made_value, made_fits}
use Rattle.entry.proofs.Monomials.{monomial_bounds}
use Rattle.entry.proofs.Back.{body, entry_body}
use Rattle.entry.proofs.Verdicts.{VerdictFits}
use Rattle.entry.proofs.Places.{place_least, place_most, place-rises, place_made, place_other, mask_small, numbers_by_places}
use Rattle.entry.proofs.Held.{entry_route, entry_unknowns, entry_givens}

-- ---- question 10
end_last : (rs : List Record) (route : ℕ) → has_end (rs ++ (end_record route ∷ [])) ≡ true
unfolding has_end kind
end_last [] route = refl
end_last (r ∷ rs) route = or_right (is_end r) (end_last rs route)

pub entry-has_end : (route : ℕ) (c : Condition) (v : Verdict (List ℕ)) → has_end (entry_records route c v) ≡ true
entry-has_end route c v = rw (entry_body route c v) (end_last (body route c v) route)

-- ---- question 11: kind 1, perhaps a kind 6, then kinds 7, then kinds 2, then kinds 3 or a kind 5, then kind 4
-- the kinds behind which a fact may stand, and those behind which the condition may
abbrev BeforeFact : ℕ → Type 0
BeforeFact p = (p ≡ 1) ⊎ ((p ≡ 6) ⊎ (p ≡ 7))

abbrev BeforeAnswers : ℕ → Type 0
BeforeAnswers p = BeforeFact p ⊎ (p ≡ 2)

abbrev BeforeEnd : ℕ → Type 0
BeforeEnd p = BeforeAnswers p ⊎ (p ≡ 3)

fact_follows : (p : ℕ) → BeforeFact p → may_follow p 7 ≡ true
unfolding may_follow has
fact_follows p (inl e) = rw e
fact_follows p (inr (inl e)) = rw e
fact_follows p (inr (inr e)) = rw e

early_follows : (p k : ℕ) → BeforeAnswers p → has k (2 ∷ 3 ∷ 4 ∷ 5 ∷ []) ≡ true → may_follow p k ≡ true
unfolding may_follow
early_follows p k (inl (inl e)) h = rw e (has_append k (2 ∷ 3 ∷ 4 ∷ 5 ∷ []) (6 ∷ 7 ∷ []) ∙ rw h)
early_follows p k (inl (inr (inl e))) h = rw e (has_append k (2 ∷ 3 ∷ 4 ∷ 5 ∷ []) (7 ∷ []) ∙ rw h)
early_follows p k (inl (inr (inr e))) h = rw e (has_append k (2 ∷ 3 ∷ 4 ∷ 5 ∷ []) (7 ∷ []) ∙ rw h)
early_follows p k (inr e) h = rw e h

late_follows : (p k : ℕ) → BeforeEnd p → (k ≡ 3) ⊎ (k ≡ 4) → may_follow p k ≡ true
unfolding may_follow has
late_follows p k (inl e) (inl h) = early_follows p k e (rw h)
late_follows p k (inl e) (inr h) = early_follows p k e (rw h)
late_follows p k (inr e) (inl h) = rw (e, h)
late_follows p k (inr e) (inr h) = rw (e, h)

-- a record that is no end, and those behind it
kinds_on : (p again : ℕ) (r : Record) (rs : List Record) → may_follow p (kind r) ≡ true → is_end r ≡ false
    → kinds_follow (kind r) again rs ≡ true → kinds_follow p again (r ∷ rs) ≡ true
unfolding kinds_follow
kinds_on p again r rs m e k = both m (rw e k)

-- the end
end_kind : (p route : ℕ) → may_follow p 4 ≡ true → kinds_follow p route (end_record route ∷ []) ≡ true
unfolding kinds_follow kind fields given
end_kind p route h = both h (eq-eqb _ route (made_value 4 (route ∷ []) refl route_field))

module _ (route : ℕ) (rest : List Record) where
  fact_kinds : (p : ℕ) (ms : List ℕ) → BeforeFact p → ((q : ℕ) → BeforeFact q → kinds_follow q route rest ≡ true)
      → kinds_follow p route (map fact_record ms ++ rest) ≡ true
  unfolding kind
  fact_kinds p [] h k = k p h
  fact_kinds p (m ∷ ms) h k =
      kinds_on p route (fact_record m) (map fact_record ms ++ rest) (fact_follows p h) refl (fact_kinds 7 ms (inr (inr refl)) k)

  condition_kinds : (p : ℕ) (ms : List ℕ) → BeforeAnswers p → ((q : ℕ) → BeforeAnswers q → kinds_follow q route rest ≡ true)
      → kinds_follow p route (map condition_record ms ++ rest) ≡ true
  unfolding kind has
  condition_kinds p [] h k = k p h
  condition_kinds p (m ∷ ms) h k =
      kinds_on p route (condition_record m) (map condition_record ms ++ rest) (early_follows p 2 h refl) refl
      (condition_kinds 2 ms (inr refl) k)

  answer_kinds : (j p : ℕ) (ms : List ℕ) → BeforeEnd p → ((q : ℕ) → BeforeEnd q → kinds_follow q route rest ≡ true)
      → kinds_follow p route (map (answer_record j) ms ++ rest) ≡ true
  unfolding kind
  answer_kinds j p [] h k = k p h
  answer_kinds j p (m ∷ ms) h k =
      kinds_on p route (answer_record j m) (map (answer_record j) ms ++ rest) (late_follows p 3 h (inl refl)) refl
      (answer_kinds j 3 ms (inr refl) k)

answers_kinds : (j n p route : ℕ) (a : List ℕ) (rest : List Record) → BeforeEnd p
    → ((q : ℕ) → BeforeEnd q → kinds_follow q route rest ≡ true) → kinds_follow p route (answer_records j n a ++ rest) ≡ true
unfolding answer_records
answers_kinds zero n p route a rest h k = k p h
answers_kinds (suc j) n p route a rest h k =
    rw (append_assoc (answer_records j n a) (map (answer_record j) (monomials n (held n a j))) rest)
    (answers_kinds j n p route a (map (answer_record j) (monomials n (held n a j)) ++ rest) h
    (λ q o. answer_kinds route rest j q (monomials n (held n a j)) o k))

verdict_kinds : (U n p route : ℕ) (v : Verdict (List ℕ)) → BeforeAnswers p
    → kinds_follow p route (verdict_records U n v ++ (end_record route ∷ [])) ≡ true
unfolding verdict_records kind may_follow has
verdict_kinds U n p route (solved a) h =
    answers_kinds U n p route a (end_record route ∷ []) (inl h) (λ q o. end_kind q route (late_follows q 4 o (inr refl)))
verdict_kinds U n p route (none state) h =
    kinds_on p route (none_record state.0) (end_record route ∷ []) (early_follows p 5 h refl) refl (end_kind 5 route refl)

-- the fact, the condition and the verdict, behind the start or the order
pub told_kinds : (p route : ℕ) (c : Condition) (v : Verdict (List ℕ)) → BeforeFact p
    → kinds_follow p route
    (fact_records c ++ (condition_records c ++ (verdict_records c.U (width c) v ++ (end_record route ∷ [])))) ≡ true
unfolding fact_records condition_records
told_kinds p route c v h =
    fact_kinds route _ p (monomials (width c) (present c.fact)) h
    (λ q o. condition_kinds route (verdict_records c.U (width c) v ++ (end_record route ∷ [])) q
    (monomials (width c) (present c.table)) (inl o) (λ r l. verdict_kinds c.U (width c) r route v l))

order_kinds : (route : ℕ) (c : Condition) (v : Verdict (List ℕ))
    → kinds_follow 1 route
    (order_records c ++ (fact_records c ++ (condition_records c ++ (verdict_records c.U (width c) v ++ (end_record route ∷ []))))) ≡ true
unfolding order_records kind may_follow has
order_kinds route c v = go (is_default c.U (order_bytes c.order))
  where
    rest : List Record
    rest = fact_records c ++ (condition_records c ++ (verdict_records c.U (width c) v ++ (end_record route ∷ [])))

    go : (b : Bool) → kinds_follow 1 route (cond b [] (order_record c.order ∷ []) ++ rest) ≡ true
    go true = told_kinds 1 route c v (inl refl)
    go false = kinds_on 1 route (order_record c.order) rest refl refl (told_kinds 6 route c v (inr (inl refl)))

pub entry_kinds : (route : ℕ) (c : Condition) (v : Verdict (List ℕ)) → kinds_fit (entry_records route c v) ≡ true
unfolding kinds_fit entry_records kind may_follow
entry_kinds route c v = ap (λ (x : ℕ). kinds_follow 0 x (entry_records route c v)) (entry_route route c v) ∙ from_start
  where
    from_start : kinds_follow 0 route (entry_records route c v) ≡ true
    from_start =
        kinds_on 0 route (start_record route c.U c.G) _ refl refl (order_kinds route c v)

-- ---- question 12: the places of a table's monomials rise, and stay between those of the tables before and behind it
-- a record without a monomial that is in bounds, and those behind it
fits_on : (U G q : ℕ) (r : Record) (rs : List Record) → is_monomial r ≡ false → in_bounds U G r ≡ true → fits_behind U G 0 rs ≡ true
    → fits_behind U G q (r ∷ rs) ≡ true
unfolding fits_behind stands_behind
fits_on U G q r rs o b k = both b (rw (place_other r o) k)

module _ (U G i : ℕ) (l : U + G ≤ 10) (u : i ≤ suc U) where
  fits_behind_all : (q : ℕ) (ms : List ℕ) (rest : List Record) → rises ms ≡ true → ((m : ℕ) → has m ms ≡ true → m < 2 ^ (U + G))
      → ((m : ℕ) → has m ms ≡ true → q < place i m) → q ≤ 16384 * suc i → ((p : ℕ) → p ≤ 16384 * suc i → fits_behind U G p rest ≡ true)
      → fits_behind U G q (map (monomial_record i) ms ++ rest) ≡ true
  unfolding fits_behind stands_behind
  fits_behind_all q [] rest r b a h k = k q h
  fits_behind_all q (m ∷ ms) rest r b a h k =
      let hm : m < 2 ^ (U + G) = b m (has_first m ms) in
      let sm : m < 2 ^ 10 = mask_small (U + G) m l hm in
      both (monomial_bounds m U G i u hm)
      (rw (place_made i m)
      (both (or_right (eqb (place i m) 0) (lt-ltb q (place i m) (a m (has_first m ms))))
      (fits_behind_all (place i m) ms rest (rises_tail m ms r) (λ x e. b x (has_rest x m ms e))
      (λ x e. place-rises i m x sm (mask_small (U + G) x l (b x (has_rest x m ms e))) (rises_first m ms r x e))
      (place_most i m sm) k)))

  pub fits_table : (q : ℕ) (f : Polynomial) (rest : List Record) → q ≤ 16384 * i
      → ((p : ℕ) → p ≤ 16384 * suc i → fits_behind U G p rest ≡ true)
      → fits_behind U G q (map (monomial_record i) (monomials (U + G) f) ++ rest) ≡ true
  fits_table q f rest h k =
      fits_behind_all q (monomials (U + G) f) rest (monomials_rise (U + G) f)
      (λ m e. ltb-true m (2 ^ (U + G)) (and_right (f m) (ltb m (2 ^ (U + G))) (sym (has_monomials (U + G) f m) ∙ e)))
      (λ m e. omega (arith, place_least i m)) (omega arith) k

module _ (U G : ℕ) (l : U + G ≤ 10) where
  answers_fit : (j : ℕ) (a : List ℕ) (q : ℕ) (rest : List Record) → j ≤ U → q ≤ 16384 * 2
      → ((p : ℕ) → p ≤ 16384 * suc (suc j) → fits_behind U G p rest ≡ true)
      → fits_behind U G q (answer_records j (U + G) a ++ rest) ≡ true
  unfolding answer_records
  answers_fit zero a q rest hj hq k = k q (omega arith)
  answers_fit (suc j) a q rest hj hq k =
      rw (append_assoc (answer_records j (U + G) a) (map (answer_record j) (monomials (U + G) (held (U + G) a j))) rest)
      (answers_fit j a q (map (answer_record j) (monomials (U + G) (held (U + G) a j)) ++ rest) (omega arith) hq
      (λ p h. fits_table U G (suc (suc j)) l (omega (arith, hj)) p (held (U + G) a j) rest h k))

  end_fits : (q route : ℕ) → fits_behind U G q (end_record route ∷ []) ≡ true
  unfolding fits_behind kind fields among all_fit
  end_fits q route = fits_on U G q (end_record route) [] refl (made_fits 4 (route ∷ []) refl refl U G) refl

  verdict_fits : (v : Verdict (List ℕ)) (q route : ℕ) → VerdictFits U G v → q ≤ 16384 * 2
      → fits_behind U G q (verdict_records U (U + G) v ++ (end_record route ∷ [])) ≡ true
  unfolding verdict_records kind fields among all_fit
  verdict_fits (solved a) q route s h = answers_fit U a q (end_record route ∷ []) (omega arith) h (λ p b. end_fits p route)
  verdict_fits (none state) q route s h =
      fits_on U G q (none_record state.0) (end_record route ∷ []) refl
      (made_fits 5 (state.0 ∷ []) refl refl U G ∙ both (lt-ltb state.0 (2 ^ G) s) refl) (end_fits 0 route)

-- a record of the order that is not the default
order_bounds : (U G : ℕ) (order : List ℕ) → is_default U (order_bytes order) ≡ false → in_bounds U G (order_record order) ≡ true
unfolding in_bounds body_fits is_needed kind fields body_of low_first order_bytes listed
order_bounds U G order e = rw e

module _ (c : Condition) (l : width c ≤ 10) (route : ℕ) (v : Verdict (List ℕ)) (s : VerdictFits c.U c.G v) where
  pub entry_places : fits_behind c.U c.G 0 (entry_records route c v) ≡ true
  unfolding entry_records order_records fact_records condition_records kind fields among all_fit
  entry_places =
      fits_on c.U c.G 0 (start_record route c.U c.G) _ refl (made_fits 1 (route ∷ c.U ∷ c.G ∷ []) refl refl c.U c.G)
      (go (is_default c.U (order_bytes c.order)) refl)
    where
      behind : List Record
      behind = verdict_records c.U (width c) v ++ (end_record route ∷ [])

      rest : List Record
      rest = fact_records c ++ (condition_records c ++ behind)

      told : fits_behind c.U c.G 0 rest ≡ true
      told =
          fits_table c.U c.G 0 l (omega arith) 0 (present c.fact) (condition_records c ++ behind) (omega arith)
          (λ q k. fits_table c.U c.G 1 l (omega arith) q (present c.table) behind (omega arith)
          (λ p h. verdict_fits c.U c.G l v p route s (omega arith)))

      go : (b : Bool) → is_default c.U (order_bytes c.order) ≡ b
          → fits_behind c.U c.G 0 (cond b [] (order_record c.order ∷ []) ++ rest) ≡ true
      go true e = told
      go false e = fits_on c.U c.G 0 (order_record c.order) rest refl (order_bounds c.U c.G c.order e) told

  pub entry_numbers : numbers_fit (entry_records route c v) ≡ true
  unfolding numbers_fit
  entry_numbers =
      rw (entry_unknowns route c v, entry_givens route c v)
      (sym (numbers_by_places c.U c.G l (entry_records route c v)) ∙ entry_places)
