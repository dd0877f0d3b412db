-- The kind 6 record that may stand behind the start, and the records behind it; and that a written entry holds its order.
-- Assumes nothing.
use mathlib.Core.Path.{◌≡◌, refl, sym, ap, ap₂, ◌∙◌}
use mathlib.Core.Bool.{Bool, true, false, ◌||◌, cond}
use mathlib.Core.List.{List, [], ◌∷◌, ◌++◌}
use mathlib.Core.Logic.{◌⊎◌, inl, inr, ◌↔◌}
use Prim.Native.Nat.{ℕ, ◌≤◌}
use lib.Dec.{eqb}
use lib.ListN.{take, drop}
use borrow.Author.Tests.{eqb-true}
use Rattle.ring.specs.Table.{IsTable}
use Rattle.ring.specs.Lists.{listed, has}
use Rattle.ring.proofs.Bool.{and_left, and_right, both, bool_cases, never}
use Rattle.ring.proofs.Lists.{has_append}
use Rattle.solution.specs.Condition.{Condition, width, default_order, condition_of, ListsEach}
use Rattle.solution.specs.Order.{order_bytes, default_bytes}
use Rattle.solution.specs.Elimination.{Verdict}
use Rattle.solution.proofs.Order.{default_each, take-order_bytes}
use Rattle.entry.specs.Record.{Record, fields, kind, low_first, body_of, is_end, is_order, is_default}
use Rattle.entry.specs.Record.{order_record, end_record}
use Rattle.entry.specs.Entry.{order_records, fact_records, condition_records, verdict_records, entry_records}
use Rattle.entry.specs.Held.{first, second, unknowns_of, order_in, held_condition}
use Rattle.entry.specs.Questions.{may_follow, kinds_follow}
use Rattle.entry.proofs.SameBytes.{bytes_same, same_bytes_lem}
use Rattle.entry.proofs.EntryPasses.{told_kinds}
use Rattle.entry.proofs.Held.{entry_unknowns, entry_givens, fact_back, table_back}

-- ---- one that is made
pub order_body : (order : List ℕ) → order_record order ≡ 6 ∷ order_bytes order
unfolding fields body_of low_first order_bytes listed
order_body order = refl

pub order_is : (order : List ℕ) → is_order (order_record order) ≡ true
unfolding kind
order_is order = refl

-- 'It is left out for the order 0, 1, 2 and so on'
pub default_left_out : (U G : ℕ) (t : List ℕ) → order_records (condition_of U G t) ≡ []
unfolding order_records is_default
default_left_out U G t = rw (same_bytes_lem (default_bytes U))

-- ---- behind the start: a kind 6 if there is one, and the records behind it
unfoldable pub order_part : List Record → List Record
order_part [] = []
order_part (r ∷ rs) = cond (is_order r) (r ∷ []) []

unfoldable pub behind_order : List Record → List Record
behind_order [] = []
behind_order (r ∷ rs) = cond (is_order r) rs (r ∷ rs)

pub order_split : (ss : List Record) → ss ≡ order_part ss ++ behind_order ss
unfolding order_part behind_order
order_split [] = refl
order_split (r ∷ rs) = go (is_order r)
  where
    go : (b : Bool) → r ∷ rs ≡ cond b (r ∷ []) [] ++ cond b rs (r ∷ rs)
    go true = refl
    go false = refl

-- where kind 6 may not stand first, there is none
pub no_order : (route : ℕ) (ss : List Record) → kinds_follow 6 route ss ≡ true → is_order (first ss) ≡ false
unfolding kinds_follow may_follow has kind
no_order route [] k = refl
no_order route (r ∷ rs) k = go (bool_cases (is_order r))
  where
    go : (is_order r ≡ true) ⊎ (is_order r ≡ false) → is_order r ≡ false
    go (inl e) = let q : kind r ≡ 6 = eqb-true _ _ e in never (and_left (may_follow 6 (kind r)) _ k) (rw q)
    go (inr e) = e

pub behind_none : (ss : List Record) → is_order (first ss) ≡ false → behind_order ss ≡ ss
unfolding behind_order
behind_none [] e = refl
behind_none (r ∷ rs) e = rw e

not_six : (k : ℕ) → eqb k 6 ≡ false → has k (6 ∷ 7 ∷ []) ≡ has k (7 ∷ [])
unfolding has
not_six k e = rw e

-- behind the start, or behind a kind 6, may stand the same kinds but 6
pub behind_kinds : (route : ℕ) (ss : List Record) → kinds_follow 1 route ss ≡ true → kinds_follow 6 route (behind_order ss) ≡ true
unfolding behind_order kinds_follow may_follow
behind_kinds route [] k = k
behind_kinds route (r ∷ rs) k = go (bool_cases (is_order r))
  where
    after : cond (is_end r) (kinds_follow 1 route (r ∷ rs)) (kinds_follow (kind r) route rs) ≡ true
    after = go' (is_end r) refl
      where
        go' : (b : Bool) → is_end r ≡ b → cond b (kinds_follow 1 route (r ∷ rs)) (kinds_follow (kind r) route rs) ≡ true
        go' true e = k
        go' false e = rw e at (and_right (may_follow 1 (kind r)) _ k)

    same : is_order r ≡ false → may_follow 6 (kind r) ≡ true
    same e =
        let h : (has (kind r) (2 ∷ 3 ∷ 4 ∷ 5 ∷ []) || has (kind r) (6 ∷ 7 ∷ [])) ≡ true =
        sym (has_append (kind r) (2 ∷ 3 ∷ 4 ∷ 5 ∷ []) (6 ∷ 7 ∷ [])) ∙ and_left (may_follow 1 (kind r)) _ k in
        has_append (kind r) (2 ∷ 3 ∷ 4 ∷ 5 ∷ []) (7 ∷ []) ∙ (rw (not_six (kind r) e) at h)

    go : (is_order r ≡ true) ⊎ (is_order r ≡ false) → kinds_follow 6 route (cond (is_order r) rs (r ∷ rs)) ≡ true
    go (inl e) =
        let q : kind r ≡ 6 = eqb-true _ _ e in
        let n : is_end r ≡ false = rw q in
        rw e (ap (λ (x : ℕ). kinds_follow x route rs) (sym q) ∙ (rw n at after))
    go (inr e) = rw e (both (same e) (and_right (may_follow 1 (kind r)) _ k))

-- the bytes of the order in records with or without a kind 6
order_of : (b : Bool) (r : Record) (told : List Record) (d : List ℕ) → is_order r ≡ true → is_order (first told) ≡ false
    → cond (is_order (first (cond b [] (r ∷ []) ++ told))) (drop 1 (first (cond b [] (r ∷ []) ++ told))) d ≡ cond b d (drop 1 r)
order_of true r told d e n = rw n
order_of false r told d e n = rw e

-- ---- a written entry
module _ (route : ℕ) (c : Condition) (v : Verdict (List ℕ)) where
  -- the fact, the condition, the verdict and the end
  unfoldable pub told_records : List Record
  told_records = fact_records c ++ (condition_records c ++ (verdict_records c.U (width c) v ++ (end_record route ∷ [])))

  told_no_order : is_order (first told_records) ≡ false
  unfolding told_records
  told_no_order = no_order route told_records (told_kinds 6 route c v (inr (inl refl)))

  pub behind_order_lem : behind_order (order_records c ++ told_records) ≡ told_records
  unfolding order_records behind_order
  behind_order_lem = go (is_default c.U (order_bytes c.order))
    where
      go : (b : Bool) → behind_order (cond b [] (order_record c.order ∷ []) ++ told_records) ≡ told_records
      go true = behind_none told_records told_no_order
      go false = rw (order_is c.order)

  -- 'It is left out for the order 0, 1, 2 and so on', and for no other
  pub no_record_exactly : c.U ≤ 6 → ListsEach c.U c.order
      → (is_order (second (entry_records route c v)) ≡ false) ↔ (c.order ≡ default_order c.U)
  unfolding entry_records order_records told_records is_default
  no_record_exactly few each = (
    λ n. default_of (is_default c.U (order_bytes c.order)) refl n,
    λ e. none_of_lem (is_default c.U (order_bytes c.order))
        (ap (λ (o : List ℕ). is_default c.U (order_bytes o)) e ∙ same_bytes_lem (default_bytes c.U)),
  )
    where
      none_of_lem : (b : Bool) → b ≡ true → is_order (first (cond b [] (order_record c.order ∷ []) ++ told_records)) ≡ false
      none_of_lem true e = told_no_order
      none_of_lem false e = never e refl

      default_of : (b : Bool) → is_default c.U (order_bytes c.order) ≡ b
          → is_order (first (cond b [] (order_record c.order ∷ []) ++ told_records)) ≡ false → c.order ≡ default_order c.U
      default_of true e n =
          sym (take-order_bytes c.U c.order few each)
          ∙ ap (take c.U) (bytes_same _ _ e)
          ∙ take-order_bytes c.U (default_order c.U) few (default_each c.U)
      default_of false e n = never (order_is c.order) n

  -- it holds its order
  pub order_back : order_in (entry_records route c v) ≡ order_bytes c.order
  unfolding order_in entry_records order_records told_records is_default
  order_back =
      order_of (is_default c.U (order_bytes c.order)) (order_record c.order) told_records
      (default_bytes (unknowns_of (entry_records route c v))) (order_is c.order) told_no_order
      ∙ go (is_default c.U (order_bytes c.order)) refl
    where
      go : (b : Bool) → is_default c.U (order_bytes c.order) ≡ b
          → cond b (default_bytes (unknowns_of (entry_records route c v))) (drop 1 (order_record c.order)) ≡ order_bytes c.order
      go true e = ap default_bytes (entry_unknowns route c v) ∙ sym (bytes_same _ _ e)
      go false e = ap (drop 1) (order_body c.order)

  pub condition_back : c.U ≤ 6 → ListsEach c.U c.order → IsTable (width c) c.fact → IsTable (width c) c.table
      → held_condition (entry_records route c v) ≡ c
  unfolding held_condition
  condition_back few each of_fact is =
      let u : unknowns_of (entry_records route c v) ≡ c.U = entry_unknowns route c v in
      let o : take (unknowns_of (entry_records route c v)) (order_in (entry_records route c v)) ≡ c.order =
      ap₂ (λ (k : ℕ) (bs : List ℕ). take k bs) u order_back ∙ take-order_bytes c.U c.order few each in
      rw (o, entry_unknowns route c v, entry_givens route c v, fact_back route c v of_fact, table_back route c v is)
