-- One record of a kind: how many bytes it has, what it says, and what has been seen with it.
-- Assumes nothing.
use mathlib.Core.Path.{◌≡◌, refl, sym, ap, ◌∙◌}
use mathlib.Core.Bool.{Bool, true, false, cond, not, ◌&&◌, and-true, and-false, and_assoc}
use mathlib.Core.List.{List}
use Prim.Native.Nat.{ℕ, suc, ◌+◌, ◌*◌, ◌^◌, ◌≤◌, ◌<◌}
use native.Mathlib.Numerals.{add-one}
use native.Mathlib.Omega.{arith}
use lib.Dec.{ltb, eqb}
use lib.Pow.{pow_mono}
use lib.ListN.{get_or, drop}
use borrow.Author.Tests.{lt-ltb, le-ltb, ltb-true, ne_eqb}
use Rattle.std.proofs.Common.{Option, Some}
use Rattle.std.specs.Option.{option_or}
use Rattle.ring.specs.declared.State.{State}
use Rattle.ring.proofs.Bool.{bool_iff, never}
use Rattle.tables.specs.declared.Letters.{Letters}
use Rattle.order.specs.Inner.Place.{rank}
use Rattle.entry.specs.Record.{Record, route_field, unknown_field, mask_field, state_field, fields}
use Rattle.entry.specs.Record.{kind, among, value_of, is_monomial, table_in, is_default, in_bounds}
use Rattle.entry.specs.Questions.{may_follow}
use Rattle.entry.specs.Inner.Places.{place, place_of, stands_behind}
use Rattle.entry.proofs.Fields.{mask_alone, answer_unknown, answer_mask, end_route, none_state, unbounded, in_bounds_lem, mask_fits, answer_fits}
use Rattle.entry.proofs.Fields.{none_fits, order_fits_lem}
use Rattle.entry.proofs.Made.{needed_other}
use Rattle.entry.proofs.Places.{place-monomial, place_other}
use Rattle.records.specs.declared.kinds.Kind.{Kind}
use Rattle.records.specs.declared.kinds.Kind.TheVariants as kinds
use Rattle.records.specs.declared.Seen.{Seen}
use Rattle.records.specs.Inner.Kinds.{byte_of, byte_before, stands_in_row, base_of, IsOf}
use Rattle.records.specs.Inner.Gathering.{seen_record}
use Rattle.records.proofs.Standing.{kind_known}

same : {A : Type 0} (b : Bool) (a : A) → cond b a a ≡ a
same true a = refl
same false a = refl

-- ---- monomials
-- of the kinds of which records hold one, the third
pub only_fact : (k : Kind) → stands_in_row k ≡ true → (k ≡ kinds.Answer → ⊥) → (k ≡ kinds.Condition → ⊥) → k ≡ kinds.Fact
only_fact kinds.Start s a c = never s refl
only_fact kinds.Condition s a c = absurd (c refl)
only_fact kinds.Answer s a c = absurd (a refl)
only_fact kinds.End s a c = never s refl
only_fact kinds.None s a c = never s refl
only_fact kinds.Order s a c = never s refl
only_fact kinds.Fact s a c = refl

module _ {k : Kind} (r : Record) (w : IsOf k r) where
  kind_as : (l : Kind) → k ≡ l → kind r ≡ byte_of l
  kind_as l e = w.is ∙ ap byte_of e

  pub holds_monomial : stands_in_row k ≡ true → is_monomial r ≡ true
  unfolding among fields
  holds_monomial s = rw w.is (go k s)
    where
      go : (k : Kind) → stands_in_row k ≡ true → among mask_field (fields (byte_of k)) ≡ true
      go kinds.Start s = never s refl
      go kinds.Condition s = refl
      go kinds.Answer s = refl
      go kinds.End s = never s refl
      go kinds.None s = never s refl
      go kinds.Order s = never s refl
      go kinds.Fact s = refl

  pub no_monomial : stands_in_row k ≡ false → is_monomial r ≡ false
  unfolding among fields
  no_monomial s = rw w.is (go k s)
    where
      go : (k : Kind) → stands_in_row k ≡ false → among mask_field (fields (byte_of k)) ≡ false
      go kinds.Start s = refl
      go kinds.Condition s = never refl s
      go kinds.Answer s = never refl s
      go kinds.End s = refl
      go kinds.None s = refl
      go kinds.Order s = refl
      go kinds.Fact s = never refl s

  pub answer_monomial : k ≡ kinds.Answer → {j m : ℕ} → j ≡ get_or r 1 0 → m ≡ get_or r 2 0 + 256 * get_or r 3 0
      → (j + 2 ≡ table_in r) × (m ≡ value_of mask_field r)
  unfolding among fields
  answer_monomial e {j} ej em =
      let is : kind r ≡ 3 = kind_as kinds.Answer e in
      let two : j + 2 ≡ suc (suc (get_or r 1 0)) = omega arith in
      (two ∙ rw (is, answer_unknown r is), em ∙ sym (answer_mask r is))

  pub condition_monomial : k ≡ kinds.Condition → {m : ℕ} → m ≡ get_or r 1 0 + 256 * get_or r 2 0
      → (1 ≡ table_in r) × (m ≡ value_of mask_field r)
  unfolding among fields
  condition_monomial e em = let is : kind r ≡ 2 = kind_as kinds.Condition e in (rw is, em ∙ sym (mask_alone r (rw is)))

  pub fact_monomial : k ≡ kinds.Fact → {m : ℕ} → m ≡ get_or r 1 0 + 256 * get_or r 2 0 → (0 ≡ table_in r) × (m ≡ value_of mask_field r)
  unfolding fields
  fact_monomial e em = let is : kind r ≡ 7 = kind_as kinds.Fact e in (rw is, em ∙ sym (mask_alone r (rw is)))

  pub table_least : base_of k ≤ table_in r
  unfolding among fields
  table_least = rw w.is (go k)
    where
      go : (k : Kind) → base_of k ≤ cond (eqb (byte_of k) 7) 0 (suc (cond (among unknown_field (fields (byte_of k))) (suc (value_of unknown_field r)) 0))
      go kinds.Start = omega arith
      go kinds.Condition = omega arith
      go kinds.Answer = omega arith
      go kinds.End = omega arith
      go kinds.None = omega arith
      go kinds.Order = omega arith
      go kinds.Fact = omega arith

  -- 12, of its monomial
  pub bounds_tell : (U G : ℕ) → stands_in_row k ≡ true
      → in_bounds U G r ≡ (ltb (table_in r) (U + 2) && ltb (value_of mask_field r) (2 ^ (U + G)))
  unfolding among fields
  bounds_tell U G s = go k w.is s
    where
      low : (i : ℕ) → i < 2 → ltb i (U + 2) ≡ true
      low i h = lt-ltb i (U + 2) (omega arith)

      two_more : (j : ℕ) → ltb j U ≡ ltb (suc (suc j)) (U + 2)
      two_more j =
          bool_iff (ltb j U) (ltb (suc (suc j)) (U + 2)) (λ e. lt-ltb _ _ (omega (arith, ltb-true j U e)))
          (λ e. lt-ltb _ _ (omega (arith, ltb-true (suc (suc j)) (U + 2) e)))

      go : (k : Kind) → kind r ≡ byte_of k → stands_in_row k ≡ true
          → in_bounds U G r ≡ (ltb (table_in r) (U + 2) && ltb (value_of mask_field r) (2 ^ (U + G)))
      go kinds.Start e s = never s refl
      go kinds.Condition e s = mask_fits U G r (rw e) (rw e) ∙ rw (e, low 1 (omega arith))
      go kinds.Answer e s = answer_fits U G r e ∙ rw (e, two_more (value_of unknown_field r))
      go kinds.End e s = never s refl
      go kinds.None e s = never s refl
      go kinds.Order e s = never s refl
      go kinds.Fact e s = mask_fits U G r (rw e) (rw e) ∙ rw (e, low 0 (omega arith))

  module _ (U G : ℕ) (s : stands_in_row k ≡ true) {i m end : ℕ} (ei : i ≡ table_in r) (em : m ≡ value_of mask_field r) (ee : end ≡ 2 ^ (U + G)) where
    told : in_bounds U G r ≡ (ltb i (U + 2) && ltb m end)
    told = bounds_tell U G s ∙ rw (ei, em, ee)

    pub bounds_yes : i < U + 2 → m < end → in_bounds U G r ≡ true
    bounds_yes a b = told ∙ rw (lt-ltb i (U + 2) a, lt-ltb m end b)

    pub table_beyond : U + 2 ≤ i → in_bounds U G r ≡ false
    table_beyond a = told ∙ rw (le-ltb i (U + 2) a)

    pub mask_beyond : i < U + 2 → end ≤ m → in_bounds U G r ≡ false
    mask_beyond a b = told ∙ rw (lt-ltb i (U + 2) a, le-ltb m end b)

-- the length of a table
pub whole_length : (l : Letters) → l.table_len ≡ 2 ^ (l.unknowns + l.givens)
whole_length l = l.table_len_is ∙ ap (λ (n : ℕ). 2 ^ n) l.n_is

pub length_small : (l : Letters) → l.table_len ≤ 1024
length_small l = let p : 2 ^ l.n ≤ 1024 = pow_mono l.n_fits in omega (arith, l.table_len_is)

-- the place, from the rank
pub place_is : (r : Record) → is_monomial r ≡ true → {i m n : ℕ} → i ≡ table_in r → m ≡ value_of mask_field r → n ≡ rank 10 m
    → 16384 * i + n + 1 ≡ place_of r
unfolding place
place_is r h ei em en = rw (en, ei, em, add-one) (sym (place-monomial r h))

-- ---- what has been seen with one more record
row_goes_on : (k : Kind) → stands_in_row k ≡ true → (eqb (byte_of k) 4 ≡ false) × (eqb (byte_of k) 5 ≡ false)
row_goes_on kinds.Start s = never s refl
row_goes_on kinds.Condition s = (refl, refl)
row_goes_on kinds.Answer s = (refl, refl)
row_goes_on kinds.End s = never s refl
row_goes_on kinds.None s = never s refl
row_goes_on kinds.Order s = never s refl
row_goes_on kinds.Fact s = (refl, refl)

module _ (route U G : ℕ) (x : Seen) {k : Kind} (r : Record) (w : IsOf k r) {follows : Bool}
    (ef : follows ≡ may_follow (byte_before x.kind) (byte_of k)) where
  -- with a monomial, within its bounds or not
  module _ (s : stands_in_row k ≡ true) where
    goes_on : eqb (byte_of k) 4 ≡ false
    goes_on = (row_goes_on k s).0

    says_state : eqb (byte_of k) 5 ≡ false
    says_state = (row_goes_on k s).1

    behind : stands_behind x.place (place_of r) ≡ ltb x.place (place_of r)
    unfolding stands_behind place
    behind =
        let some : eqb (place_of r) 0 ≡ false = ne_eqb _ _ (λ z. omega (arith, place-monomial r (holds_monomial r w s))) in rw some

    pub see_monomial : in_bounds U G r ≡ true → {p : ℕ} → p ≡ place_of r
        → record { kind = Some k; place = p; kinds = x.kinds && follows; numbers = x.numbers && ltb x.place p; none = x.none }
        ≡ seen_record route U G x r
    unfolding seen_record
    see_monomial b ep =
        rw (ef, w.is, kind_known k, ep, b, goes_on, says_state, behind, and-true (may_follow (byte_before x.kind) (byte_of k)))

    pub see_beyond : in_bounds U G r ≡ false
        → record { kind = Some k; place = 0; kinds = x.kinds && follows; numbers = false; none = x.none }
        ≡ seen_record route U G x r
    unfolding seen_record
    see_beyond b =
        rw (ef, w.is, kind_known k, b, goes_on, says_state, and-true (may_follow (byte_before x.kind) (byte_of k)), and-false x.numbers)

  -- with none
  see_other : stands_in_row k ≡ false → {fits kinds : Bool} {none : Option State} → fits ≡ in_bounds U G r
      → kinds ≡ (x.kinds && (follows && cond (eqb (byte_of k) 4) (eqb (value_of route_field r) route) true))
      → none ≡ cond (eqb (byte_of k) 5) (option_or x.none (Some (record { 0 = value_of state_field r }))) x.none
      → record { kind = Some k; place = 0; kinds = kinds; numbers = x.numbers && fits; none = none } ≡ seen_record route U G x r
  unfolding seen_record stands_behind
  see_other s {fits} ei ek en =
      rw (ek, ef, w.is, kind_known k, en, ei, place_other r (no_monomial r w s), and-true (in_bounds U G r), same {A = ℕ} (in_bounds U G r) 0)

  pub see_start : k ≡ kinds.Start
      → record { kind = Some k; place = 0; kinds = x.kinds && follows; numbers = x.numbers; none = x.none }
      ≡ seen_record route U G x r
  unfolding fields unbounded
  see_start e =
      let is : kind r ≡ 1 = kind_as r w kinds.Start e in
      ap (λ (b : Bool). record { kind = Some k; place = 0; kinds = x.kinds && follows; numbers = b; none = x.none }) (sym (and-true x.numbers))
      ∙ see_other (rw e) {fits = true} (sym (in_bounds_lem U G r (rw is) ∙ needed_other U r (rw is))) (rw e (ap (λ (b : Bool). x.kinds && b) (sym (and-true _)))) (rw e)

  pub see_end : k ≡ kinds.End
      → record { kind = Some k; place = 0; kinds = (x.kinds && follows) && eqb (get_or r 1 0) route; numbers = x.numbers; none = x.none }
      ≡ seen_record route U G x r
  unfolding fields unbounded
  see_end e =
      let is : kind r ≡ 4 = kind_as r w kinds.End e in
      ap (λ (b : Bool). record { kind = Some k; place = 0; kinds = (x.kinds && follows) && eqb (get_or r 1 0) route; numbers = b; none = x.none }) (sym (and-true x.numbers))
      ∙ see_other (rw e) {fits = true} (sym (in_bounds_lem U G r (rw is) ∙ needed_other U r (rw is))) (and_assoc x.kinds follows _ ∙ rw (e, end_route r is)) (rw e)

  pub see_none : k ≡ kinds.None → {v v' states : ℕ} {none : Option State} → v ≡ get_or r 1 0 → states ≡ 2 ^ G → v' ≡ get_or r 1 0
      → none ≡ option_or x.none (Some (record { 0 = v' }))
      → record {
        kind = Some k;
        place = 0;
        kinds = x.kinds && follows;
        numbers = x.numbers && ltb v states;
        none = none;
      }
      ≡ seen_record route U G x r
  unfolding fields unbounded
  see_none e ev es ev' en =
      let is : kind r ≡ 5 = kind_as r w kinds.None e in
      see_other (rw e) (rw (ev, es) (sym (none_fits U G r is ∙ rw (none_state r is))))
      (rw e (ap (λ (b : Bool). x.kinds && b) (sym (and-true _)))) (rw (en, e, none_state r is, ev'))

  pub see_order : k ≡ kinds.Order → {o : List ℕ} {d : Bool} → o ≡ drop 1 r → d ≡ is_default U o
      → record { kind = Some k; place = 0; kinds = x.kinds && follows; numbers = x.numbers && not d; none = x.none }
      ≡ seen_record route U G x r
  unfolding fields unbounded
  see_order e eo ed =
      let is : kind r ≡ 6 = kind_as r w kinds.Order e in
      see_other (rw e) (rw (ed, eo) (sym (order_fits_lem U G r is))) (rw e (ap (λ (b : Bool). x.kinds && b) (sym (and-true _)))) (rw e)
