-- What a record says, byte by byte, as the code looks at it; and which kinds have which fields.
-- Assumes nothing.
use mathlib.Core.Path.{◌≡◌, refl, ap, ◌∙◌}
use mathlib.Core.Bool.{Bool, true, false, ◌&&◌, ◌||◌, not, cond, and-true}
use mathlib.Core.List.{List, [], ◌∷◌}
use mathlib.Core.Logic.{◌⊎◌, inl, inr}
use Prim.Native.Nat.{ℕ, suc, ◌+◌, ◌*◌}
use native.Mathlib.Omega.{arith}
use lib.Dec.{eqb}
use lib.ListN.{length, get_or, take, drop}
use lib.Seq.{drop-drop, get_or-drop}
use borrow.Author.Tests.{eqb-true}
use Rattle.ring.specs.Polynomial.{every_below}
use Rattle.ring.specs.Lists.{has}
use Rattle.ring.proofs.Bool.{bool_cases, never}
use Rattle.entry.specs.Record.{Record, Field, route_field, unknowns_field, givens_field, unknown_field, mask_field, state_field, order_field}
use Rattle.entry.specs.Record.{layout, fields, width, size, kind, from_low_first, same_field, among, value_in, value_of, field_fits}
use Rattle.entry.specs.Record.{body_fits, is_order, is_default, is_needed, in_bounds}
use Rattle.entry.proofs.Made.{every-kind, needed_other}

-- ---- bytes
one_byte : (bs : List ℕ) → from_low_first (take 1 bs) ≡ get_or bs 0 0
unfolding from_low_first
one_byte [] = refl
one_byte (b ∷ bs) = omega arith

two_bytes : (bs : List ℕ) → from_low_first (take 2 bs) ≡ get_or bs 0 0 + 256 * get_or bs 1 0
unfolding from_low_first
two_bytes [] = refl
two_bytes (b ∷ []) = refl
two_bytes (b ∷ (c ∷ bs)) = omega arith

-- ---- each kind
module _ (r : Record) where
  pub start_route : kind r ≡ 1 → value_of route_field r ≡ get_or r 1 0
  unfolding value_of value_in fields
  start_route e = rw e (one_byte (drop 1 r) ∙ get_or-drop 1 r 0 0)

  pub start_unknowns : kind r ≡ 1 → value_of unknowns_field r ≡ get_or r 2 0
  unfolding value_of value_in fields
  start_unknowns e = rw (e, drop-drop 1 1 r) (one_byte (drop 2 r) ∙ get_or-drop 2 r 0 0)

  pub start_givens : kind r ≡ 1 → value_of givens_field r ≡ get_or r 3 0
  unfolding value_of value_in fields
  start_givens e = rw (e, drop-drop 1 1 r, drop-drop 1 2 r) (one_byte (drop 3 r) ∙ get_or-drop 3 r 0 0)

  -- a mask alone, as in kinds 2 and 7
  pub mask_alone : fields (kind r) ≡ mask_field ∷ [] → value_of mask_field r ≡ get_or r 1 0 + 256 * get_or r 2 0
  unfolding value_of value_in
  mask_alone e = rw e (two_bytes (drop 1 r) ∙ rw (get_or-drop 1 r 0 0, get_or-drop 1 r 1 0))

  pub answer_unknown : kind r ≡ 3 → value_of unknown_field r ≡ get_or r 1 0
  unfolding value_of value_in fields
  answer_unknown e = rw e (one_byte (drop 1 r) ∙ get_or-drop 1 r 0 0)

  pub answer_mask : kind r ≡ 3 → value_of mask_field r ≡ get_or r 2 0 + 256 * get_or r 3 0
  unfolding value_of value_in fields
  answer_mask e = rw (e, drop-drop 1 1 r) (two_bytes (drop 2 r) ∙ rw (get_or-drop 2 r 0 0, get_or-drop 2 r 1 0))

  pub end_route : kind r ≡ 4 → value_of route_field r ≡ get_or r 1 0
  unfolding value_of value_in fields
  end_route e = rw e (one_byte (drop 1 r) ∙ get_or-drop 1 r 0 0)

  pub none_state : kind r ≡ 5 → value_of state_field r ≡ get_or r 1 0
  unfolding value_of value_in fields
  none_state e = rw e (one_byte (drop 1 r) ∙ get_or-drop 1 r 0 0)

-- ---- kinds
-- a test of kinds that every kind of the layout passes, and every kind that has no fields
pub of_every : (test : ℕ → Bool) → every_below (suc (length layout)) test ≡ true → ((k : ℕ) → fields k ≡ [] → test k ≡ true) → (k : ℕ)
    → test k ≡ true
of_every test e none k = go (bool_cases (test k))
  where
    go : (test k ≡ true) ⊎ (test k ≡ false) → test k ≡ true
    go (inl t) = t
    go (inr f) = every-kind test e k (λ z. never (none k z) f)

other : (b : Bool) (c : Bool) → (not b || c) ≡ true → c ≡ false → b ≡ false
other true true e f = f
other true false e f = never e refl
other false c e f = refl

-- only these kinds have the field
pub lacks : (f : Field) (ks : List ℕ) → every_below (suc (length layout)) (λ k. not (among f (fields k)) || has k ks) ≡ true → (k : ℕ)
    → has k ks ≡ false → among f (fields k) ≡ false
unfolding among
lacks f ks e k h =
    other (among f (fields k)) (has k ks) (of_every (λ k. not (among f (fields k)) || has k ks) e (λ k z. rw z) k) h

-- a field that a record lacks
value_none : (f : Field) (fs : List Field) (bs : List ℕ) → among f fs ≡ false → value_in f fs bs ≡ 0
unfolding among value_in
value_none f [] bs h = refl
value_none f (g ∷ fs) bs h = go (bool_cases (same_field f g)) (value_none f fs (drop (width g) bs))
  where
    go : (same_field f g ≡ true) ⊎ (same_field f g ≡ false) → (among f fs ≡ false → value_in f fs (drop (width g) bs) ≡ 0)
        → cond (same_field f g) (from_low_first (take (width g) bs)) (value_in f fs (drop (width g) bs)) ≡ 0
    go (inl e) ih = let z : true ≡ false = rw e at h in never refl z
    go (inr e) ih = rw e (ih (rw e at h))

pub lacking : (f : Field) (r : Record) → among f (fields (kind r)) ≡ false → value_of f r ≡ 0
unfolding value_of
lacking f r h = value_none f (fields (kind r)) (drop 1 r) h

-- a body is in bounds where no field has any
unfoldable pub unbounded : List Field → Bool
unbounded [] = true
unbounded (route_field ∷ fs) = unbounded fs
unbounded (unknowns_field ∷ fs) = unbounded fs
unbounded (givens_field ∷ fs) = unbounded fs
unbounded (unknown_field ∷ fs) = false
unbounded (mask_field ∷ fs) = false
unbounded (state_field ∷ fs) = false
unbounded (order_field ∷ fs) = unbounded fs

body_unbounded : (U G : ℕ) (fs : List Field) (bs : List ℕ) → unbounded fs ≡ true → body_fits U G fs bs ≡ true
unfolding unbounded body_fits
body_unbounded U G [] bs h = refl
body_unbounded U G (route_field ∷ fs) bs h = body_unbounded U G fs (drop 1 bs) h
body_unbounded U G (unknowns_field ∷ fs) bs h = body_unbounded U G fs (drop 1 bs) h
body_unbounded U G (givens_field ∷ fs) bs h = body_unbounded U G fs (drop 1 bs) h
body_unbounded U G (unknown_field ∷ fs) bs h = never h refl
body_unbounded U G (mask_field ∷ fs) bs h = never h refl
body_unbounded U G (state_field ∷ fs) bs h = never h refl
body_unbounded U G (order_field ∷ fs) bs h = body_unbounded U G fs (drop 1 bs) h

pub in_bounds_lem : (U G : ℕ) (r : Record) → unbounded (fields (kind r)) ≡ true → in_bounds U G r ≡ is_needed U r
unfolding in_bounds
in_bounds_lem U G r h = rw (body_unbounded U G (fields (kind r)) (drop 1 r) h)

-- 12, of each kind that has bounds
module _ (U G : ℕ) (r : Record) where
  pub mask_fits : fields (kind r) ≡ mask_field ∷ [] → is_order r ≡ false → in_bounds U G r ≡ field_fits U G mask_field (value_of mask_field r)
  unfolding in_bounds body_fits value_of value_in
  mask_fits e n = rw (needed_other U r n, e) (and-true _ ∙ and-true _)

  pub answer_fits : kind r ≡ 3
      → in_bounds U G r ≡ (field_fits U G unknown_field (value_of unknown_field r) && field_fits U G mask_field (value_of mask_field r))
  unfolding in_bounds body_fits value_of value_in fields
  answer_fits e =
      let n : is_order r ≡ false = rw e in
      rw (needed_other U r n, e) (and-true _ ∙ ap (◌&&◌ (field_fits U G unknown_field _)) (and-true _))

  pub none_fits : kind r ≡ 5 → in_bounds U G r ≡ field_fits U G state_field (value_of state_field r)
  unfolding in_bounds body_fits value_of value_in fields
  none_fits e = let n : is_order r ≡ false = rw e in rw (needed_other U r n, e) (and-true _ ∙ and-true _)

  pub order_fits_lem : kind r ≡ 6 → in_bounds U G r ≡ not (is_default U (drop 1 r))
  unfolding is_needed fields unbounded
  order_fits_lem e = in_bounds_lem U G r (rw e) ∙ rw e

-- ---- sizes
-- 0 where there is no such kind
pub no_size : (ks : List ℕ) → every_below (suc (length layout)) (λ k. has k ks || eqb (size k) 0) ≡ true → (k : ℕ) → has k ks ≡ false
    → size k ≡ 0
unfolding size
no_size ks e k h =
    let t : (has k ks || eqb (size k) 0) ≡ true = of_every (λ k. has k ks || eqb (size k) 0) e (λ k z. right (has k ks) (rw z)) k in
    eqb-true _ _ (rw h at t)
  where
    right : (a : Bool) {b : Bool} → b ≡ true → (a || b) ≡ true
    right true f = refl
    right false f = f
