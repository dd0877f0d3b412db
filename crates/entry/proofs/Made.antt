-- Records by their layout: what stands in a record that was made is read from it again, and a whole record is made from what it says.
-- Each law goes by induction on the fields of a kind, so that it holds of any kind that `layout` has.
-- Assumes nothing.
use mathlib.Core.Path.{◌≡◌, refl, sym, ap, ap₂, ◌∙◌}
use mathlib.Core.Bool.{Bool, true, false, ◌&&◌, cond, and-true}
use mathlib.Core.List.{List, [], ◌∷◌, ◌++◌}
use mathlib.Core.Logic.{◌⊎◌, inl, inr}
use Prim.Native.Nat.{ℕ, zero, suc, ◌+◌, ◌*◌, ◌/◌, ◌%◌, ◌≤◌, ◌<◌}
use native.Mathlib.Omega.{arith}
use lib.Dec.{eqb, ltb}
use lib.ListN.{length, take, drop, length-append, length-drop, take-append-drop, get_or-eq_default}
use lib.Seq.{take_at, drop_at, get_or-drop, length-take-le}
use borrow.Author.Tests.{ltb-true, ltb-false, eqb-true}
use Rattle.ring.specs.Polynomial.{every_below}
use Rattle.ring.proofs.Bool.{and_left, and_right, bool_cases, never}
use Rattle.ring.proofs.Every.{every_all}
use Rattle.entry.specs.Record.{Record, Field, route_field, unknowns_field, givens_field, unknown_field, mask_field, state_field, order_field}
use Rattle.entry.specs.Record.{layout, fields, width, widths, size_with, size, kind, low_first, from_low_first, body_of, record_of, place}
use Rattle.entry.specs.Record.{same_field, among, value_in, value_of, field_fits, body_fits, is_order, is_needed, in_bounds, AreBytes}

-- ---- numbers in bytes
length_low : (w v : ℕ) → length (low_first w v) ≡ w
unfolding low_first
length_low zero v = refl
length_low (suc zero) v = refl
length_low (suc (suc w)) v = ap suc (length_low (suc w) (v / 256))

low_back : (w v : ℕ) → from_low_first (low_first (suc w) v) ≡ v
unfolding low_first from_low_first
low_back zero v = omega arith
low_back (suc w) v = rw (low_back w (v / 256)) (omega arith)

low_byte : (a b : ℕ) → a < 256 → (a + 256 * b) % 256 ≡ a
low_byte a b h = omega arith

high_byte : (a b : ℕ) → a < 256 → (a + 256 * b) / 256 ≡ b
high_byte a b h = omega arith

back_low : (bs : List ℕ) → AreBytes bs → low_first (length bs) (from_low_first bs) ≡ bs
unfolding low_first from_low_first
back_low [] w = refl
back_low (b ∷ []) w = ap (λ (x : ℕ). x ∷ []) (omega arith)
back_low (b ∷ (c ∷ bs)) w =
    ap₂ (λ (x : ℕ) (xs : List ℕ). x ∷ xs) (low_byte b (from_low_first (c ∷ bs)) (w 0))
    (ap (low_first (suc (length bs))) (high_byte b (from_low_first (c ∷ bs)) (w 0)) ∙ back_low (c ∷ bs) (λ i. w (suc i)))

-- ---- one field
some_width : (f : Field) → (w : ℕ) × (width f ≡ suc w)
some_width route_field = (0, refl)
some_width unknowns_field = (0, refl)
some_width givens_field = (0, refl)
some_width unknown_field = (0, refl)
some_width mask_field = (1, refl)
some_width state_field = (0, refl)
some_width order_field = (0, refl)

module _ (f : Field) (v : ℕ) (bs : List ℕ) where
  field_back : from_low_first (take (width f) (low_first (width f) v ++ bs)) ≡ v
  field_back =
      ap from_low_first (take_at (low_first (width f) v) bs (width f) (length_low (width f) v))
      ∙ rw (some_width f).1 (low_back (some_width f).0 v)

  behind_field : drop (width f) (low_first (width f) v ++ bs) ≡ bs
  behind_field = drop_at (low_first (width f) v) bs (width f) (length_low (width f) v)

-- two fields are one if they have the same place
field_at_lem : ℕ → Field
field_at_lem zero = route_field
field_at_lem (suc zero) = unknowns_field
field_at_lem (suc (suc zero)) = givens_field
field_at_lem (suc (suc (suc zero))) = unknown_field
field_at_lem (suc (suc (suc (suc zero)))) = mask_field
field_at_lem (suc (suc (suc (suc (suc zero))))) = state_field
field_at_lem (suc (suc (suc (suc (suc (suc i)))))) = order_field

field_at : (f : Field) → field_at_lem (place f) ≡ f
unfolding field_at_lem
field_at route_field = refl
field_at unknowns_field = refl
field_at givens_field = refl
field_at unknown_field = refl
field_at mask_field = refl
field_at state_field = refl
field_at order_field = refl

same_field_lem : (f g : Field) → same_field f g ≡ true → f ≡ g
same_field_lem f g e = sym (field_at f) ∙ ap field_at_lem (eqb-true (place f) (place g) e) ∙ field_at g

-- ---- bodies that are made
-- the value that is put for a field
unfoldable pub given : Field → List Field → List ℕ → ℕ
given f [] vs = 0
given f (g ∷ fs) [] = 0
given f (g ∷ fs) (v ∷ vs) = cond (same_field f g) v (given f fs vs)

-- every value that is put is in bounds
unfoldable pub all_fit : ℕ → ℕ → List Field → List ℕ → Bool
all_fit U G [] vs = true
all_fit U G (f ∷ fs) [] = true
all_fit U G (f ∷ fs) (v ∷ vs) = field_fits U G f v && all_fit U G fs vs

length_body : (fs : List Field) (vs : List ℕ) → length vs ≡ length fs → length (body_of fs vs) ≡ widths fs
unfolding body_of widths
length_body [] vs h = refl
length_body (f ∷ fs) [] h = absurd (omega arith)
length_body (f ∷ fs) (v ∷ vs) h =
    length-append (low_first (width f) v) (body_of fs vs)
    ∙ ap₂ ◌+◌ (length_low (width f) v) (length_body fs vs (omega arith))

value_body : (f : Field) (fs : List Field) (vs : List ℕ) → length vs ≡ length fs → value_in f fs (body_of fs vs) ≡ given f fs vs
unfolding body_of value_in given
value_body f [] vs h = refl
value_body f (g ∷ fs) [] h = absurd (omega arith)
value_body f (g ∷ fs) (v ∷ vs) h =
    rw (field_back g v (body_of fs vs), behind_field g v (body_of fs vs)) (ap (cond (same_field f g) v) (value_body f fs vs (omega arith)))

fits_body : (U G : ℕ) (fs : List Field) (vs : List ℕ) → length vs ≡ length fs → body_fits U G fs (body_of fs vs) ≡ all_fit U G fs vs
unfolding body_of body_fits all_fit
fits_body U G [] vs h = refl
fits_body U G (f ∷ fs) [] h = absurd (omega arith)
fits_body U G (f ∷ fs) (v ∷ vs) h =
    rw (field_back f v (body_of fs vs), behind_field f v (body_of fs vs)) (ap (◌&&◌ (field_fits U G f v)) (fits_body U G fs vs (omega arith)))

-- every record but a kind 6 is needed
pub needed_other : (U : ℕ) (r : Record) → is_order r ≡ false → is_needed U r ≡ true
unfolding is_needed
needed_other U r e = rw e

-- ---- records that are made: their kind, their size, and what they say
module _ (k : ℕ) (vs : List ℕ) (h : length vs ≡ length (fields k)) where
  pub made_value : (f : Field) → value_of f (record_of k vs) ≡ given f (fields k) vs
  unfolding value_of kind
  made_value f = value_body f (fields k) vs h

  -- of any kind but 6
  pub made_fits : eqb k 6 ≡ false → (U G : ℕ) → in_bounds U G (record_of k vs) ≡ all_fit U G (fields k) vs
  unfolding in_bounds kind
  made_fits e U G = rw (needed_other U (record_of k vs) e) (and-true _ ∙ fits_body U G (fields k) vs h)

-- ---- what question 12 tells of a field
value_fits : (U G : ℕ) (f : Field) (fs : List Field) (bs : List ℕ) → among f fs ≡ true → body_fits U G fs bs ≡ true
    → field_fits U G f (value_in f fs bs) ≡ true
unfolding among body_fits value_in
value_fits U G f [] bs h b = never h refl
value_fits U G f (g ∷ fs) bs h b = go (bool_cases (same_field f g)) (value_fits U G f fs (drop (width g) bs))
  where
    here : field_fits U G g (from_low_first (take (width g) bs)) ≡ true
    here = and_left (field_fits U G g (from_low_first (take (width g) bs))) (body_fits U G fs (drop (width g) bs)) b

    behind : body_fits U G fs (drop (width g) bs) ≡ true
    behind = and_right (field_fits U G g (from_low_first (take (width g) bs))) (body_fits U G fs (drop (width g) bs)) b

    go : (same_field f g ≡ true) ⊎ (same_field f g ≡ false)
        → (among f fs ≡ true → body_fits U G fs (drop (width g) bs) ≡ true → field_fits U G f (value_in f fs (drop (width g) bs)) ≡ true)
        → field_fits U G f (cond (same_field f g) (from_low_first (take (width g) bs)) (value_in f fs (drop (width g) bs))) ≡ true
    go (inl e) ih = rw e (ap (λ (x : Field). field_fits U G x (from_low_first (take (width g) bs))) (same_field_lem f g e) ∙ here)
    go (inr e) ih = rw e (ih (rw e at h) behind)

pub field_fits_lem : (U G : ℕ) (f : Field) (r : Record) → among f (fields (kind r)) ≡ true → in_bounds U G r ≡ true
    → field_fits U G f (value_of f r) ≡ true
unfolding in_bounds value_of
field_fits_lem U G f r h b =
    value_fits U G f (fields (kind r)) (drop 1 r) h (and_left (body_fits U G (fields (kind r)) (drop 1 r)) (is_needed U r) b)

-- ---- kinds
-- a test that every kind of the layout passes is passed by every kind that has fields
pub every-kind : (test : ℕ → Bool) → every_below (suc (length layout)) test ≡ true → (k : ℕ) → (fields k ≡ [] → ⊥) → test k ≡ true
unfolding fields
every-kind test e k s = go (bool_cases (ltb k (suc (length layout))))
  where
    past : (k : ℕ) → suc (length layout) ≤ k → fields k ≡ []
    past zero h = absurd (omega arith)
    past (suc k) h = get_or-eq_default layout [] {n = k} (omega arith)

    go : (ltb k (suc (length layout)) ≡ true) ⊎ (ltb k (suc (length layout)) ≡ false) → test k ≡ true
    go (inl h) = every_all (suc (length layout)) test e k (ltb-true _ _ h)
    go (inr h) = absurd (s (past k (ltb-false _ _ h)))

-- ---- whole records
-- as many bytes as its kind fixes, each a byte; no bytes at all are no record, and pass too
pub record IsRecord (r : Record) : Type 0 where
  pub whole : length r ≡ size (kind r)
  pub are_bytes : AreBytes r

-- the values that a body holds
unfoldable pub values_in : List Field → List ℕ → List ℕ
values_in [] bs = []
values_in (f ∷ fs) bs = from_low_first (take (width f) bs) ∷ values_in fs (drop (width f) bs)

pub take-bytes : (k : ℕ) (bs : List ℕ) → AreBytes bs → AreBytes (take k bs)
take-bytes zero bs w i = omega arith
take-bytes (suc k) [] w i = omega arith
take-bytes (suc k) (b ∷ bs) w zero = w 0
take-bytes (suc k) (b ∷ bs) w (suc i) = take-bytes k bs (λ i. w (suc i)) i

pub drop-bytes : (k : ℕ) (bs : List ℕ) → AreBytes bs → AreBytes (drop k bs)
drop-bytes k bs w i = rw (get_or-drop k bs i 0) (w (k + i))

body_back : (fs : List Field) (bs : List ℕ) → length bs ≡ widths fs → AreBytes bs → body_of fs (values_in fs bs) ≡ bs
unfolding body_of values_in widths
body_back [] [] h w = refl
body_back [] (b ∷ bs) h w = absurd (omega arith)
body_back (f ∷ fs) bs h w =
    let l : length (take (width f) bs) ≡ width f = length-take-le (width f) bs (omega arith) in
    let e : low_first (width f) (from_low_first (take (width f) bs)) ≡ take (width f) bs =
    ap (λ (k : ℕ). low_first k (from_low_first (take (width f) bs))) (sym l) ∙ back_low (take (width f) bs) (take-bytes (width f) bs w) in
    let d : length (drop (width f) bs) ≡ widths fs = rw (length-drop (width f) bs) (omega arith) in
    ap₂ ◌++◌ e (body_back fs (drop (width f) bs) d (drop-bytes (width f) bs w)) ∙ take-append-drop (width f) bs

-- it is made from its kind and the values that it holds
unfoldable pub IsMade : Record → Type 0
IsMade r = r ≡ record_of (kind r) (values_in (fields (kind r)) (drop 1 r))

pub whole_made : (b : ℕ) (bs : List ℕ) → IsRecord (b ∷ bs) → IsMade (b ∷ bs)
unfolding IsMade size kind
whole_made b bs w = ap (λ (l : List ℕ). b ∷ l) (sym (go (fields b) w.whole))
  where
    go : (fs : List Field) → suc (length bs) ≡ size_with fs → body_of fs (values_in fs bs) ≡ bs
    go [] e = absurd (omega arith)
    go (f ∷ fs) e = body_back (f ∷ fs) bs (omega arith) (λ i. w.are_bytes (suc i))

-- so is one that was made
values_body : (fs : List Field) (vs : List ℕ) → length vs ≡ length fs → values_in fs (body_of fs vs) ≡ vs
unfolding body_of values_in
values_body [] [] h = refl
values_body [] (v ∷ vs) h = absurd (omega arith)
values_body (f ∷ fs) [] h = absurd (omega arith)
values_body (f ∷ fs) (v ∷ vs) h =
    rw (field_back f v (body_of fs vs), behind_field f v (body_of fs vs)) (ap (λ (l : List ℕ). v ∷ l) (values_body fs vs (omega arith)))

pub made_is : (k : ℕ) (vs : List ℕ) → length vs ≡ length (fields k) → IsMade (record_of k vs)
unfolding IsMade kind
made_is k vs h = ap (λ (l : List ℕ). record_of k l) (sym (values_body (fields k) vs h))

-- every one of some records is made
unfoldable pub AllMade : List Record → Type 0
AllMade [] = Unit
AllMade (r ∷ rs) = IsMade r × AllMade rs

pub all_made_append : (rs ss : List Record) → AllMade rs → AllMade ss → AllMade (rs ++ ss)
unfolding AllMade
all_made_append [] ss h k = k
all_made_append (r ∷ rs) ss h k = (h.0, all_made_append rs ss h.1 k)

-- a record of a kind, by the values that it holds
pub of_kind : (k : ℕ) (r : Record) → IsMade r → kind r ≡ k → r ≡ record_of k (values_in (fields k) (drop 1 r))
unfolding IsMade
of_kind k r h e = h ∙ rw e
