-- Records that hold a monomial: what one says that was made for the monomial m of table i, and that it is the only one.
-- Assumes nothing.
use mathlib.Core.Path.{◌≡◌, refl, sym, ap, ◌∙◌}
use mathlib.Core.Bool.{Bool, true, false, ◌&&◌, ◌||◌, not, and-false, and-or_distrib_left}
use mathlib.Core.List.{List, [], ◌∷◌, map}
use mathlib.Core.Logic.{◌⊎◌, inl, inr}
use Prim.Native.Nat.{ℕ, zero, suc, ◌+◌, ◌^◌, ◌≤◌, ◌<◌}
use native.Mathlib.Omega.{arith}
use lib.Dec.{eqb}
use borrow.Author.Tests.{ltb-true, lt-ltb, eqb-true}
use Rattle.ring.specs.Polynomial.{every_below}
use Rattle.ring.specs.Lists.{has}
use Rattle.ring.proofs.Bool.{both, or_cases, bool_cases, never}
use Rattle.entry.specs.Record.{Record, unknown_field, mask_field, fields, kind, among, value_in, value_of, is_end, is_none, is_monomial}
use Rattle.entry.specs.Record.{is_fact, table_in, in_bounds}
use Rattle.entry.specs.Held.{has_monomial}
use Rattle.entry.specs.Inner.Codes.{monomial_record}
use Rattle.entry.proofs.Made.{given, all_fit, made_value, made_fits, field_fits_lem, every-kind, IsMade, AllMade, values_in, of_kind}
use Rattle.entry.proofs.Made.{made_is}

-- ---- one that was made
module _ (m : ℕ) where
  pub monomial-is : (i : ℕ) → is_monomial (monomial_record i m) ≡ true
  unfolding kind fields among
  monomial-is zero = refl
  monomial-is (suc zero) = refl
  monomial-is (suc (suc j)) = refl

  pub monomial_no_end : (i : ℕ) → is_end (monomial_record i m) ≡ false
  unfolding kind
  monomial_no_end zero = refl
  monomial_no_end (suc zero) = refl
  monomial_no_end (suc (suc j)) = refl

  pub monomial_no_none : (i : ℕ) → is_none (monomial_record i m) ≡ false
  unfolding kind
  monomial_no_none zero = refl
  monomial_no_none (suc zero) = refl
  monomial_no_none (suc (suc j)) = refl

  pub monomial_mask : (i : ℕ) → value_of mask_field (monomial_record i m) ≡ m
  unfolding fields given
  monomial_mask zero = made_value 7 (m ∷ []) refl mask_field
  monomial_mask (suc zero) = made_value 2 (m ∷ []) refl mask_field
  monomial_mask (suc (suc j)) = made_value 3 (j ∷ m ∷ []) refl mask_field

  pub monomial-table : (i : ℕ) → table_in (monomial_record i m) ≡ i
  unfolding kind fields among given
  monomial-table zero = refl
  monomial-table (suc zero) = refl
  monomial-table (suc (suc j)) = ap (λ (x : ℕ). suc (suc x)) (made_value 3 (j ∷ m ∷ []) refl unknown_field)

  pub monomial_bounds : (U G i : ℕ) → i ≤ suc U → m < 2 ^ (U + G) → in_bounds U G (monomial_record i m) ≡ true
  unfolding fields all_fit
  monomial_bounds U G zero h l = made_fits 7 (m ∷ []) refl refl U G ∙ both (lt-ltb m (2 ^ (U + G)) l) refl
  monomial_bounds U G (suc zero) h l = made_fits 2 (m ∷ []) refl refl U G ∙ both (lt-ltb m (2 ^ (U + G)) l) refl
  monomial_bounds U G (suc (suc j)) h l =
      made_fits 3 (j ∷ m ∷ []) refl refl U G ∙ both (lt-ltb j U (omega (arith, h))) (both (lt-ltb m (2 ^ (U + G)) l) refl)

-- the monomials of records that were made for table k
pub table-monomials : (i m k : ℕ) (ms : List ℕ) → has_monomial i m (map (monomial_record k) ms) ≡ (eqb i k && has m ms)
unfolding has_monomial has
table-monomials i m k [] = sym (and-false (eqb i k))
table-monomials i m k (x ∷ ms) =
    rw (monomial-is x k, monomial-table x k, monomial_mask x k, table-monomials i m k ms)
    (sym (and-or_distrib_left (eqb i k) (eqb m x) (has m ms)))

-- ---- one that stands in bytes
-- only kinds 2, 3 and 7 hold a monomial
pub data MaskKind (k : ℕ) : Type 0 where
  kind_2 : k ≡ 2 → MaskKind k
  kind_3 : k ≡ 3 → MaskKind k
  kind_7 : k ≡ 7 → MaskKind k

pub mask_kinds : (k : ℕ) → among mask_field (fields k) ≡ true → MaskKind k
unfolding among fields every_below
mask_kinds k h = go (or_cases (eqb k 2) (eqb k 3 || eqb k 7) (both_ways (among mask_field (fields k)) (every-kind test refl k some) h))
  where
    test : ℕ → Bool
    test k = not (among mask_field (fields k)) || (eqb k 2 || (eqb k 3 || eqb k 7))

    some : fields k ≡ [] → ⊥
    some e = never h (ap (among mask_field) e)

    both_ways : (b : Bool) → (not b || (eqb k 2 || (eqb k 3 || eqb k 7))) ≡ true → b ≡ true → (eqb k 2 || (eqb k 3 || eqb k 7)) ≡ true
    both_ways true e f = e
    both_ways false e f = never f refl

    further : (eqb k 3 ≡ true) ⊎ (eqb k 7 ≡ true) → MaskKind k
    further (inl e) = kind_3 (eqb-true k 3 e)
    further (inr e) = kind_7 (eqb-true k 7 e)

    go : (eqb k 2 ≡ true) ⊎ ((eqb k 3 || eqb k 7) ≡ true) → MaskKind k
    go (inl e) = kind_2 (eqb-true k 2 e)
    go (inr e) = further (or_cases (eqb k 3) (eqb k 7) e)

-- a record that holds a monomial is the one that is made for it
pub monomial_again : (r : Record) → IsMade r → is_monomial r ≡ true → r ≡ monomial_record (table_in r) (value_of mask_field r)
unfolding fields among value_of value_in values_in
monomial_again r w h = go (mask_kinds (kind r) h)
  where
    go : MaskKind (kind r) → r ≡ monomial_record (table_in r) (value_of mask_field r)
    go (kind_2 e) = of_kind 2 r w e ∙ rw e
    go (kind_3 e) = of_kind 3 r w e ∙ rw e
    go (kind_7 e) = of_kind 7 r w e ∙ rw e

pub monomials_made : (i : ℕ) (ms : List ℕ) → AllMade (map (monomial_record i) ms)
unfolding AllMade fields
monomials_made i [] = tt
monomials_made zero (m ∷ ms) = (made_is 7 (m ∷ []) refl, monomials_made zero ms)
monomials_made (suc zero) (m ∷ ms) = (made_is 2 (m ∷ []) refl, monomials_made (suc zero) ms)
monomials_made (suc (suc j)) (m ∷ ms) = (made_is 3 (j ∷ m ∷ []) refl, monomials_made (suc (suc j)) ms)

-- ---- question 12
pub mask_in_bounds : (U G : ℕ) (r : Record) → in_bounds U G r ≡ true → is_monomial r ≡ true → value_of mask_field r < 2 ^ (U + G)
mask_in_bounds U G r e h = ltb-true _ _ (field_fits_lem U G mask_field r h e)

pub table-in_bounds : (U G : ℕ) (r : Record) → in_bounds U G r ≡ true → table_in r ≤ suc U
table-in_bounds U G r e = go (bool_cases (is_fact r)) (bool_cases (among unknown_field (fields (kind r))))
  where
    go : (is_fact r ≡ true) ⊎ (is_fact r ≡ false) → (among unknown_field (fields (kind r)) ≡ true) ⊎ (among unknown_field (fields (kind r)) ≡ false)
        → table_in r ≤ suc U
    go (inl f) h = rw f (omega arith)
    go (inr f) (inl h) = let l : value_of unknown_field r < U = ltb-true _ _ (field_fits_lem U G unknown_field r h e) in rw (f, h) (omega arith)
    go (inr f) (inr h) = rw (f, h) (omega arith)
