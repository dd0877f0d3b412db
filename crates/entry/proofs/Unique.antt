-- Monomials in rising places are told by which they are: two such lists of records with the same monomials are one. By induction on
-- both: the first of each stands in the other, and were it not first there, each would stand behind the other.
-- Assumes nothing.
use mathlib.Core.Path.{◌≡◌, refl, sym, ap₂, ◌∙◌}
use mathlib.Core.Bool.{Bool, true, false, ◌&&◌, ◌||◌, cond}
use mathlib.Core.List.{List, [], ◌∷◌, ◌++◌}
use mathlib.Core.Logic.{◌⊎◌, inl, inr}
use Prim.Native.Nat.{ℕ, suc, ◌+◌, ◌^◌, ◌≤◌, ◌<◌}
use native.Mathlib.Omega.{arith}
use lib.Dec.{eqb, ltb}
use borrow.Author.Tests.{ltb-true, eqb-true, eq-eqb, ne_eqb}
use Rattle.ring.proofs.Bool.{bool_iff, and_left, and_right, both, or_cases, bool_cases, never}
use Rattle.entry.specs.Record.{Record, mask_field, value_of, is_monomial, table_in, in_bounds}
use Rattle.entry.specs.Held.{has_monomial}
use Rattle.entry.specs.Inner.Places.{place, place_of, stands_behind, fits_behind}
use Rattle.entry.specs.Inner.Codes.{monomial_record}
use Rattle.entry.proofs.Made.{IsMade, AllMade}
use Rattle.entry.proofs.Monomials.{monomial_again, mask_in_bounds, table-in_bounds}
use Rattle.entry.proofs.Places.{place_least, place-monomial}

-- the records that hold a monomial
unfoldable pub only_monomials : List Record → List Record
only_monomials [] = []
only_monomials (r ∷ rs) = cond (is_monomial r) (r ∷ only_monomials rs) (only_monomials rs)

unfoldable pub all_monomials : List Record → Bool
all_monomials [] = true
all_monomials (r ∷ rs) = is_monomial r && all_monomials rs

pub only_all : (rs : List Record) → all_monomials (only_monomials rs) ≡ true
unfolding only_monomials all_monomials
only_all [] = refl
only_all (r ∷ rs) = go (bool_cases (is_monomial r)) (only_all rs)
  where
    go : (is_monomial r ≡ true) ⊎ (is_monomial r ≡ false) → all_monomials (only_monomials rs) ≡ true
        → all_monomials (cond (is_monomial r) (r ∷ only_monomials rs) (only_monomials rs)) ≡ true
    go (inl e) ih = rw e (both e ih)
    go (inr e) ih = rw e ih

pub only_has : (i m : ℕ) (rs : List Record) → has_monomial i m (only_monomials rs) ≡ has_monomial i m rs
unfolding only_monomials has_monomial
only_has i m [] = refl
only_has i m (r ∷ rs) = go (bool_cases (is_monomial r)) (only_has i m rs)
  where
    go : (is_monomial r ≡ true) ⊎ (is_monomial r ≡ false) → has_monomial i m (only_monomials rs) ≡ has_monomial i m rs
        → has_monomial i m (cond (is_monomial r) (r ∷ only_monomials rs) (only_monomials rs))
        ≡ ((is_monomial r && (eqb i (table_in r) && eqb m (value_of mask_field r))) || has_monomial i m rs)
    go (inl e) ih = rw e (rw (e, ih))
    go (inr e) ih = rw e ih

pub only_made : (rs : List Record) → AllMade rs → AllMade (only_monomials rs)
unfolding only_monomials AllMade
only_made [] h = tt
only_made (r ∷ rs) h = go (is_monomial r) (only_made rs h.1)
  where
    go : (b : Bool) → AllMade (only_monomials rs) → AllMade (cond b (r ∷ only_monomials rs) (only_monomials rs))
    go true ih = (h.0, ih)
    go false ih = ih

-- ---- one record
same_monomial : (r s : Record) → IsMade r → IsMade s → is_monomial r ≡ true → is_monomial s ≡ true → table_in r ≡ table_in s
    → value_of mask_field r ≡ value_of mask_field s → r ≡ s
same_monomial r s v w p q i m = monomial_again r v p ∙ ap₂ monomial_record i m ∙ sym (monomial_again s w q)

has_self : (r : Record) (rs : List Record) → is_monomial r ≡ true → has_monomial (table_in r) (value_of mask_field r) (r ∷ rs) ≡ true
unfolding has_monomial
has_self r rs h = rw (h, eq-eqb (table_in r) (table_in r) refl, eq-eqb (value_of mask_field r) (value_of mask_field r) refl)

-- it is the first record, or stands behind it
pub has_cases : (i m : ℕ) (r : Record) (rs : List Record) → has_monomial i m (r ∷ rs) ≡ true
    → ((is_monomial r ≡ true) × (i ≡ table_in r) × (m ≡ value_of mask_field r)) ⊎ (has_monomial i m rs ≡ true)
unfolding has_monomial
has_cases i m r rs h = go (or_cases (is_monomial r && (eqb i (table_in r) && eqb m (value_of mask_field r))) (has_monomial i m rs) h)
  where
    go : ((is_monomial r && (eqb i (table_in r) && eqb m (value_of mask_field r))) ≡ true) ⊎ (has_monomial i m rs ≡ true)
        → ((is_monomial r ≡ true) × (i ≡ table_in r) × (m ≡ value_of mask_field r)) ⊎ (has_monomial i m rs ≡ true)
    go (inl e) =
        let f : (eqb i (table_in r) && eqb m (value_of mask_field r))
        ≡ true = and_right (is_monomial r) (eqb i (table_in r) && eqb m (value_of mask_field r)) e in
        inl (
          and_left (is_monomial r) _ e,
          eqb-true _ _ (and_left (eqb i (table_in r)) (eqb m (value_of mask_field r)) f),
          eqb-true _ _
              (and_right (eqb i (table_in r)) (eqb m (value_of mask_field r)) f),
        )
    go (inr e) = inr e

-- ---- rising places
module _ (U G q : ℕ) (r : Record) (rs : List Record) (f : fits_behind U G q (r ∷ rs) ≡ true) where
  pub fits_bounds : in_bounds U G r ≡ true
  unfolding fits_behind
  fits_bounds = and_left (in_bounds U G r) _ f

  pub fits_rest : fits_behind U G (place_of r) rs ≡ true
  unfolding fits_behind
  fits_rest = and_right (stands_behind q (place_of r)) (fits_behind U G (place_of r) rs) (and_right (in_bounds U G r) _ f)

  fits_place : is_monomial r ≡ true → q < place (table_in r) (value_of mask_field r)
  unfolding fits_behind stands_behind
  fits_place h =
      let e : (eqb (place_of r) 0 || ltb q (place_of r))
      ≡ true = and_left _ (fits_behind U G (place_of r) rs) (and_right (in_bounds U G r) _ f) in
      let g : (eqb (place (table_in r) (value_of mask_field r)) 0 || ltb q (place (table_in r) (value_of mask_field r)))
      ≡ true = rw (place-monomial r h) at e in
      ltb-true _ _ (rw (ne_eqb (place (table_in r) (value_of mask_field r)) 0 some) at g)
    where
      some : place (table_in r) (value_of mask_field r) ≡ 0 → ⊥
      some e = omega (arith, place_least (table_in r) (value_of mask_field r))

-- a monomial in the records stands behind what they stand behind
above : (U G q i m : ℕ) (rs : List Record) → all_monomials rs ≡ true → fits_behind U G q rs ≡ true → has_monomial i m rs ≡ true → q < place i m
unfolding all_monomials has_monomial
above U G q i m [] a f h = never h refl
above U G q i m (r ∷ rs) a f h =
    go (above U G (place_of r) i m rs (and_right (is_monomial r) (all_monomials rs) a) (fits_rest U G q r rs f)) (has_cases i m r rs h)
  where
    mono : is_monomial r ≡ true
    mono = and_left (is_monomial r) (all_monomials rs) a

    first : q < place (table_in r) (value_of mask_field r)
    first = fits_place U G q r rs f mono

    go : (has_monomial i m rs ≡ true → place_of r < place i m)
        → ((is_monomial r ≡ true) × (i ≡ table_in r) × (m ≡ value_of mask_field r)) ⊎ (has_monomial i m rs ≡ true) → q < place i m
    go ih (inl e) = rw (e.1, e.2) first
    go ih (inr e) =
        let l : place (table_in r) (value_of mask_field r) < place i m = rw (place-monomial r mono) at (ih e) in omega (arith, first)

-- so it is not there a second time
once : (U G q : ℕ) (r : Record) (rs : List Record) → all_monomials (r ∷ rs) ≡ true → fits_behind U G q (r ∷ rs) ≡ true
    → has_monomial (table_in r) (value_of mask_field r) rs ≡ true → ⊥
unfolding all_monomials
once U G q r rs a f h =
    let l : place_of r < place (table_in r) (value_of mask_field r) = above U G (place_of r) (table_in r) (value_of mask_field r) rs
    (and_right (is_monomial r) (all_monomials rs) a) (fits_rest U G q r rs f) h in
    let e : place_of r ≡ place (table_in r) (value_of mask_field r) = place-monomial r (and_left (is_monomial r) (all_monomials rs) a) in
    omega arith

pub rising_unique : (U G p q : ℕ) (xs ys : List Record) → AllMade xs → AllMade ys → all_monomials xs ≡ true → all_monomials ys ≡ true
    → fits_behind U G p xs ≡ true → fits_behind U G q ys ≡ true
    → ((i m : ℕ) → has_monomial i m xs ≡ has_monomial i m ys) → xs ≡ ys
unfolding all_monomials has_monomial AllMade
rising_unique U G p q [] [] v w a b f g h = refl
rising_unique U G p q [] (y ∷ ys) v w a b f g h =
    never (has_self y ys (and_left (is_monomial y) (all_monomials ys) b)) (sym (h (table_in y) (value_of mask_field y)))
rising_unique U G p q (x ∷ xs) [] v w a b f g h =
    never (has_self x xs (and_left (is_monomial x) (all_monomials xs) a)) (h (table_in x) (value_of mask_field x))
rising_unique U G p q (x ∷ xs) (y ∷ ys) v w a b f g h =
    go (rising_unique U G (place_of x) (place_of y) xs ys v.1 w.1 (and_right (is_monomial x) (all_monomials xs) a)
    (and_right (is_monomial y) (all_monomials ys) b) (fits_rest U G p x xs f) (fits_rest U G q y ys g))
    (has_cases (table_in x) (value_of mask_field x) y ys (sym (h (table_in x) (value_of mask_field x)) ∙ has_self x xs mx))
    (has_cases (table_in y) (value_of mask_field y) x xs (h (table_in y) (value_of mask_field y) ∙ has_self y ys my))
  where
    mx : is_monomial x ≡ true
    mx = and_left (is_monomial x) (all_monomials xs) a

    my : is_monomial y ≡ true
    my = and_left (is_monomial y) (all_monomials ys) b

    tails : x ≡ y → (i m : ℕ)
        → ((is_monomial x && (eqb i (table_in x) && eqb m (value_of mask_field x))) ≡ true) ⊎
        ((is_monomial x && (eqb i (table_in x) && eqb m (value_of mask_field x))) ≡ false) → has_monomial i m xs ≡ has_monomial i m ys
    tails e i m (inl t) =
        let c : (eqb i (table_in x) && eqb m (value_of mask_field x))
        ≡ true = and_right (is_monomial x) (eqb i (table_in x) && eqb m (value_of mask_field x)) t in
        let ei : i ≡ table_in x = eqb-true _ _ (and_left (eqb i (table_in x)) (eqb m (value_of mask_field x)) c) in
        let em : m ≡ value_of mask_field x = eqb-true _ _ (and_right (eqb i (table_in x)) (eqb m (value_of mask_field x)) c) in
        bool_iff (has_monomial i m xs) (has_monomial i m ys)
        (λ k. absurd (once U G p x xs a f (rw (ei, em) at k)))
        (λ k. absurd (once U G q y ys b g (rw (ei, em, e) at k)))
    tails e i m (inr t) = let k : has_monomial i m (x ∷ xs) ≡ has_monomial i m (y ∷ ys) = h i m in rw (← e, t) at k

    same : (((i m : ℕ) → has_monomial i m xs ≡ has_monomial i m ys) → xs ≡ ys) → x ≡ y → x ∷ xs ≡ y ∷ ys
    same ih e = ap₂ ◌∷◌ e (ih (λ i m. tails e i m (bool_cases (is_monomial x && (eqb i (table_in x) && eqb m (value_of mask_field x))))))

    apart : place (table_in x) (value_of mask_field x) < place (table_in y) (value_of mask_field y)
        → place (table_in y) (value_of mask_field y) < place (table_in x) (value_of mask_field x) → ⊥
    apart k l = omega arith

    go : (((i m : ℕ) → has_monomial i m xs ≡ has_monomial i m ys) → xs ≡ ys)
        → ((is_monomial y ≡ true) × (table_in x ≡ table_in y) × (value_of mask_field x ≡ value_of mask_field y)) ⊎
        (has_monomial (table_in x) (value_of mask_field x) ys ≡ true)
        → ((is_monomial x ≡ true) × (table_in y ≡ table_in x) × (value_of mask_field y ≡ value_of mask_field x)) ⊎
        (has_monomial (table_in y) (value_of mask_field y) xs ≡ true) → x ∷ xs ≡ y ∷ ys
    go ih (inl e) k = same ih (same_monomial x y v.0 w.0 mx my e.1 e.2)
    go ih (inr e) (inl k) = same ih (sym (same_monomial y x w.0 v.0 my mx k.1 k.2))
    go ih (inr e) (inr k) =
        absurd (apart
        (rw (place-monomial x mx) at
        (above U G (place_of x) (table_in y) (value_of mask_field y) xs (and_right (is_monomial x) (all_monomials xs) a)
        (fits_rest U G p x xs f) k))
        (rw (place-monomial y my) at
        (above U G (place_of y) (table_in x) (value_of mask_field x) ys (and_right (is_monomial y) (all_monomials ys) b)
        (fits_rest U G q y ys g) e)))

-- ---- monomials in bounds
pub held_bounds : (U G q i m : ℕ) (rs : List Record) → fits_behind U G q rs ≡ true → has_monomial i m rs ≡ true → (i ≤ suc U) × (m < 2 ^ (U + G))
unfolding has_monomial
held_bounds U G q i m [] f h = never h refl
held_bounds U G q i m (r ∷ rs) f h = go (held_bounds U G (place_of r) i m rs (fits_rest U G q r rs f)) (has_cases i m r rs h)
  where
    go : (has_monomial i m rs ≡ true → (i ≤ suc U) × (m < 2 ^ (U + G)))
        → ((is_monomial r ≡ true) × (i ≡ table_in r) × (m ≡ value_of mask_field r)) ⊎ (has_monomial i m rs ≡ true) → (i ≤ suc U) × (m < 2 ^ (U + G))
    go ih (inl e) =
        (rw e.1 (table-in_bounds U G r (fits_bounds U G q r rs f)), rw e.2 (mask_in_bounds U G r (fits_bounds U G q r rs f) e.0))
    go ih (inr e) = ih e

-- the records in front fit by themselves
pub fits_front : (U G q : ℕ) (xs ys : List Record) → fits_behind U G q (xs ++ ys) ≡ true → fits_behind U G q xs ≡ true
unfolding fits_behind
fits_front U G q [] ys f = refl
fits_front U G q (x ∷ xs) ys f =
    both (fits_bounds U G q x (xs ++ ys) f)
    (both (and_left (stands_behind q (place_of x)) (fits_behind U G (place_of x) (xs ++ ys)) (and_right (in_bounds U G x) _ f))
    (fits_front U G (place_of x) xs ys (fits_rest U G q x (xs ++ ys) f)))
