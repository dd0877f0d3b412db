-- Question 12 by places is question 12. For masks below 2 ^ 10 the place rises exactly where a monomial stands before another: first by
-- table, then in written order.
-- Assumes nothing.
use mathlib.Core.Path.{◌≡◌, refl, sym, ◌∙◌}
use mathlib.Core.Bool.{true, false, ◌&&◌, ◌||◌, and-false}
use mathlib.Core.List.{List, [], ◌∷◌}
use mathlib.Core.Logic.{◌⊎◌, inl, inr}
use Prim.Native.Nat.{ℕ, suc, ◌+◌, ◌*◌, ◌^◌, ◌≤◌, ◌<◌}
use native.Mathlib.Omega.{arith}
use lib.Dec.{eqb, ltb}
use lib.Pow.{pow_mono}
use borrow.Author.Tests.{lt-ltb, ltb-true, ltb-false, eqb-true, eqb-false, ne_eqb}
use Rattle.ring.proofs.Bool.{bool_iff, and_left_comm, and_left, and_right, both, or_cases, or_right, bool_cases}
use Rattle.order.specs.Order.{before}
use Rattle.order.specs.Inner.Place.{rank}
use Rattle.order.proofs.Relation.{before_rank, rank_most}
use Rattle.entry.specs.Record.{Record, mask_field, fields, kind, among, value_of, is_monomial, table_in, body_fits, is_needed, in_bounds}
use Rattle.entry.specs.Questions.{all_in_bounds, stands_before, in_order, all_in_order}
use Rattle.entry.specs.Inner.Places.{place, place_of, stands_behind, fits_behind}
use Rattle.entry.specs.Inner.Codes.{monomial_record}
use Rattle.entry.proofs.Monomials.{mask_in_bounds, monomial-is, monomial-table, monomial_mask}

-- ---- places
pub rank_small : (m : ℕ) → m < 2 ^ 10 → rank 10 m < 16384
rank_small m h = omega (arith, rank_most 10 m h)

-- a table's places, above those of the tables before it
pub place_least : (i m : ℕ) → 16384 * i < place i m
unfolding place
place_least i m = omega arith

pub place_most : (i m : ℕ) → m < 2 ^ 10 → place i m ≤ 16384 * suc i
unfolding place
place_most i m h = omega (arith, rank_small m h)

-- within a table the place rises in written order
pub place-rises : (i m k : ℕ) → m < 2 ^ 10 → k < 2 ^ 10 → before m k ≡ true → place i m < place i k
unfolding place
place-rises i m k hm hk e = let l : rank 10 m < rank 10 k = ltb-true _ _ (sym (before_rank 10 m k hm hk) ∙ e) in omega arith

-- both together
place_before : (i m j k : ℕ) → m < 2 ^ 10 → k < 2 ^ 10 → (ltb i j || (eqb i j && before m k)) ≡ ltb (place i m) (place j k)
unfolding place
place_before i m j k hm hk =
    bool_iff _ _ (λ e. lt-ltb _ _ (up (or_cases (ltb i j) (eqb i j && before m k) e)))
    (λ e. down (bool_cases (ltb i j)) (bool_cases (eqb i j)) (ltb-true _ _ e))
  where
    sm : rank 10 m < 16384
    sm = rank_small m hm

    sk : rank 10 k < 16384
    sk = rank_small k hk

    up : (ltb i j ≡ true) ⊎ ((eqb i j && before m k) ≡ true) → suc (16384 * i + rank 10 m) < suc (16384 * j + rank 10 k)
    up (inl e) = omega (arith, ltb-true i j e, sm)
    up (inr e) =
        let l : rank 10 m < rank 10 k = ltb-true _ _ (sym (before_rank 10 m k hm hk) ∙ and_right (eqb i j) (before m k) e) in
        omega (arith, eqb-true i j (and_left (eqb i j) (before m k) e))

    same : eqb i j ≡ true → suc (16384 * i + rank 10 m) < suc (16384 * j + rank 10 k) → rank 10 m < rank 10 k
    same f l = omega (arith, eqb-true i j f)

    down : (ltb i j ≡ true) ⊎ (ltb i j ≡ false) → (eqb i j ≡ true) ⊎ (eqb i j ≡ false)
        → suc (16384 * i + rank 10 m) < suc (16384 * j + rank 10 k) → (ltb i j || (eqb i j && before m k)) ≡ true
    down (inl e) f l = rw e
    down (inr e) (inl f) l = or_right (ltb i j) (both f (before_rank 10 m k hm hk ∙ lt-ltb _ _ (same f l)))
    down (inr e) (inr f) l = let a : j ≤ i = ltb-false i j e in absurd (omega (arith, eqb-false i j f, sk))

-- ---- places of records
pub place-monomial : (r : Record) → is_monomial r ≡ true → place_of r ≡ place (table_in r) (value_of mask_field r)
unfolding place_of
place-monomial r h = rw h

pub place_other : (r : Record) → is_monomial r ≡ false → place_of r ≡ 0
unfolding place_of
place_other r h = rw h

-- of a record that was made for a monomial
pub place_made : (i m : ℕ) → place_of (monomial_record i m) ≡ place i m
place_made i m = place-monomial (monomial_record i m) (monomial-is m i) ∙ rw (monomial-table m i, monomial_mask m i)

pub mask_small : (n m : ℕ) → n ≤ 10 → m < 2 ^ n → m < 2 ^ 10
mask_small n m l h = let p : 2 ^ n ≤ 2 ^ 10 = pow_mono l in omega arith

module _ (U G : ℕ) (l : U + G ≤ 10) where
  in_order_places : (r s : Record) → in_bounds U G r ≡ true → in_bounds U G s ≡ true → in_order r s ≡ stands_behind (place_of r) (place_of s)
  unfolding in_order stands_behind stands_before
  in_order_places r s br bs = go (bool_cases (is_monomial r)) (bool_cases (is_monomial s))
    where
      go : (is_monomial r ≡ true) ⊎ (is_monomial r ≡ false) → (is_monomial s ≡ true) ⊎ (is_monomial s ≡ false)
          → in_order r s ≡ (eqb (place_of s) 0 || ltb (place_of r) (place_of s))
      go p (inr q) = rw (q, and-false (is_monomial r), place_other s q)
      go (inr p) (inl q) =
          rw (p, place_other r p, place-monomial s q)
          (sym (or_right (eqb (place (table_in s) (value_of mask_field s)) 0)
          (lt-ltb 0 (place (table_in s) (value_of mask_field s)) (omega (arith, place_least (table_in s) (value_of mask_field s))))))
      go (inl p) (inl q) =
          let hr : value_of mask_field r < 2 ^ 10 = mask_small (U + G) (value_of mask_field r) l (mask_in_bounds U G r br p) in
          let hs : value_of mask_field s < 2 ^ 10 = mask_small (U + G) (value_of mask_field s) l (mask_in_bounds U G s bs q) in
          rw (p, q, place-monomial r p, place-monomial s q, ne_eqb (place (table_in s) (value_of mask_field s)) 0 some)
          (place_before (table_in r) (value_of mask_field r) (table_in s) (value_of mask_field s) hr hs)
        where
          some : place (table_in s) (value_of mask_field s) ≡ 0 → ⊥
          some e = omega (arith, place_least (table_in s) (value_of mask_field s))

  fits_behind_lem : (p : Record) (rs : List Record) → in_bounds U G p ≡ true
      → fits_behind U G (place_of p) rs ≡ (all_in_bounds U G rs && all_in_order (p ∷ rs))
  unfolding fits_behind all_in_bounds all_in_order
  fits_behind_lem p [] b = refl
  fits_behind_lem p (r ∷ rs) b = go (bool_cases (in_bounds U G r)) (fits_behind_lem r rs)
    where
      go : (in_bounds U G r ≡ true) ⊎ (in_bounds U G r ≡ false)
          → (in_bounds U G r ≡ true → fits_behind U G (place_of r) rs ≡ (all_in_bounds U G rs && all_in_order (r ∷ rs)))
          → (in_bounds U G r && (stands_behind (place_of p) (place_of r) && fits_behind U G (place_of r) rs))
          ≡ ((in_bounds U G r && all_in_bounds U G rs) && (in_order p r && all_in_order (r ∷ rs)))
      go (inl e) ih = rw (e, ih e, ← in_order_places p r b e) (and_left_comm (in_order p r) (all_in_bounds U G rs) (all_in_order (r ∷ rs)))
      go (inr e) ih = rw e

  -- the law that the code's question 12 stands on
  pub numbers_by_places : (rs : List Record) → fits_behind U G 0 rs ≡ (all_in_bounds U G rs && all_in_order rs)
  unfolding all_in_order in_order place_of kind fields among in_bounds body_fits is_needed
  numbers_by_places [] = fits_behind_lem [] [] refl
  numbers_by_places (r ∷ rs) = fits_behind_lem [] (r ∷ rs) refl
