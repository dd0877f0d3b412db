-- The laws of `keep`, `below` and `has`, the lists that the written order is made of.
-- Assumes nothing.
use mathlib.Core.Path.{◌≡◌, refl, sym, ap, ap₂, ◌∙◌}
use mathlib.Core.Bool.{Bool, true, false, cond, ◌&&◌, ◌||◌, and-false, and-true}
use mathlib.Core.List.{List, [], ◌∷◌, ◌++◌}
use mathlib.Core.Logic.{◌⊎◌, inl, inr}
use Prim.Native.Nat.{ℕ, zero, suc, ◌+◌, ◌≤◌, ◌<◌}
use native.Mathlib.Omega.{arith}
use lib.Dec.{eqb, ltb}
use lib.ListN.{length, length-append}
use borrow.Author.Tests.{lt-ltb, ltb-true, eqb-true, eqb-false, eq-eqb}
use Rattle.ring.proofs.Bool.{bool_iff, or_cases, or_right, bool_cases, never}
use Rattle.ring.proofs.Lists.{length-listed, listed_last, has_numbers}
use Rattle.ring.specs.Letters.{digit}
use Rattle.ring.specs.Lists.{listed, has}
use Rattle.ring.specs.Polynomial.{count}
use Rattle.order.specs.Order.{keep, below}

pub ltb_suc : (m k : ℕ) → ltb m (suc k) ≡ (ltb m k || eqb m k)
ltb_suc m k =
    sym (bool_iff (ltb m k || eqb m k) (ltb m (suc k)) (λ e. lt-ltb m (suc k) (up (or_cases _ _ e)))
    (λ e. down (ltb-true m (suc k) e) (bool_cases (eqb m k))))
  where
    up : (ltb m k ≡ true) ⊎ (eqb m k ≡ true) → m < suc k
    up (inl e) = omega (arith, ltb-true m k e)
    up (inr e) = omega (arith, eqb-true m k e)

    down : m < suc k → (eqb m k ≡ true) ⊎ (eqb m k ≡ false) → (ltb m k || eqb m k) ≡ true
    down l (inl e) = or_right (ltb m k) e
    down l (inr e) = rw (lt-ltb m k (omega (arith, eqb-false m k e)))

-- ---- keep
pub keep_append : (t : ℕ → Bool) (xs ys : List ℕ) → keep t (xs ++ ys) ≡ keep t xs ++ keep t ys
unfolding keep
keep_append t [] ys = refl
keep_append t (x ∷ xs) ys = go (t x) (keep_append t xs ys)
  where
    go : (b : Bool) → keep t (xs ++ ys) ≡ keep t xs ++ keep t ys
        → cond b (x ∷ keep t (xs ++ ys)) (keep t (xs ++ ys)) ≡ cond b (x ∷ keep t xs) (keep t xs) ++ keep t ys
    go true e = ap (λ (l : List ℕ). x ∷ l) e
    go false e = e

-- everything passes
pub keep-every : (t : ℕ → Bool) (xs : List ℕ) → ((m : ℕ) → has m xs ≡ true → t m ≡ true) → keep t xs ≡ xs
unfolding keep has
keep-every t [] h = refl
keep-every t (x ∷ xs) h =
    let r : keep t xs ≡ xs = keep-every t xs (λ m i. h m (or_right (eqb m x) i)) in
    rw (h x (rw (eq-eqb x x refl)), r)

-- two tests that agree on the list
pub keep_same : (t u : ℕ → Bool) (xs : List ℕ) → ((m : ℕ) → has m xs ≡ true → t m ≡ u m) → keep t xs ≡ keep u xs
unfolding keep has
keep_same t u [] h = refl
keep_same t u (x ∷ xs) h =
    let r : keep t xs ≡ keep u xs = keep_same t u xs (λ m i. h m (or_right (eqb m x) i)) in
    rw (h x (rw (eq-eqb x x refl)), r)

-- nothing passes
pub keep_none : (t : ℕ → Bool) (xs : List ℕ) → ((m : ℕ) → has m xs ≡ true → t m ≡ false) → keep t xs ≡ []
unfolding keep has
keep_none t [] h = refl
keep_none t (x ∷ xs) h = rw (h x (rw (eq-eqb x x refl))) (keep_none t xs (λ m i. h m (or_right (eqb m x) i)))

-- one test, and then another
pub keep_both : (t u : ℕ → Bool) (xs : List ℕ) → keep t (keep u xs) ≡ keep (λ m. t m && u m) xs
unfolding keep
keep_both t u [] = refl
keep_both t u (x ∷ xs) = go (u x) (keep_both t u xs)
  where
    go : (b : Bool) → keep t (keep u xs) ≡ keep (λ m. t m && u m) xs
        → keep t (cond b (x ∷ keep u xs) (keep u xs)) ≡ cond (t x && b) (x ∷ keep (λ m. t m && u m) xs) (keep (λ m. t m && u m) xs)
    go true e = rw (and-true (t x), e)
    go false e = rw (and-false (t x)) e

pub length-keep : (t : ℕ → Bool) (xs : List ℕ) → length (keep t xs) ≤ length xs
unfolding keep
length-keep t [] = omega arith
length-keep t (x ∷ xs) = go (t x) (length-keep t xs)
  where
    go : (b : Bool) → length (keep t xs) ≤ length xs → length (cond b (x ∷ keep t xs) (keep t xs)) ≤ suc (length xs)
    go true h = omega arith
    go false h = omega arith

-- two tests that no number passes both
pub length_either : (t u : ℕ → Bool) (xs : List ℕ) → ((m : ℕ) → t m ≡ true → u m ≡ false)
    → length (keep (λ m. t m || u m) xs) ≡ length (keep t xs) + length (keep u xs)
unfolding keep
length_either t u [] h = refl
length_either t u (x ∷ xs) h = go (t x) (u x) (h x) (length_either t u xs h)
  where
    go : (a b : Bool) → (a ≡ true → b ≡ false) → length (keep (λ m. t m || u m) xs) ≡ length (keep t xs) + length (keep u xs)
        → length (cond (a || b) (x ∷ keep (λ m. t m || u m) xs) (keep (λ m. t m || u m) xs))
        ≡ length (cond a (x ∷ keep t xs) (keep t xs)) + length (cond b (x ∷ keep u xs) (keep u xs))
    go true true e ih = never refl (e refl)
    go true false e ih = omega arith
    go false true e ih = omega arith
    go false false e ih = ih

-- as many as there were: all of them
pub keep_all : (t : ℕ → Bool) (xs : List ℕ) → length (keep t xs) ≡ length xs → keep t xs ≡ xs
unfolding keep
keep_all t [] h = refl
keep_all t (x ∷ xs) h = go (t x) (keep_all t xs) h
  where
    go : (b : Bool) → (length (keep t xs) ≡ length xs → keep t xs ≡ xs) → length (cond b (x ∷ keep t xs) (keep t xs)) ≡ suc (length xs)
        → cond b (x ∷ keep t xs) (keep t xs) ≡ x ∷ xs
    go true ih h = ap (λ (l : List ℕ). x ∷ l) (ih (omega arith))
    go false ih h = absurd (omega (arith, length-keep t xs))

-- ---- below
pub length-below : (k : ℕ) → length (below k) ≡ k
unfolding below
length-below k = length-listed k (λ i. i)

pub below_none : below 0 ≡ []
unfolding below listed
below_none = refl

pub below_last : (k : ℕ) → below (suc k) ≡ below k ++ (k ∷ [])
unfolding below
below_last k = listed_last k (λ i. i)

-- how many numbers below b pass
pub count-below : (t : ℕ → Bool) (b : ℕ) → length (keep t (below b)) ≡ count b t
unfolding count keep
count-below t zero = rw below_none
count-below t (suc b) =
    rw (below_last b, keep_append t (below b) (b ∷ []), length-append) (ap₂ ◌+◌ (count-below t b) (one (t b)))
  where
    one : (c : Bool) → length (cond c (b ∷ []) []) ≡ digit c
    one true = refl
    one false = refl

-- ---- has
pub has_keep : (t : ℕ → Bool) (m : ℕ) (xs : List ℕ) → has m (keep t xs) ≡ (t m && has m xs)
unfolding has keep
has_keep t m [] = sym (and-false (t m))
has_keep t m (x ∷ xs) = go (bool_cases (eqb m x)) (t x) refl (has_keep t m xs)
  where
    go : (eqb m x ≡ true) ⊎ (eqb m x ≡ false) → (b : Bool) → t x ≡ b → has m (keep t xs) ≡ (t m && has m xs)
        → has m (cond b (x ∷ keep t xs) (keep t xs)) ≡ (t m && (eqb m x || has m xs))
    go (inl e) true ex h = let ix : m ≡ x = eqb-true _ _ e in rw (e, ix, ex)
    go (inl e) false ex h = let ix : m ≡ x = eqb-true _ _ e in h ∙ rw (ix, ex)
    go (inr e) true ex h = rw (e, h) refl
    go (inr e) false ex h = rw e h

pub has_below : (m k : ℕ) → has m (below k) ≡ ltb m k
unfolding below
has_below m k = has_numbers m k
