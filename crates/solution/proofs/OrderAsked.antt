-- Question 17 as the code asks it: counts from the front of the bytes, and no order of more than six unknowns.
-- Assumes nothing.
use mathlib.Core.Path.{◌≡◌, refl, sym, ap, ap₂, subst, ◌∙◌}
use mathlib.Core.Bool.{Bool, true, false, cond, ◌&&◌}
use mathlib.Core.List.{List, [], ◌∷◌}
use Prim.Native.Nat.{ℕ, zero, suc, ◌+◌, ◌-◌, ◌<◌, ◌≤◌}
use native.Mathlib.Nat.{add-zero}
use native.Mathlib.Omega.{arith}
use lib.Dec.{eqb, ltb}
use lib.ListN.{length, take, drop, get_or, length-take, length-drop, get_or-eq_default}
use lib.Seq.{get_or-take, get_or-drop}
use borrow.Author.Tests.{ltb-true, ltb-false}
use denote.Param.Members.{Mut, Called}
use Rattle.std.specs.Array.{IsFromFnResult, IsFromFnResultFrom}
use Rattle.std.specs.List.{count_by, list_all, range_with_len}
use Rattle.std.proofs.lemmas.List.Recursion.{is_count_by}
use Rattle.ring.specs.Letters.{digit}
use Rattle.ring.specs.Polynomial.{every_below}
use Rattle.ring.specs.Lists.{listed, times}
use Rattle.ring.proofs.Every.{every_first, every_cong}
use Rattle.ring.proofs.Lists.{length-listed, get_d_listed, listed_get_d, listed_cong}
use Rattle.solution.specs.Condition.{default_order}
use Rattle.solution.specs.Order.{order_fits}
use Rattle.solution.proofs.Order.{fits_six, fits_length}

-- ---- how often x stands in s
pub times_counts : (x : ℕ) (s : List ℕ) → count_by (λ y. eqb x y) s ≡ times x s
unfolding times
times_counts x s = sym (is_count_by (times x) (λ y. eqb x y) refl (λ y ys. each (eqb x y) (times x ys)) s)
  where
    each : (b : Bool) (n : ℕ) → digit b + n ≡ cond b (1 + n) n
    each true n = refl
    each false n = omega arith

-- ---- a test that all bytes pass, or all numbers below a bound
pub all_bytes : (p : ℕ → Bool) (s : List ℕ) → list_all p s ≡ every_below (length s) (λ i. p (get_or s i 0))
unfolding every_below
all_bytes p [] = refl
all_bytes p (x ∷ s) = rw (all_bytes p s) (sym (every_first (length s) (λ i. p (get_or (x ∷ s) i 0))))

all_from : (p : ℕ → Bool) (a n : ℕ) → list_all p (range_with_len a n) ≡ every_below n (λ i. p (a + i))
unfolding every_below
all_from p a zero = refl
all_from p a (suc n) = rw (all_from p (a + 1) n)
    (ap₂ ◌&&◌ (ap p (omega arith)) (every_cong n _ _ (λ i l. ap p (omega arith))) ∙ sym (every_first n (λ i. p (a + i))))

pub all_numbers : (p : ℕ → Bool) (n : ℕ) → list_all p (range_with_len 0 n) ≡ every_below n p
all_numbers p n = all_from p 0 n ∙ every_cong n _ _ (λ i l. ap p (omega arith))

-- ---- question 17
pub many_refused : (U : ℕ) (bytes : List ℕ) → 6 < U → false ≡ order_fits U bytes
many_refused U bytes many = go (order_fits U bytes) refl
  where
    go : (b : Bool) → order_fits U bytes ≡ b → false ≡ b
    go true e = absurd (omega (arith, fits_length U bytes e, fits_six U bytes e, length-take U bytes))
    go false e = refl

module _ (U : ℕ) (bytes : List ℕ) (six : length bytes ≡ 6) {each : Bool}
    (asked : each ≡ every_below U (λ x. eqb (times x (take U bytes)) 1)) where
  pub each_refused : each ≡ false → false ≡ order_fits U bytes
  unfolding order_fits
  each_refused no_to = rw (six, ← asked, no_to)

  abbrev rest : List ℕ
  rest = take (6 - U) (drop U bytes)

  pub rest_asked : U ≤ 6 → each ≡ true → {r : Bool} → r ≡ every_below (length rest) (λ i. eqb (get_or rest i 0) 255) → r ≡ order_fits U bytes
  unfolding order_fits
  rest_asked few yes-each e =
      let size : length rest ≡ 6 - U = omega (arith, length-take (6 - U) (drop U bytes), length-drop U bytes) in
      e ∙ rw (six, ← asked, yes-each, size)
      (every_cong (6 - U) _ _
      (λ i l. ap (λ (y : ℕ). eqb y 255) (get_or-take (6 - U) (drop U bytes) i 0 l ∙ get_or-drop U bytes i 0)))

-- ---- the order 0, 1, 2, ..
pub default_at : (u i : ℕ) → cond (ltb i u) i 255 ≡ get_or (default_order u) i 255
unfolding default_order
default_at u i = go (ltb i u) refl
  where
    go : (b : Bool) → ltb i u ≡ b → cond b i 255 ≡ get_or (listed u (λ j. j)) i 255
    go true e = sym (get_d_listed u (λ j. j) i 255 (ltb-true _ _ e))
    go false e = sym (get_or-eq_default (listed u (λ j. j)) 255 {n = i} (omega (arith, length-listed u (λ j. j), ltb-false i u e)))

-- ---- what calls at 0, 1, 2 and so on made, where each gives h of its number and leaves the closure as it was
module _ {F : Type 0} (g : Mut F (ℕ × Unit {0}) ℕ) (h : ℕ → ℕ) (f : F)
    (call : (i : ℕ) (y : ℕ) (q : F) → Called g f (i, tt) y q → (q ≡ f) × (y ≡ h i)) (ys : List ℕ) where
  made_from : (n i : ℕ) → IsFromFnResultFrom g f ys i n → (k : ℕ) → k < n → get_or ys (i + k) 0 ≡ h (i + k)
  made_from zero i e k l = absurd (omega arith)
  made_from (suc n) i (q, y, is, gave, more) zero l = rw add-zero (is.1 0 ∙ (call i y q gave).1)
  made_from (suc n) i (q, y, is, gave, more) (suc k) l =
      let kept = subst (λ p. IsFromFnResultFrom g p ys (i + 1) n) (call i y q gave).0 more in
      let next : i + suc k ≡ i + 1 + k = omega arith in
      rw next (made_from n (i + 1) kept k (omega arith))

  pub made_by : (n : ℕ) → IsFromFnResult g f ys n → ys ≡ listed n h
  made_by n e = sym (listed_get_d ys) ∙ rw e.long (listed_cong n _ _ (λ k l. subst (λ (m : ℕ). get_or ys m 0 ≡ h m) (omega arith) (made_from n 0 e.each k l)))

-- ---- six bytes, one by one
pub six_members : (xs : List ℕ) → length xs ≡ 6
    → (get_or xs 0 0 ∷ get_or xs 1 0 ∷ get_or xs 2 0 ∷ get_or xs 3 0 ∷ get_or xs 4 0 ∷ get_or xs 5 0 ∷ []) ≡ xs
unfolding listed
six_members xs six = ap (λ (k : ℕ). listed k (λ m. get_or xs m 0)) (sym six) ∙ listed_get_d xs
