-- The laws of `smallest_below`, the smallest number below a bound that passes a test.
-- Assumes nothing.
use mathlib.Core.Path.{◌≡◌, refl, sym, ap, ap₂, ◌∙◌}
use mathlib.Core.Bool.{Bool, true, false, cond}
use Prim.Native.Nat.{ℕ, zero, suc, ◌≤◌, ◌<◌}
use native.Mathlib.Omega.{arith}
use Rattle.solution.specs.Elimination.{smallest_below}

-- i is the smallest number below k that passes
pub record IsSmallest (k : ℕ) (test : ℕ → Bool) (i : ℕ) : Type 0 where
  pub below : i < k
  pub passes : test i ≡ true
  pub before : (j : ℕ) → j < i → test j ≡ false

one_further : (k : ℕ) (test : ℕ → Bool) (i : ℕ) → test 0 ≡ false → IsSmallest k (λ j. test (suc j)) i → IsSmallest (suc k) test (suc i)
one_further k test i e r = record { below = omega (arith, r.below); passes = r.passes; before = go }
  where
    go : (j : ℕ) → j < suc i → test j ≡ false
    go zero l = e
    go (suc j) l = r.before j (omega arith)

-- where some number passes, `smallest_below` is the smallest
pub smallest_is : (k : ℕ) (test : ℕ → Bool) (i : ℕ) → i < k → test i ≡ true → IsSmallest k test (smallest_below k test)
unfolding smallest_below
smallest_is zero test i l h = absurd (omega arith)
smallest_is (suc k) test zero l h = rw h (record { below = omega arith; passes = h; before = λ j m. absurd (omega arith) })
smallest_is (suc k) test (suc i) l h = go (test 0) refl (smallest_is k (λ j. test (suc j)) i (omega arith) h)
  where
    go : (b : Bool) → test 0 ≡ b → IsSmallest k (λ j. test (suc j)) (smallest_below k (λ j. test (suc j)))
        → IsSmallest (suc k) test (cond b 0 (suc (smallest_below k (λ j. test (suc j)))))
    go true e r = record { below = omega arith; passes = e; before = λ j m. absurd (omega arith) }
    go false e r = one_further k test (smallest_below k (λ j. test (suc j))) e r

pub smallest_cong : (k : ℕ) (g h : ℕ → Bool) → ((i : ℕ) → i < k → g i ≡ h i) → smallest_below k g ≡ smallest_below k h
unfolding smallest_below
smallest_cong zero g h e = refl
smallest_cong (suc k) g h e =
    ap₂ (λ (b : Bool) (i : ℕ). cond b 0 (suc i)) (e 0 (omega arith))
    (smallest_cong k (λ i. g (suc i)) (λ i. h (suc i)) (λ i l. e (suc i) (omega arith)))

pub smallest_none : (k : ℕ) (test : ℕ → Bool) → ((i : ℕ) → i < k → test i ≡ false) → smallest_below k test ≡ k
unfolding smallest_below
smallest_none zero test e = refl
smallest_none (suc k) test e =
    ap₂ (λ (b : Bool) (i : ℕ). cond b 0 (suc i)) (e 0 (omega arith)) (smallest_none k (λ i. test (suc i)) (λ i l. e (suc i) (omega arith)))

-- where all before it fail, the first number that passes
pub first_found : (k : ℕ) (test : ℕ → Bool) (i : ℕ) → i < k → ((m : ℕ) → m < i → test m ≡ false) → test i ≡ true → i ≡ smallest_below k test
unfolding smallest_below
first_found zero test i l before e = absurd (omega arith)
first_found (suc k) test zero l before e = rw e
first_found (suc k) test (suc i) l before e =
    rw (before 0 (omega arith)) (ap suc (first_found k (λ m. test (suc m)) i (omega arith) (λ m h. before (suc m) (omega arith)) e))

pub first_none : (k : ℕ) (test : ℕ → Bool) (i : ℕ) → i ≤ k → k ≤ i → ((m : ℕ) → m < i → test m ≡ false) → i ≡ smallest_below k test
first_none k test i h l before = let e : i ≡ k = omega arith in e ∙ sym (smallest_none k test (λ m x. before m (omega arith)))
