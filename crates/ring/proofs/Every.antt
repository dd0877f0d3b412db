-- The laws of `every_below`: a test that every number below a bound passes. By `every_all` a rule about bytes or bits is shown by one computation.
-- Assumes nothing.
use mathlib.Core.Path.{◌≡◌, refl, sym, ap, ap₂, ◌∙◌}
use mathlib.Core.Bool.{Bool, true, false, ◌&&◌, true≢false, and-true, and_assoc}
use Prim.Native.Nat.{ℕ, zero, suc, ◌<◌}
use native.Mathlib.Omega.{arith}
use native.Mathlib.Decide.{ℕ_discrete}
use Rattle.ring.specs.Polynomial.{every_below}
use Rattle.ring.proofs.Bool.{and_left, and_right}

-- all numbers below k pass where `every_below` says so
pub every_all : (k : ℕ) (test : ℕ → Bool) → every_below k test ≡ true → (i : ℕ) → i < k → test i ≡ true
unfolding every_below
every_all zero test h i l = absurd (omega arith)
every_all (suc k) test h i l = go (ℕ_discrete i k) (every_all k test (and_left (every_below k test) (test k) h) i)
  where
    go : Dec (i ≡ k) → (i < k → test i ≡ true) → test i ≡ true
    go (yes e) ih = ap test e ∙ and_right (every_below k test) (test k) h
    go (no e) ih = ih (omega arith)

pub every_of : (k : ℕ) (test : ℕ → Bool) → ((i : ℕ) → i < k → test i ≡ true) → every_below k test ≡ true
unfolding every_below
every_of zero test h = refl
every_of (suc k) test h = ap₂ ◌&&◌ (every_of k test (λ i l. h i (omega arith))) (h k (omega arith))

pub every-not : (k : ℕ) (test : ℕ → Bool) → every_below k test ≡ false → (i : ℕ) × (i < k) × (test i ≡ false)
unfolding every_below
every-not zero test h = absurd (true≢false h)
every-not (suc k) test h = go (test k) refl h (every-not k test)
  where
    go : (b : Bool) → test k ≡ b → (every_below k test && b) ≡ false → (every_below k test ≡ false → (i : ℕ) × (i < k) × (test i ≡ false))
        → (i : ℕ) × (i < suc k) × (test i ≡ false)
    go true e h ih = let r = ih (sym (and-true (every_below k test)) ∙ h) in (r.0, omega (arith, r.1), r.2)
    go false e h ih = (k, omega arith, e)

-- the first number apart
pub every_first : (k : ℕ) (test : ℕ → Bool) → every_below (suc k) test ≡ (test 0 && every_below k (λ j. test (suc j)))
unfolding every_below
every_first zero test = sym (and-true (test 0))
every_first (suc k) test =
    ap (λ (x : Bool). x && test (suc k)) (every_first k test) ∙ and_assoc (test 0) (every_below k (λ j. test (suc j))) (test (suc k))

pub every_cong : (k : ℕ) (g h : ℕ → Bool) → ((i : ℕ) → i < k → g i ≡ h i) → every_below k g ≡ every_below k h
unfolding every_below
every_cong zero g h e = refl
every_cong (suc k) g h e = ap₂ ◌&&◌ (every_cong k g h (λ i l. e i (omega arith))) (e k (omega arith))
