-- The laws of `count`, how many numbers below a bound pass a test, and of `odd`, its parity: those of a finite sum in the two-element ring.
-- `odd_suc` turns the count into a sum; the others follow by induction on the bound.
-- Assumes nothing.
use mathlib.Core.Path.{◌≡◌, refl, sym, ap, ap₂, ◌∙◌}
use mathlib.Core.Bool.{Bool, true, false, ◌&&◌, and-false, and-true, and_comm}
use Prim.Native.Nat.{ℕ, zero, suc, ◌+◌, ◌*◌, ◌%◌, ◌<◌, ◌≤◌}
use native.Mathlib.Nat.{add-zero, zero-add, add_assoc, add-suc, zero-mul, suc-mul, not-suc-le-zero}
use native.Mathlib.Omega.{arith}
use native.Mathlib.Numerals.{add-one, add-two}
use native.Mathlib.Decide.{ℕ_discrete}
use lib.Dec.{eqb}
use borrow.Author.Tests.{eq-eqb, ne_eqb, eqb-true, eqb-false}
use Rattle.ring.specs.Letters.{digit}
use Rattle.ring.specs.Polynomial.{◌⊕◌, count, odd}
use Rattle.ring.proofs.Bool.{xor_assoc, and_xor, xor_false, ac, digit_lt}

-- tests that agree below the bound
pub count_cong : (k : ℕ) (g h : ℕ → Bool) → ((i : ℕ) → i < k → g i ≡ h i) → count k g ≡ count k h
unfolding count
count_cong zero g h e = refl
count_cong (suc k) g h e = ap₂ ◌+◌ (count_cong k g h (λ i l. e i (omega arith))) (ap digit (e k (omega arith)))

-- counted one by one: at the start, and one number more
pub count-start : (test : ℕ → Bool) (k : ℕ) → k ≡ 0 → 0 ≡ count k test
unfolding count
count-start test k e = rw e

pub count_next : (test : ℕ → Bool) (k s b : ℕ) → s ≡ count k test → b ≡ digit (test k) → s + b ≡ count (k + 1) test
unfolding count
count_next test k s b e eb = rw (add-one k) (ap₂ ◌+◌ e eb)

-- the first number apart
pub count_first : (k : ℕ) (test : ℕ → Bool) → count (suc k) test ≡ digit (test 0) + count k (λ j. test (suc j))
unfolding count
count_first zero test = zero-add (digit (test 0)) ∙ sym (add-zero (digit (test 0)))
count_first (suc k) test =
    ap (λ (c : ℕ). c + digit (test (suc k))) (count_first k test)
    ∙ add_assoc (digit (test 0)) (count k (λ j. test (suc j))) (digit (test (suc k)))

-- what comes after k does not pass
pub count_more : (k d : ℕ) (test : ℕ → Bool) → ((j : ℕ) → k ≤ j → test j ≡ false) → count (k + d) test ≡ count k test
unfolding count
count_more k zero test e = ap (λ (i : ℕ). count i test) (add-zero k)
count_more k (suc d) test e =
    ap (λ (i : ℕ). count i test) (add-suc k d) ∙ rw (count_more k d test e, e (k + d) (omega arith)) (add-zero (count k test))

pub count_most : (k : ℕ) (test : ℕ → Bool) → count k test ≤ k
unfolding count
count_most zero test = omega arith
count_most (suc k) test = omega (arith, count_most k test, digit_lt (test k))

-- the first a numbers, and the k behind them
pub count_add : (a k : ℕ) (test : ℕ → Bool) → count (a + k) test ≡ count a test + count k (λ i. test (a + i))
unfolding count
count_add a zero test = ap (λ (x : ℕ). count x test) (add-zero a) ∙ sym (add-zero (count a test))
count_add a (suc k) test =
    ap (λ (x : ℕ). count x test) (add-suc a k)
    ∙ ap (λ (c : ℕ). c + digit (test (a + k))) (count_add a k test)
    ∙ add_assoc (count a test) (count k (λ i. test (a + i))) (digit (test (a + k)))

-- only the first number may pass
pub count_only_first : (k : ℕ) (test : ℕ → Bool) → ((i : ℕ) → 0 < i → i < k → test i ≡ false) → count k test ≤ 1
unfolding count
count_only_first zero test e = omega arith
count_only_first (suc zero) test e = omega (arith, digit_lt (test 0))
count_only_first (suc (suc k)) test e =
    rw (e (suc k) (omega arith) (omega arith)) (omega (arith, count_only_first (suc k) test (λ i p l. e i p (omega arith))))

-- k blocks of b numbers, in each of which at most one passes
pub count_blocks : (k b : ℕ) (test : ℕ → Bool) → ((i : ℕ) → i < k → count b (λ j. test (i * b + j)) ≤ 1) → count (k * b) test ≤ k
unfolding count
count_blocks zero b test e = rw (zero-mul b) (omega arith)
count_blocks (suc k) b test e =
    rw (suc-mul k b, count_add (k * b) b test) (omega (arith, count_blocks k b test (λ i l. e i (omega arith)), e k (omega arith)))

flip : (c : ℕ) → eqb ((c + 1) % 2) 1 ≡ (eqb (c % 2) 1 ⊕ true)
flip c = go (eqb (c % 2) 1) refl
  where
    go : (t : Bool) → eqb (c % 2) 1 ≡ t → eqb ((c + 1) % 2) 1 ≡ (t ⊕ true)
    go true e = ne_eqb ((c + 1) % 2) 1 (omega (arith, eqb-true (c % 2) 1 e))
    go false e = eq-eqb ((c + 1) % 2) 1 (omega (arith, eqb-false (c % 2) 1 e))

one_more : (c : ℕ) (b : Bool) → eqb ((c + digit b) % 2) 1 ≡ (eqb (c % 2) 1 ⊕ b)
one_more c true = flip c
one_more c false = ap (λ (x : ℕ). eqb (x % 2) 1) (add-zero c) ∙ sym (xor_false (eqb (c % 2) 1))

pub odd_zero : (test : ℕ → Bool) → odd 0 test ≡ false
unfolding odd count
odd_zero test = refl

-- one number more adds its test
pub odd_suc : (k : ℕ) (test : ℕ → Bool) → odd (suc k) test ≡ (odd k test ⊕ test k)
unfolding odd count
odd_suc k test = one_more (count k test) (test k)

pub odd_cong : (k : ℕ) (g h : ℕ → Bool) → ((i : ℕ) → i < k → g i ≡ h i) → odd k g ≡ odd k h
odd_cong zero g h e = odd_zero g ∙ sym (odd_zero h)
odd_cong (suc k) g h e = odd_suc k g ∙ ap₂ ◌⊕◌ (odd_cong k g h (λ i l. e i (omega arith))) (e k (omega arith)) ∙ sym (odd_suc k h)

pub odd_none : (k : ℕ) (g : ℕ → Bool) → ((i : ℕ) → i < k → g i ≡ false) → odd k g ≡ false
odd_none zero g e = odd_zero g
odd_none (suc k) g e = odd_suc k g ∙ ap₂ ◌⊕◌ (odd_none k g (λ i l. e i (omega arith))) (e k (omega arith))

pub odd_xor : (k : ℕ) (g h : ℕ → Bool) → odd k (λ i. g i ⊕ h i) ≡ odd k g ⊕ odd k h
odd_xor zero g h = odd_zero (λ i. g i ⊕ h i) ∙ sym (ap₂ ◌⊕◌ (odd_zero g) (odd_zero h))
odd_xor (suc k) g h = odd_suc k (λ i. g i ⊕ h i) ∙ rw (odd_xor k g h, odd_suc k g, odd_suc k h) (simp ac)

pub odd_and : (k : ℕ) (c : Bool) (g : ℕ → Bool) → odd k (λ i. c && g i) ≡ (c && odd k g)
odd_and zero c g = odd_zero (λ i. c && g i) ∙ sym (ap (λ (x : Bool). c && x) (odd_zero g) ∙ and-false c)
odd_and (suc k) c g = odd_suc k (λ i. c && g i) ∙ rw (odd_and k c g, odd_suc k g, and_xor)

-- a constant factor on the right
pub odd_and_r : (k : ℕ) (c : Bool) (g : ℕ → Bool) → odd k (λ i. g i && c) ≡ (odd k g && c)
odd_and_r k c g = odd_cong k _ _ (λ i l. and_comm (g i) c) ∙ odd_and k c g ∙ and_comm c (odd k g)

pub odd_swap : (a b : ℕ) (g : ℕ → ℕ → Bool) → odd a (λ i. odd b (λ j. g i j)) ≡ odd b (λ j. odd a (λ i. g i j))
odd_swap zero b g = odd_zero (λ i. odd b (λ j. g i j)) ∙ sym (odd_none b _ (λ j l. odd_zero (λ i. g i j)))
odd_swap (suc a) b g =
    odd_suc a (λ i. odd b (λ j. g i j))
    ∙ ap (λ (x : Bool). x ⊕ odd b (λ j. g a j)) (odd_swap a b g)
    ∙ sym (odd_xor b (λ j. odd a (λ i. g i j)) (g a))
    ∙ odd_cong b _ _ (λ j l. sym (odd_suc a (λ i. g i j)))

-- of the numbers below n only k can pass
pub odd_at : (n k : ℕ) (g : ℕ → Bool) → k < n → odd n (λ i. g i && eqb k i) ≡ g k
odd_at zero k g l = absurd (not-suc-le-zero l)
odd_at (suc n) k g l = odd_suc n (λ i. g i && eqb k i) ∙ go (ℕ_discrete k n) (odd_at n k g)
  where
    go : Dec (k ≡ n) → (k < n → odd n (λ i. g i && eqb k i) ≡ g k) → (odd n (λ i. g i && eqb k i) ⊕ (g n && eqb k n)) ≡ g k
    go (yes e) ih =
        rw (odd_none n (λ i. g i && eqb k i) (λ i m. rw (ne_eqb k i (omega arith)) (and-false (g i))), eq-eqb k n e, and-true)
        (ap g (sym e))
    go (no e) ih = rw (ih (omega arith), ne_eqb k n e, and-false) (xor_false (g k))

-- by pairs
pub odd_double : (k : ℕ) (g : ℕ → Bool) → odd (k * 2) g ≡ odd k (λ i. g (i * 2) ⊕ g (i * 2 + 1))
odd_double zero g = odd_zero g ∙ sym (odd_zero (λ i. g (i * 2) ⊕ g (i * 2 + 1)))
odd_double (suc k) g =
    ap (λ (x : ℕ). odd x g) (suc-mul k 2 ∙ add-two (k * 2))
    ∙ odd_suc (suc (k * 2)) g
    ∙ ap (λ (x : Bool). x ⊕ g (suc (k * 2))) (odd_suc (k * 2) g)
    ∙ xor_assoc (odd (k * 2) g) (g (k * 2)) (g (suc (k * 2)))
    ∙ ap₂ (λ (x : Bool) (y : ℕ). x ⊕ (g (k * 2) ⊕ g y)) (odd_double k g) (sym (add-one (k * 2)))
    ∙ sym (odd_suc k (λ i. g (i * 2) ⊕ g (i * 2 + 1)))
