-- The written order as a relation: by letters, then by the mask. It is irreflexive, transitive and total on all masks,
-- and for masks below 2 ^ n it is the order of one number, the rank.
-- Assumes nothing.
use mathlib.Core.Path.{◌≡◌, sym, ◌∙◌}
use mathlib.Core.Bool.{true, false, ◌&&◌}
use mathlib.Core.Logic.{◌⊎◌, inl, inr}
use Prim.Native.Nat.{ℕ, suc, ◌+◌, ◌*◌, ◌^◌, ◌≤◌, ◌<◌}
use native.Mathlib.Omega.{arith}
use lib.Dec.{eqb, ltb}
use lib.Arith.{digits_lt}
use borrow.Author.Tests.{lt-ltb, ltb-true, ltb-false, eqb-true, eq-eqb}
use Rattle.ring.proofs.Bool.{bool_iff, and_left, and_right, both, or_cases, or_right, bool_cases}
use Rattle.order.specs.Order.{letters, before}
use Rattle.order.specs.Inner.Place.{rank}
use Rattle.order.proofs.Letters.{letters_most}

-- fewer letters
pub before_fewer : (m k : ℕ) → letters m < letters k → before m k ≡ true
unfolding before
before_fewer m k h = rw (lt-ltb (letters m) (letters k) h)

-- as many letters, and the smaller mask
pub before_smaller : (m k : ℕ) → letters m ≡ letters k → m < k → before m k ≡ true
unfolding before
before_smaller m k e h = or_right (ltb (letters m) (letters k)) (both (eq-eqb (letters m) (letters k) e) (lt-ltb m k h))

pub before_cases : (m k : ℕ) → before m k ≡ true → (letters m < letters k) ⊎ ((letters m ≡ letters k) × (m < k))
unfolding before
before_cases m k e = go (or_cases (ltb (letters m) (letters k)) (eqb (letters m) (letters k) && ltb m k) e)
  where
    go : (ltb (letters m) (letters k) ≡ true) ⊎ ((eqb (letters m) (letters k) && ltb m k) ≡ true)
        → (letters m < letters k) ⊎ ((letters m ≡ letters k) × (m < k))
    go (inl f) = inl (ltb-true _ _ f)
    go (inr f) = inr (eqb-true _ _ (and_left _ (ltb m k) f), ltb-true _ _ (and_right (eqb (letters m) (letters k)) _ f))

pub before_irreflexive : (m : ℕ) → before m m ≡ true → ⊥
before_irreflexive m e = go (before_cases m m e)
  where
    go : (letters m < letters m) ⊎ ((letters m ≡ letters m) × (m < m)) → ⊥
    go (inl h) = omega arith
    go (inr h) = omega (arith, h.1)

pub before_transitive : (m k l : ℕ) → before m k ≡ true → before k l ≡ true → before m l ≡ true
before_transitive m k l e f = go (before_cases m k e) (before_cases k l f)
  where
    go : (letters m < letters k) ⊎ ((letters m ≡ letters k) × (m < k)) → (letters k < letters l) ⊎ ((letters k ≡ letters l) × (k < l))
        → before m l ≡ true
    go (inl g) (inl h) = before_fewer m l (omega arith)
    go (inl g) (inr h) = before_fewer m l (omega (arith, h.0))
    go (inr g) (inl h) = before_fewer m l (omega (arith, g.0))
    go (inr g) (inr h) = before_smaller m l (g.0 ∙ h.0) (omega (arith, g.1, h.1))

compared : (a b : ℕ) → (a < b) ⊎ ((a ≡ b) ⊎ (b < a))
compared a b = go (bool_cases (ltb a b)) (bool_cases (ltb b a))
  where
    go : (ltb a b ≡ true) ⊎ (ltb a b ≡ false) → (ltb b a ≡ true) ⊎ (ltb b a ≡ false) → (a < b) ⊎ ((a ≡ b) ⊎ (b < a))
    go (inl e) f = inl (ltb-true a b e)
    go (inr e) (inl f) = inr (inr (ltb-true b a f))
    go (inr e) (inr f) = inr (inl (omega (arith, ltb-false a b e, ltb-false b a f)))

-- two masks are one, or one stands before the other
pub before_total : (m k : ℕ) → (before m k ≡ true) ⊎ ((m ≡ k) ⊎ (before k m ≡ true))
before_total m k = go (compared (letters m) (letters k)) (compared m k)
  where
    go : (letters m < letters k) ⊎ ((letters m ≡ letters k) ⊎ (letters k < letters m)) → (m < k) ⊎ ((m ≡ k) ⊎ (k < m))
        → (before m k ≡ true) ⊎ ((m ≡ k) ⊎ (before k m ≡ true))
    go (inl l) c = inl (before_fewer m k l)
    go (inr (inr l)) c = inr (inr (before_fewer k m l))
    go (inr (inl e)) (inl l) = inl (before_smaller m k e l)
    go (inr (inl e)) (inr (inl l)) = inr (inl l)
    go (inr (inl e)) (inr (inr l)) = inr (inr (before_smaller k m (sym e) l))

-- one number in place of two
pub before_rank : (n m k : ℕ) → m < 2 ^ n → k < 2 ^ n → before m k ≡ ltb (rank n m) (rank n k)
unfolding rank
before_rank n m k hm hk =
    bool_iff (before m k) (ltb (rank n m) (rank n k)) (λ e. lt-ltb _ _ (up (before_cases m k e)))
    (λ e. down (before_total m k) (ltb-true _ _ e))
  where
    climb : (i j : ℕ) → i < 2 ^ n → letters i < letters j → rank n i < rank n j
    climb i j hi l = let d : letters i * 2 ^ n + i < letters j * 2 ^ n = digits_lt l hi in omega arith

    up : (letters m < letters k) ⊎ ((letters m ≡ letters k) × (m < k)) → rank n m < rank n k
    up (inl l) = climb m k hm l
    up (inr l) = rw l.0 (omega (arith, l.1))

    same : letters k ≡ letters m → k < m → rank n k < rank n m
    same e l = rw e (omega arith)

    back : (letters k < letters m) ⊎ ((letters k ≡ letters m) × (k < m)) → rank n m < rank n k → before m k ≡ true
    back (inl l) r = let c : rank n k < rank n m = climb k m hk l in absurd (omega arith)
    back (inr l) r = let c : rank n k < rank n m = same l.0 l.1 in absurd (omega arith)

    down : (before m k ≡ true) ⊎ ((m ≡ k) ⊎ (before k m ≡ true)) → rank n m < rank n k → before m k ≡ true
    down (inl e) r = e
    down (inr (inl e)) r = let c : rank n k < rank n k = rw e at r in absurd (omega arith)
    down (inr (inr e)) r = back (before_cases k m e) r

pub rank_most : (n m : ℕ) → m < 2 ^ n → rank n m < suc n * 2 ^ n
unfolding rank
rank_most n m h = digits_lt (let l : letters m ≤ n = letters_most n m h in omega arith) h
