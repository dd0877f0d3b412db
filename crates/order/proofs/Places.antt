-- Places in the written order. One computed test of a whole table: it has 2 ^ n masks, each is below 2 ^ n, and their ranks rise. The law
-- that turns it into the rule holds for every n: such a table is the order. And where the masks with so many letters begin.
-- Assumes nothing.
use mathlib.Core.Path.{◌≡◌, refl, sym, ap, ◌∙◌}
use mathlib.Core.Bool.{Bool, true, false, ◌&&◌}
use mathlib.Core.List.{List, [], ◌∷◌}
use mathlib.Core.Logic.{◌⊎◌, inl, inr}
use Prim.Native.Nat.{ℕ, suc, ◌+◌, ◌*◌, ◌^◌, ◌≤◌, ◌<◌}
use native.Mathlib.Omega.{arith}
use lib.Dec.{eqb, ltb, leb}
use lib.ListN.{length, get_or}
use borrow.Author.Tests.{lt-ltb, ltb-true, ltb-false, leb-true, eqb-true}
use Rattle.ring.proofs.Bool.{and_left, and_right, bool_cases, never}
use Rattle.ring.proofs.Lists.{has_cases, get_d_listed, length-listed, listed_cong}
use Rattle.ring.specs.Lists.{listed, has}
use Rattle.ring.specs.Polynomial.{count}
use Rattle.order.specs.Order.{letters, before, keep, below, order, rises}
use Rattle.order.specs.Inner.Place.{start, AreStarts, rank}
use Rattle.order.proofs.Letters.{letters_in, letters_in_lem, letters_most}
use Rattle.order.proofs.Lists.{keep_same, count-below, has_below}
use Rattle.order.proofs.Relation.{before_cases, before_rank}
use Rattle.order.proofs.Order.{rises_cons, rises_places, rising_whole, order-rises, order_once, order_below, length-order}
use Rattle.order.proofs.Order.{start-count, start-within, start_fewer, start_more}

-- the rank with the letters counted by halving
unfoldable pub rank_in : ℕ → ℕ → ℕ
rank_in n m = letters_in n m * 2 ^ n + m

rank_in_lem : (n m : ℕ) → m < 2 ^ n → rank n m ≡ rank_in n m
unfolding rank rank_in
rank_in_lem n m h = ap (λ (l : ℕ). l * 2 ^ n + m) (letters_in_lem n m h)

-- each mask is below 2 ^ n, and the ranks rise from `low` on
unfoldable pub climbs : ℕ → ℕ → List ℕ → Bool
climbs n low [] = true
climbs n low (m ∷ ms) = (ltb m (2 ^ n) && leb low (rank_in n m)) && climbs n (suc (rank_in n m)) ms

module _ (n low m : ℕ) (ms : List ℕ) (c : climbs n low (m ∷ ms) ≡ true) where
  climbs_first : (m < 2 ^ n) × (low ≤ rank n m)
  unfolding climbs
  climbs_first =
      let t : (ltb m (2 ^ n) && leb low (rank_in n m)) ≡ true = and_left _ (climbs n (suc (rank_in n m)) ms) c in
      let h : m < 2 ^ n = ltb-true m (2 ^ n) (and_left _ (leb low (rank_in n m)) t) in
      (h, rw (rank_in_lem n m h) (leb-true low (rank_in n m) (and_right (ltb m (2 ^ n)) _ t)))

  climbs_rest : climbs n (suc (rank n m)) ms ≡ true
  unfolding climbs
  climbs_rest = rw (rank_in_lem n m climbs_first.0) (and_right (ltb m (2 ^ n) && leb low (rank_in n m)) _ c)

climbs_has : (n low : ℕ) (ms : List ℕ) → climbs n low ms ≡ true → (k : ℕ) → has k ms ≡ true → (k < 2 ^ n) × (low ≤ rank n k)
unfolding has
climbs_has n low [] c k i = never i refl
climbs_has n low (m ∷ ms) c k i =
    go (climbs_first n low m ms c) (climbs_has n (suc (rank n m)) ms (climbs_rest n low m ms c) k) (has_cases k m ms i)
  where
    go : (m < 2 ^ n) × (low ≤ rank n m) → (has k ms ≡ true → (k < 2 ^ n) × (suc (rank n m) ≤ rank n k)) → (k ≡ m) ⊎ (has k ms ≡ true)
        → (k < 2 ^ n) × (low ≤ rank n k)
    go f ih (inl e) = rw e f
    go f ih (inr j) = let r = ih j in (r.0, omega (arith, r.1, f.1))

climbs_rises : (n low : ℕ) (ms : List ℕ) → climbs n low ms ≡ true → rises ms ≡ true
unfolding rises
climbs_rises n low [] c = refl
climbs_rises n low (m ∷ ms) c = rises_cons m ms next (climbs_rises n (suc (rank n m)) ms rest)
  where
    rest : climbs n (suc (rank n m)) ms ≡ true
    rest = climbs_rest n low m ms c

    next : (k : ℕ) → has k ms ≡ true → before m k ≡ true
    next k i =
        let h = climbs_has n (suc (rank n m)) ms rest k i in
        before_rank n m k (climbs_first n low m ms c).0 h.0 ∙ lt-ltb (rank n m) (rank n k) h.1

-- the test of a whole table for n letters: as many masks as there are, each of them below 2 ^ n, their ranks rising
unfoldable pub is_order : ℕ → List ℕ → Bool
is_order n t = eqb (length t) (2 ^ n) && climbs n 0 t

-- a table that passes has each mask once and in written order, for every n
pub is_the_order : (n : ℕ) (t : List ℕ) → is_order n t ≡ true → t ≡ order n
unfolding is_order
is_the_order n t e =
    let c : climbs n 0 t ≡ true = and_right (eqb (length t) (2 ^ n)) _ e in
    rising_whole n t (climbs_rises n 0 t c) (λ k i. (climbs_has n 0 t c k i).0)
    (eqb-true (length t) (2 ^ n) (and_left _ (climbs n 0 t) e))

-- so it has each mask of n letters exactly once
pub each_once : (n : ℕ) (t : List ℕ) → is_order n t ≡ true → (m : ℕ) → m < 2 ^ n → keep (λ k. eqb k m) t ≡ m ∷ []
each_once n t e m h = rw (is_the_order n t e) (order_once n m h)

-- and of two places the earlier has the mask that stands before
pub in_written_order : (n : ℕ) (t : List ℕ) → is_order n t ≡ true → (i j : ℕ) → i < j → j < 2 ^ n → before (get_or t i 0) (get_or t j 0) ≡ true
in_written_order n t e i j h l = rw (is_the_order n t e) (rises_places (order n) (order-rises n) i j h (rw (length-order n) l))

-- ---- where the masks with so many letters begin
-- how many masks have fewer than k letters, counted by halving
unfoldable pub fewer_in : ℕ → ℕ → ℕ
fewer_in n k = count (2 ^ n) (λ m. ltb (letters_in n m) k)

start_in : (n k : ℕ) → start n k ≡ fewer_in n k
unfolding fewer_in
start_in n k =
    start-count n k
    ∙ ap length (keep_same _ _ (below (2 ^ n))
    (λ m i. ap (λ (l : ℕ). ltb l k) (letters_in_lem n m (ltb-true m (2 ^ n) (sym (has_below m (2 ^ n)) ∙ i)))))
    ∙ count-below (λ m. ltb (letters_in n m) k) (2 ^ n)

-- a table of these numbers, computed for o letters, and what is looked up in it
pub are_starts : (o : ℕ) (t : List ℕ) → t ≡ listed (o + 2) (fewer_in o) → AreStarts o t
are_starts o t e = e ∙ listed_cong (o + 2) (fewer_in o) (start o) (λ k l. sym (start_in o k))

pub starts_looked_up : (o : ℕ) (t : List ℕ) → AreStarts o t → (k : ℕ) → k ≤ o + 1 → get_or t k 0 ≡ start o k
starts_looked_up o t e k h = ap (λ (l : List ℕ). get_or l k 0) e ∙ get_d_listed (o + 2) (start o) k 0 (omega arith)

pub length_starts : (o : ℕ) (t : List ℕ) → AreStarts o t → length t ≡ o + 2
length_starts o t e = ap length e ∙ length-listed (o + 2) (start o)

-- from a mask on, as far as those that have a letter more, none is smaller
pub larger_follow : (n p i : ℕ) → p < 2 ^ n → p ≤ i → i < start n (letters (get_or (order n) p 0) + 1)
    → get_or (order n) p 0 ≤ get_or (order n) i 0
larger_follow n p i b l h = go (bool_cases (ltb p i))
  where
    m : ℕ
    m = get_or (order n) p 0

    k : ℕ
    k = get_or (order n) i 0

    few : letters m + 1 ≤ suc n
    few = omega (arith, letters_most n m (order_below n p b))

    same : (letters m < letters k) ⊎ ((letters m ≡ letters k) × (m < k)) → m ≤ k
    same (inl f) = absurd (omega (arith, start_fewer n (letters m + 1) few i h))
    same (inr f) = omega (arith, f.1)

    go : (ltb p i ≡ true) ⊎ (ltb p i ≡ false) → m ≤ k
    go (inl e) =
        let w : i < 2 ^ n = omega (arith, start-within n (letters m + 1) few) in
        same (before_cases m k (rises_places (order n) (order-rises n) p i (ltb-true p i e) (rw (length-order n) w)))
    go (inr e) = let q : p ≡ i = omega (arith, ltb-false p i e) in rw q (omega arith)

-- the masks that have a letter more come later
pub start_later : (n p : ℕ) → p < 2 ^ n → p < start n (letters (get_or (order n) p 0) + 1)
start_later n p b = go (bool_cases (ltb p (start n (k + 1))))
  where
    k : ℕ
    k = letters (get_or (order n) p 0)

    go : (ltb p (start n (k + 1)) ≡ true) ⊎ (ltb p (start n (k + 1)) ≡ false) → p < start n (k + 1)
    go (inl e) = ltb-true _ _ e
    go (inr e) =
        let few : k + 1 ≤ suc n = omega (arith, letters_most n (get_or (order n) p 0) (order_below n p b)) in
        absurd (omega (arith, start_more n (k + 1) few p (ltb-false _ _ e) b))
