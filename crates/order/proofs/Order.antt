-- The written order as a list. For every n, `order n` rises and has each mask below 2 ^ n, so once; a rising list is fixed by
-- its members, so a rising list of masks below 2 ^ n is `order n` with the other masks left out; and the order for n letters is
-- that for more letters with the masks of 2 ^ n or more left out.
-- Assumes nothing.
use mathlib.Core.Path.{◌≡◌, refl, sym, ap, ap₂, ◌∙◌}
use mathlib.Core.Bool.{Bool, true, false, cond, ◌&&◌, ◌||◌, and-false, and-true, or-false, and-or_distrib_left, and-or_distrib_right}
use mathlib.Core.List.{List, [], ◌∷◌, ◌++◌, append-nil, append_assoc}
use mathlib.Core.Logic.{◌⊎◌, inl, inr}
use Prim.Native.Nat.{ℕ, zero, suc, ◌+◌, ◌-◌, ◌^◌, ◌≤◌, ◌<◌}
use native.Mathlib.Omega.{arith}
use lib.Dec.{eqb, ltb}
use lib.ListN.{length, get_or, length-append, get_or-append}
use lib.Seq.{get_or-append-add}
use lib.Pow.{pow_mono}
use borrow.Author.Tests.{lt-ltb, le-ltb, ltb-true, eqb-true, eqb-false, ne_eqb}
use Rattle.ring.specs.Polynomial.{Polynomial, count}
use Rattle.ring.specs.Lists.{has}
use Rattle.ring.proofs.Bool.{bool_iff, and_left, and_right, both, or_cases, bool_cases, never}
use Rattle.ring.proofs.Lists.{has_append, has_cases, has_first, has_place, has_rest}
use Rattle.order.specs.Order.{letters, before, keep, below, groups, order, monomials, rises}
use Rattle.order.specs.Inner.Place.{start}
use Rattle.order.proofs.Lists.{keep_append, keep_none, keep-every, keep_same, keep_both, keep_all, length_either, ltb_suc}
use Rattle.order.proofs.Lists.{length-below, below_none, below_last, count-below, has_keep, has_below}
use Rattle.order.proofs.Letters.{letters_most}
use Rattle.order.proofs.Relation.{before_fewer, before_smaller, before_irreflexive, before_transitive}

-- ---- rising lists
pub rises_tail : (m : ℕ) (ms : List ℕ) → rises (m ∷ ms) ≡ true → rises ms ≡ true
unfolding rises
rises_tail m [] r = refl
rises_tail m (k ∷ ks) r = and_right (before m k) (rises (k ∷ ks)) r

-- the first stands before every other
pub rises_first : (m : ℕ) (ms : List ℕ) → rises (m ∷ ms) ≡ true → (k : ℕ) → has k ms ≡ true → before m k ≡ true
unfolding rises has
rises_first m [] r k h = never h refl
rises_first m (l ∷ ls) r k h = go (rises_first l ls (rises_tail m (l ∷ ls) r) k) (has_cases k l ls h)
  where
    next : before m l ≡ true
    next = and_left (before m l) (rises (l ∷ ls)) r

    go : (has k ls ≡ true → before l k ≡ true) → (k ≡ l) ⊎ (has k ls ≡ true) → before m k ≡ true
    go ih (inl e) = rw e next
    go ih (inr i) = before_transitive m l k next (ih i)

pub rises_cons : (m : ℕ) (ms : List ℕ) → ((k : ℕ) → has k ms ≡ true → before m k ≡ true) → rises ms ≡ true → rises (m ∷ ms) ≡ true
unfolding rises
rises_cons m [] h r = refl
rises_cons m (k ∷ ks) h r = both (h k (has_first k ks)) r

pub rises-append : (xs ys : List ℕ) → rises xs ≡ true → rises ys ≡ true
    → ((m k : ℕ) → has m xs ≡ true → has k ys ≡ true → before m k ≡ true) → rises (xs ++ ys) ≡ true
rises-append [] ys r s h = s
rises-append (x ∷ xs) ys r s h =
    rises_cons x (xs ++ ys) (λ k i. go k (or_cases (has k xs) (has k ys) (sym (has_append k xs ys) ∙ i)))
    (rises-append xs ys (rises_tail x xs r) s (λ m k i. h m k (has_rest m x xs i)))
  where
    go : (k : ℕ) → (has k xs ≡ true) ⊎ (has k ys ≡ true) → before x k ≡ true
    go k (inl i) = rises_first x xs r k i
    go k (inr i) = h x k (has_first x xs) i

-- what is left of a rising list rises
pub rises-keep : (t : ℕ → Bool) (xs : List ℕ) → rises xs ≡ true → rises (keep t xs) ≡ true
unfolding keep
rises-keep t [] r = r
rises-keep t (x ∷ xs) r = go (t x) (rises-keep t xs (rises_tail x xs r))
  where
    go : (b : Bool) → rises (keep t xs) ≡ true → rises (cond b (x ∷ keep t xs) (keep t xs)) ≡ true
    go true ih = rises_cons x (keep t xs) (λ k i. rises_first x xs r k (and_right (t k) (has k xs) (sym (has_keep t k xs) ∙ i))) ih
    go false ih = ih

-- a rising list has no mask twice
pub rises_once : (m : ℕ) (ms : List ℕ) → rises (m ∷ ms) ≡ true → has m ms ≡ false
rises_once m ms r = go (bool_cases (has m ms))
  where
    go : (has m ms ≡ true) ⊎ (has m ms ≡ false) → has m ms ≡ false
    go (inl i) = absurd (before_irreflexive m (rises_first m ms r m i))
    go (inr i) = i

-- of two places of a rising list the earlier has the mask that stands before
pub rises_places : (xs : List ℕ) → rises xs ≡ true → (i j : ℕ) → i < j → j < length xs → before (get_or xs i 0) (get_or xs j 0) ≡ true
rises_places [] r i j h l = absurd (omega arith)
rises_places (x ∷ xs) r i zero h l = absurd (omega arith)
rises_places (x ∷ xs) r zero (suc j) h l = rises_first x xs r (get_or xs j 0) (has_place xs j (omega arith))
rises_places (x ∷ xs) r (suc i) (suc j) h l = rises_places xs (rises_tail x xs r) i j (omega arith) (omega arith)

-- two rising lists with the same members are the same
pub rises_unique : (xs ys : List ℕ) → rises xs ≡ true → rises ys ≡ true → ((m : ℕ) → has m xs ≡ has m ys) → xs ≡ ys
unfolding has
rises_unique [] [] r s h = refl
rises_unique [] (y ∷ ys) r s h = never (has_first y ys) (sym (h y))
rises_unique (x ∷ xs) [] r s h = never (has_first x xs) (h x)
rises_unique (x ∷ xs) (y ∷ ys) r s h =
    go (rises_unique xs ys (rises_tail x xs r) (rises_tail y ys s))
    (has_cases x y ys (sym (h x) ∙ has_first x xs)) (has_cases y x xs (h y ∙ has_first y ys))
  where
    tails : x ≡ y → (m : ℕ) → (eqb m x ≡ true) ⊎ (eqb m x ≡ false) → has m xs ≡ has m ys
    tails e m (inl f) =
        let mx : m ≡ x = eqb-true m x f in
        rw mx (rises_once x xs r ∙ sym (rw (← e) at (rises_once y ys s)))
    tails e m (inr f) = let g : has m (x ∷ xs) ≡ has m (y ∷ ys) = h m in rw (← e, f) at g

    same : (((m : ℕ) → has m xs ≡ has m ys) → xs ≡ ys) → x ≡ y → x ∷ xs ≡ y ∷ ys
    same ih e = ap₂ ◌∷◌ e (ih (λ m. tails e m (bool_cases (eqb m x))))

    go : (((m : ℕ) → has m xs ≡ has m ys) → xs ≡ ys) → (x ≡ y) ⊎ (has x ys ≡ true) → (y ≡ x) ⊎ (has y xs ≡ true) → x ∷ xs ≡ y ∷ ys
    go ih (inl e) q = same ih e
    go ih (inr i) (inl e) = same ih (sym e)
    go ih (inr i) (inr j) = absurd (before_irreflexive x (before_transitive x y x (rises_first x xs r y j) (rises_first y ys s x i)))

-- ---- the order for n letters
-- the masks below b that have k letters
group : ℕ → ℕ → List ℕ
group b k = keep (λ m. eqb (letters m) k) (below b)

has_group : (b k m : ℕ) → has m (group b k) ≡ (eqb (letters m) k && ltb m b)
unfolding group
has_group b k m = has_keep (λ i. eqb (letters i) k) m (below b) ∙ ap (λ (t : Bool). eqb (letters m) k && t) (has_below m b)

in_group : (b k m : ℕ) → has m (group b k) ≡ true → (letters m ≡ k) × (m < b)
in_group b k m i =
    let e : (eqb (letters m) k && ltb m b) ≡ true = sym (has_group b k m) ∙ i in
    (eqb-true (letters m) k (and_left _ (ltb m b) e), ltb-true m b (and_right (eqb (letters m) k) _ e))

group_rises : (b k : ℕ) → rises (group b k) ≡ true
unfolding group keep rises has
group_rises zero k = rw below_none
group_rises (suc b) k =
    rw (below_last b, keep_append (λ m. eqb (letters m) k) (below b) (b ∷ [])) (go (bool_cases (eqb (letters b) k)) (group_rises b k))
  where
    last : letters b ≡ k → (m l : ℕ) → has m (group b k) ≡ true → (l ≡ b) ⊎ (has l [] ≡ true) → before m l ≡ true
    last e m l i (inl f) = let g = in_group b k m i in rw f (before_smaller m b (g.0 ∙ sym e) g.1)
    last e m l i (inr f) = never f refl

    go : (eqb (letters b) k ≡ true) ⊎ (eqb (letters b) k ≡ false) → rises (group b k) ≡ true
        → rises (group b k ++ cond (eqb (letters b) k) (b ∷ []) []) ≡ true
    go (inl e) r = rw e (rises-append (group b k) (b ∷ []) r refl (λ m l i j. last (eqb-true (letters b) k e) m l i (has_cases l b [] j)))
    go (inr e) r = rw (e, append-nil) r

has_groups : (n k m : ℕ) → has m (groups n k) ≡ (ltb (letters m) k && ltb m (2 ^ n))
unfolding groups has group
has_groups n zero m = rw (le-ltb (letters m) 0 (omega arith))
has_groups n (suc k) m =
    has_append m (groups n k) (group (2 ^ n) k)
    ∙ ap₂ ◌||◌ (has_groups n k m) (has_group (2 ^ n) k m)
    ∙ sym (and-or_distrib_right (ltb (letters m) k) (eqb (letters m) k) (ltb m (2 ^ n)))
    ∙ ap (λ (b : Bool). b && ltb m (2 ^ n)) (sym (ltb_suc (letters m) k))

groups_rise : (n k : ℕ) → rises (groups n k) ≡ true
unfolding groups rises group
groups_rise n zero = refl
groups_rise n (suc k) = rises-append (groups n k) (group (2 ^ n) k) (groups_rise n k) (group_rises (2 ^ n) k) later
  where
    later : (m l : ℕ) → has m (groups n k) ≡ true → has l (group (2 ^ n) k) ≡ true → before m l ≡ true
    later m l i j =
        let e : (ltb (letters m) k && ltb m (2 ^ n)) ≡ true = sym (has_groups n k m) ∙ i in
        let f : letters m < k = ltb-true (letters m) k (and_left _ (ltb m (2 ^ n)) e) in
        let g : letters l ≡ k = (in_group (2 ^ n) k l j).0 in
        before_fewer m l (omega arith)

-- a mask below 2 ^ n has at most n letters
few : (n m : ℕ) → ltb m (2 ^ n) ≡ true → ltb (letters m) (suc n) ≡ true
few n m e = lt-ltb (letters m) (suc n) (omega (arith, letters_most n m (ltb-true m (2 ^ n) e)))

-- the order rises: each mask stands before the next
pub order-rises : (n : ℕ) → rises (order n) ≡ true
unfolding order
order-rises n = groups_rise n (suc n)

-- it has the masks below 2 ^ n, and by `rises_once` each of them once
pub has_order : (n m : ℕ) → has m (order n) ≡ ltb m (2 ^ n)
unfolding order
has_order n m =
    has_groups n (suc n) m
    ∙ bool_iff (ltb (letters m) (suc n) && ltb m (2 ^ n)) (ltb m (2 ^ n)) (and_right (ltb (letters m) (suc n)) (ltb m (2 ^ n)))
    (λ e. both (few n m e) e)

-- a test keeps as many of the groups as of the masks below 2 ^ n that have fewer than k letters
length_kept : (f : ℕ → Bool) (n k : ℕ) → length (keep f (groups n k)) ≡ length (keep (λ m. f m && ltb (letters m) k) (below (2 ^ n)))
unfolding groups keep
length_kept f n zero =
    sym (ap length (keep_none _ (below (2 ^ n)) (λ m i. rw (le-ltb (letters m) 0 (omega arith)) (and-false (f m)))))
length_kept f n (suc k) =
    ap length (keep_append f (groups n k) (keep (λ m. eqb (letters m) k) (below (2 ^ n))))
    ∙ length-append (keep f (groups n k)) _
    ∙ ap₂ ◌+◌ (length_kept f n k) (ap length (keep_both f (λ m. eqb (letters m) k) (below (2 ^ n))))
    ∙ sym (length_either (λ m. f m && ltb (letters m) k) (λ m. f m && eqb (letters m) k) (below (2 ^ n)) apart)
    ∙ ap length (keep_same _ _ (below (2 ^ n)) (λ m i. sym (more m)))
  where
    apart : (m : ℕ) → (f m && ltb (letters m) k) ≡ true → (f m && eqb (letters m) k) ≡ false
    apart m e = rw (ne_eqb (letters m) k (omega (arith, ltb-true (letters m) k (and_right (f m) _ e)))) (and-false (f m))

    more : (m : ℕ) → (f m && ltb (letters m) (suc k)) ≡ ((f m && ltb (letters m) k) || (f m && eqb (letters m) k))
    more m = rw (ltb_suc (letters m) k) (and-or_distrib_left (f m) (ltb (letters m) k) (eqb (letters m) k))

length-groups : (n k : ℕ) → length (groups n k) ≡ length (keep (λ m. ltb (letters m) k) (below (2 ^ n)))
length-groups n k = sym (ap length (keep-every (λ m. true) (groups n k) (λ m i. refl))) ∙ length_kept (λ m. true) n k

pub length-order : (n : ℕ) → length (order n) ≡ 2 ^ n
unfolding order
length-order n =
    length-groups n (suc n)
    ∙ ap length (keep-every (λ m. ltb (letters m) (suc n)) (below (2 ^ n)) (λ m i. few n m (sym (has_below m (2 ^ n)) ∙ i)))
    ∙ length-below (2 ^ n)

-- ---- where the masks with so many letters begin
pub start-count : (n k : ℕ) → start n k ≡ length (keep (λ m. ltb (letters m) k) (below (2 ^ n)))
unfolding start
start-count n k = length-groups n k

-- behind the masks that have fewer than k letters come those that have k or more
groups_split : (n k o : ℕ) → k ≤ o → (rest : List ℕ) × (groups n o ≡ groups n k ++ rest) × ((m : ℕ) → has m rest ≡ true → k ≤ letters m)
unfolding groups group has
groups_split n k zero l = let e : k ≡ 0 = omega arith in ([], rw e, λ m i. never i refl)
groups_split n k (suc o) l = go (groups_split n k o) (bool_cases (eqb k (suc o)))
  where
    more : (m : ℕ) → k ≤ o → {b : Bool} → (b ≡ true → k ≤ letters m) → (b ≡ true) ⊎ (has m (group (2 ^ n) o) ≡ true) → k ≤ letters m
    more m h f (inl i) = f i
    more m h f (inr i) = omega (arith, (in_group (2 ^ n) o m i).0)

    go : (k ≤ o → (rest : List ℕ) × (groups n o ≡ groups n k ++ rest) × ((m : ℕ) → has m rest ≡ true → k ≤ letters m))
        → (eqb k (suc o) ≡ true) ⊎ (eqb k (suc o) ≡ false)
        → (rest : List ℕ) × (groups n (suc o) ≡ groups n k ++ rest) × ((m : ℕ) → has m rest ≡ true → k ≤ letters m)
    go ih (inl e) = let q : k ≡ suc o = eqb-true k (suc o) e in ([], rw q (sym (append-nil (groups n (suc o)))), λ m i. never i refl)
    go ih (inr e) =
        let h : k ≤ o = omega (arith, eqb-false k (suc o) e) in
        let s = ih h in
        let last : List ℕ = group (2 ^ n) o in (
          s.0 ++ last,
          ap (λ (l : List ℕ). l ++ last) s.1 ∙ append_assoc (groups n k) s.0 last,
          λ m i. more m h (s.2 m) (or_cases (has m s.0) (has m last) (sym (has_append m s.0 last) ∙ i)),
        )

module _ (n k : ℕ) (l : k ≤ suc n) where
  split : (rest : List ℕ) × (order n ≡ groups n k ++ rest) × ((m : ℕ) → has m rest ≡ true → k ≤ letters m)
  unfolding order
  split = groups_split n k (suc n) l

  pub start-within : start n k ≤ 2 ^ n
  unfolding start
  start-within = omega (arith, ap length split.1, length-append (groups n k) split.0, length-order n)

  pub start_fewer : (i : ℕ) → i < start n k → letters (get_or (order n) i 0) < k
  unfolding start
  start_fewer i h =
      let e : get_or (order n) i 0 ≡ get_or (groups n k) i 0 =
      ap (λ (x : List ℕ). get_or x i 0) split.1 ∙ get_or-append (groups n k) split.0 0 i h in
      let g : (ltb (letters (get_or (groups n k) i 0)) k && ltb (get_or (groups n k) i 0) (2 ^ n)) ≡ true =
      sym (has_groups n k (get_or (groups n k) i 0)) ∙ has_place (groups n k) i h in
      rw e (ltb-true _ _ (and_left _ (ltb (get_or (groups n k) i 0) (2 ^ n)) g))

  pub start_more : (i : ℕ) → start n k ≤ i → i < 2 ^ n → k ≤ letters (get_or (order n) i 0)
  unfolding start
  start_more i h b =
      let j : ℕ = i - start n k in
      let q : i ≡ length (groups n k) + j = omega arith in
      let e : get_or (order n) i 0 ≡ get_or split.0 j 0 =
      ap₂ (λ (x : List ℕ) (y : ℕ). get_or x y 0) split.1 q ∙ get_or-append-add (groups n k) split.0 j 0 in
      let s : j < length split.0 = omega (arith, ap length split.1, length-append (groups n k) split.0, length-order n) in
      rw e (split.2 _ (has_place split.0 j s))

-- what stands at a place is a mask for n letters
pub order_below : (n p : ℕ) → p < 2 ^ n → get_or (order n) p 0 < 2 ^ n
order_below n p h =
    let i : has (get_or (order n) p 0) (order n) ≡ true = has_place (order n) p (rw (length-order n) h) in
    ltb-true (get_or (order n) p 0) (2 ^ n) (sym (has_order n (get_or (order n) p 0)) ∙ i)

-- ---- the monomials of a polynomial, in written order
pub has_monomials : (n : ℕ) (f : Polynomial) (m : ℕ) → has m (monomials n f) ≡ (f m && ltb m (2 ^ n))
unfolding monomials
has_monomials n f m = has_keep f m (order n) ∙ ap (λ (b : Bool). f m && b) (has_order n m)

-- how many they are: as many as the table has
pub length-monomials : (n : ℕ) (f : Polynomial) → length (monomials n f) ≡ count (2 ^ n) f
unfolding monomials order
length-monomials n f =
    length_kept f n (suc n)
    ∙ ap length (keep_same _ f (below (2 ^ n)) (λ m i. rw (few n m (sym (has_below m (2 ^ n)) ∙ i)) (and-true (f m))))
    ∙ count-below f (2 ^ n)

pub monomials_none : (n : ℕ) (f : Polynomial) → ((m : ℕ) → m < 2 ^ n → f m ≡ false) → monomials n f ≡ []
unfolding monomials
monomials_none n f h = keep_none f (order n) (λ m i. h m (ltb-true m (2 ^ n) (sym (has_order n m) ∙ i)))

pub monomials_rise : (n : ℕ) (f : Polynomial) → rises (monomials n f) ≡ true
unfolding monomials
monomials_rise n f = rises-keep f (order n) (order-rises n)

-- the only rising list of these monomials
pub monomials_unique : (n : ℕ) (f : Polynomial) (xs : List ℕ) → rises xs ≡ true → ((m : ℕ) → has m xs ≡ (f m && ltb m (2 ^ n)))
    → xs ≡ monomials n f
monomials_unique n f xs r h = rises_unique xs (monomials n f) r (monomials_rise n f) (λ m. h m ∙ sym (has_monomials n f m))

pub monomials_same : (n : ℕ) (f g : Polynomial) → ((m : ℕ) → m < 2 ^ n → f m ≡ g m) → monomials n f ≡ monomials n g
monomials_same n f g h =
    monomials_unique n g (monomials n f) (monomials_rise n f) (λ m. has_monomials n f m ∙ go m (bool_cases (ltb m (2 ^ n))))
  where
    go : (m : ℕ) → (ltb m (2 ^ n) ≡ true) ⊎ (ltb m (2 ^ n) ≡ false) → (f m && ltb m (2 ^ n)) ≡ (g m && ltb m (2 ^ n))
    go m (inl e) = ap (λ (b : Bool). b && ltb m (2 ^ n)) (h m (ltb-true m (2 ^ n) e))
    go m (inr e) = rw e (and-false (f m) ∙ sym (and-false (g m)))

-- a rising list of masks below 2 ^ n is the list of its members in written order
pub rising_members : (n : ℕ) (xs : List ℕ) → rises xs ≡ true → ((m : ℕ) → has m xs ≡ true → m < 2 ^ n) → xs ≡ monomials n (λ m. has m xs)
rising_members n xs r h =
    monomials_unique n (λ m. has m xs) xs r
    (λ m. bool_iff (has m xs) (has m xs && ltb m (2 ^ n)) (λ i. both i (lt-ltb m (2 ^ n) (h m i))) (and_left (has m xs) (ltb m (2 ^ n))))

-- a rising list of as many masks as there are is the whole order
pub rising_whole : (n : ℕ) (xs : List ℕ) → rises xs ≡ true → ((m : ℕ) → has m xs ≡ true → m < 2 ^ n) → length xs ≡ 2 ^ n → xs ≡ order n
unfolding monomials
rising_whole n xs r h l =
    let e : xs ≡ keep (λ m. has m xs) (order n) = rising_members n xs r h in
    e ∙ keep_all (λ m. has m xs) (order n) (sym (ap length e) ∙ l ∙ sym (length-order n))

-- each mask below 2 ^ n stands in the order exactly once
pub order_once : (n m : ℕ) → m < 2 ^ n → keep (λ k. eqb k m) (order n) ≡ m ∷ []
unfolding monomials rises has
order_once n m h = sym (monomials_unique n (λ k. eqb k m) (m ∷ []) refl (λ k. or-false (eqb k m) ∙ only k))
  where
    only : (k : ℕ) → eqb k m ≡ (eqb k m && ltb k (2 ^ n))
    only k =
        bool_iff (eqb k m) (eqb k m && ltb k (2 ^ n)) (λ e. both e (rw (eqb-true k m e) (lt-ltb m (2 ^ n) h)))
        (and_left (eqb k m) (ltb k (2 ^ n)))

-- 'smaller n skips masks that are too large': the order for n letters, from that for o letters
pub order_fewer : (n o : ℕ) → n ≤ o → keep (λ m. ltb m (2 ^ n)) (order o) ≡ order n
unfolding monomials
order_fewer n o h = sym (monomials_unique o (λ m. ltb m (2 ^ n)) (order n) (order-rises n) (λ m. has_order n m ∙ within m))
  where
    within : (m : ℕ) → ltb m (2 ^ n) ≡ (ltb m (2 ^ n) && ltb m (2 ^ o))
    within m =
        let p : 2 ^ n ≤ 2 ^ o = pow_mono h in
        bool_iff (ltb m (2 ^ n)) (ltb m (2 ^ n) && ltb m (2 ^ o)) (λ e. both e (lt-ltb m (2 ^ o) (omega (arith, ltb-true m (2 ^ n) e))))
        (and_left (ltb m (2 ^ n)) (ltb m (2 ^ o)))
