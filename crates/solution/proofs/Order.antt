-- Question 17 is exact: what passes is an order that lists each unknown once, and its bytes are the only ones of that order.
-- That each unknown is there once, in U places, leaves no place for anything else (`tally_over`): the members below k, counted by their
-- numbers, and the members from k on make up the length.
-- Assumes nothing.
use mathlib.Core.Path.{◌≡◌, refl, sym, ap, ◌∙◌}
use mathlib.Core.Logic.{◌↔◌}
use mathlib.Core.Bool.{Bool, true, false, not, ◌||◌, true≢false}
use mathlib.Core.List.{List, [], ◌∷◌}
use Prim.Native.Nat.{ℕ, zero, suc, ◌+◌, ◌-◌, ◌<◌, ◌≤◌}
use native.Mathlib.Omega.{arith}
use native.Mathlib.Decide.{ℕ_discrete}
use lib.Dec.{eqb, ltb}
use lib.ListN.{length, take, get_or, length-take, get_or-eq_default}
use lib.Seq.{ext_get_or, get_or-take}
use borrow.Author.Tests.{eqb-true, eqb-false, eq-eqb, ltb-true, ltb-false, lt-ltb, le-ltb}
use Rattle.ring.specs.Letters.{digit}
use Rattle.ring.specs.Polynomial.{every_below}
use Rattle.ring.specs.Lists.{has, times}
use Rattle.ring.proofs.Bool.{bool_iff, and_left, and_right, both, never}
use Rattle.ring.proofs.Every.{every_all, every_of}
use Rattle.ring.proofs.Lists.{length-listed, get_d_listed, has_numbers}
use Rattle.solution.specs.Condition.{IsOrder, ListsEach, default_order}
use Rattle.solution.specs.Order.{order_bytes, default_bytes, order_fits}

-- ---- counting members
-- the members below k, counted by number, and the members from k on
tally : ℕ → List ℕ → ℕ
tally zero xs = 0
tally (suc k) xs = tally k xs + times k xs

over : ℕ → List ℕ → ℕ
over k [] = 0
over k (y ∷ ys) = digit (not (ltb y k)) + over k ys

over_all : (xs : List ℕ) → over 0 xs ≡ length xs
unfolding over
over_all [] = refl
over_all (y ∷ ys) = let e : ltb y 0 ≡ false = le-ltb y 0 (omega arith) in rw e (omega (arith, over_all ys))

-- a member from k on is k or above it
one_more : (k y : ℕ) → digit (not (ltb y k)) ≡ digit (not (ltb y (suc k))) + digit (eqb k y)
one_more k y = go (ltb y k) refl (eqb k y) refl
  where
    go : (a : Bool) → ltb y k ≡ a → (b : Bool) → eqb k y ≡ b → digit (not a) ≡ digit (not (ltb y (suc k))) + digit b
    go true e true f = absurd (omega (arith, ltb-true y k e, eqb-true k y f))
    go true e false f = rw (lt-ltb y (suc k) (omega (arith, ltb-true y k e)))
    go false e true f = rw (lt-ltb y (suc k) (omega (arith, eqb-true k y f)))
    go false e false f = rw (le-ltb y (suc k) (omega (arith, ltb-false y k e, eqb-false k y f)))

over_step : (k : ℕ) (xs : List ℕ) → over k xs ≡ over (suc k) xs + times k xs
unfolding over times
over_step k [] = refl
over_step k (y ∷ ys) = omega (arith, one_more k y, over_step k ys)

tally_over : (k : ℕ) (xs : List ℕ) → tally k xs + over k xs ≡ length xs
unfolding tally
tally_over zero xs = omega (arith, over_all xs)
tally_over (suc k) xs = omega (arith, tally_over k xs, over_step k xs)

tally_once : (k : ℕ) (xs : List ℕ) → ((x : ℕ) → x < k → times x xs ≡ 1) → tally k xs ≡ k
unfolding tally
tally_once zero xs e = refl
tally_once (suc k) xs e = omega (arith, tally_once k xs (λ x l. e x (omega arith)), e k (omega arith))

none_over : (k : ℕ) (xs : List ℕ) → over k xs ≡ 0 → (x : ℕ) → has x xs ≡ true → x < k
unfolding over has
none_over k [] e x h = absurd (true≢false (sym h))
none_over k (y ∷ ys) e x h = go (ltb y k) refl (eqb x y) refl (none_over k ys (omega arith) x)
  where
    go : (a : Bool) → ltb y k ≡ a → (b : Bool) → eqb x y ≡ b → (has x ys ≡ true → x < k) → x < k
    go true f true g ih = omega (arith, ltb-true y k f, eqb-true x y g)
    go true f false g ih = ih (rw g at h)
    go false f b g ih = absurd (omega (arith, rw f at e))

-- what is no member is there no times, and the other way round
pub times_absent : (x : ℕ) (xs : List ℕ) → has x xs ≡ false → times x xs ≡ 0
unfolding times has
times_absent x [] h = refl
times_absent x (y ∷ ys) h = go (eqb x y) refl (times_absent x ys)
  where
    go : (b : Bool) → eqb x y ≡ b → (has x ys ≡ false → times x ys ≡ 0) → digit b + times x ys ≡ 0
    go true e ih = absurd (true≢false (rw e at h))
    go false e ih = omega (arith, ih (rw e at h))

pub absent_times : (x : ℕ) (xs : List ℕ) → times x xs ≡ 0 → has x xs ≡ false
unfolding times has
absent_times x [] e = refl
absent_times x (y ∷ ys) e = go (eqb x y) refl (absent_times x ys)
  where
    go : (b : Bool) → eqb x y ≡ b → (times x ys ≡ 0 → has x ys ≡ false) → (b || has x ys) ≡ false
    go true k ih = absurd (omega (arith, rw k at e))
    go false k ih = ih (omega (arith, rw k at e))

has_times : (x : ℕ) (xs : List ℕ) → 0 < times x xs → has x xs ≡ true
has_times x xs l = go (has x xs) refl
  where
    go : (b : Bool) → has x xs ≡ b → b ≡ true
    go true e = refl
    go false e = absurd (omega (arith, times_absent x xs e))

times_some : (x : ℕ) (xs : List ℕ) → has x xs ≡ true → 0 < times x xs
times_some x xs h = go (times x xs) refl
  where
    go : (k : ℕ) → times x xs ≡ k → 0 < k
    go zero e = never h (absent_times x xs e)
    go (suc k) e = omega arith

-- in a list of at most U members that has each unknown once there is nothing else
module _ (U : ℕ) (xs : List ℕ) (short : length xs ≤ U) (once : (x : ℕ) → x < U → times x xs ≡ 1) where
  nothing_over : over U xs ≡ 0
  nothing_over = omega (arith, tally_over U xs, tally_once U xs once)

  full : length xs ≡ U
  full = omega (arith, tally_over U xs, tally_once U xs once)

  is_the_order : IsOrder U xs
  is_the_order x =
      bool_iff (has x xs) (ltb x U) (λ h. lt-ltb x U (none_over U xs nothing_over x h))
      (λ e. has_times x xs (omega (arith, once x (ltb-true x U e))))

  once_each : ListsEach U xs
  once_each x = go (ltb x U) refl
    where
      go : (b : Bool) → ltb x U ≡ b → times x xs ≡ digit b
      go true e = once x (ltb-true x U e)
      go false e = times_absent x xs (is_the_order x ∙ e)

-- ---- orders that list each unknown once
empty_over : (k : ℕ) (ys : List ℕ) → ((x : ℕ) → k ≤ x → times x ys ≡ 0) → over k ys ≡ 0
unfolding over times
empty_over k [] h = refl
empty_over k (y ∷ ys) h = go (ltb y k) refl (empty_over k ys (λ x l. omega (arith, h x l)))
  where
    go : (b : Bool) → ltb y k ≡ b → over k ys ≡ 0 → digit (not b) + over k ys ≡ 0
    go true e ih = omega arith
    go false e ih = absurd (omega (arith, rw (eq-eqb y y refl) at (h y (ltb-false y k e))))

module _ (U : ℕ) (order : List ℕ) (each : ListsEach U order) where
  once_in : (x : ℕ) → x < U → times x order ≡ 1
  once_in x l = each x ∙ ap digit (lt-ltb x U l)

  -- such an order is as long as there are unknowns ..
  pub each_length : length order ≡ U
  each_length =
      omega (arith, tally_over U order, tally_once U order once_in, empty_over U order (λ x l. each x ∙ ap digit (le-ltb x U l)))

  -- .. and an order
  pub each_order : IsOrder U order
  each_order = is_the_order U order (omega (arith, each_length)) once_in

-- numbers that are at least 1 each, k of them, make up k at least, and k only if all are 1
tally_least : (k : ℕ) (xs : List ℕ) → ((x : ℕ) → x < k → 0 < times x xs) → k ≤ tally k xs
unfolding tally
tally_least zero xs e = omega arith
tally_least (suc k) xs e = omega (arith, tally_least k xs (λ y m. e y (omega arith)), e k (omega arith))

once_of_tally : (k : ℕ) (xs : List ℕ) → ((x : ℕ) → x < k → 0 < times x xs) → tally k xs ≤ k → (x : ℕ) → x < k → times x xs ≡ 1
unfolding tally
once_of_tally zero xs e h x l = absurd (omega arith)
once_of_tally (suc k) xs e h x l =
    go (ℕ_discrete x k) (once_of_tally k xs (λ y m. e y (omega arith)) (omega (arith, e k (omega arith))) x)
  where
    here : times k xs ≡ 1
    here = omega (arith, e k (omega arith), tally_least k xs (λ y m. e y (omega arith)))

    go : Dec (x ≡ k) → (x < k → times x xs ≡ 1) → times x xs ≡ 1
    go (yes q) ih = ap (λ (y : ℕ). times y xs) q ∙ here
    go (no q) ih = ih (omega arith)

-- an order as long as there are unknowns has no repeats
pub order_each : (U : ℕ) (order : List ℕ) → IsOrder U order → length order ≡ U → ListsEach U order
order_each U order is size =
    once_each U order (omega arith)
    (once_of_tally U order (λ x l. times_some x order (is x ∙ lt-ltb x U l)) (omega (arith, tally_over U order)))

-- the order 0, 1, 2, .. lists the unknowns, each once
pub default_order_lem : (U : ℕ) → IsOrder U (default_order U)
unfolding default_order
default_order_lem U x = has_numbers x U

pub default_each : (U : ℕ) → ListsEach U (default_order U)
unfolding default_order
default_each U = order_each U (default_order U) (default_order_lem U) (length-listed U (λ j. j))

-- ---- the bytes of an order
pub length-order_bytes : (order : List ℕ) → length (order_bytes order) ≡ 6
unfolding order_bytes
length-order_bytes order = length-listed 6 (λ i. get_or order i 255)

module _ (order : List ℕ) (few : length order ≤ 6) where
  -- its members in front ..
  pub bytes-order : take (length order) (order_bytes order) ≡ order
  unfolding order_bytes
  bytes-order =
      let size : length (take (length order) (order_bytes order)) ≡ length order =
      omega (arith, length-take (length order) (order_bytes order), length-order_bytes order) in
      ext_get_or 0 (take (length order) (order_bytes order)) order size
      (λ i l. get_or-take (length order) (order_bytes order) i 0 (omega (arith, size))
      ∙ get_d_listed 6 (λ i. get_or order i 255) i 0 (omega (arith, size))
      ∙ same i order (omega (arith, size)))
    where
      same : (i : ℕ) (xs : List ℕ) → i < length xs → get_or xs i 255 ≡ get_or xs i 0
      same i [] h = absurd (omega arith)
      same zero (x ∷ xs) h = refl
      same (suc i) (x ∷ xs) h = same i xs (omega arith)

  -- .. and 255 behind them
  bytes_unused : (i : ℕ) → i < 6 - length order → get_or (order_bytes order) (length order + i) 0 ≡ 255
  unfolding order_bytes
  bytes_unused i l =
      get_d_listed 6 (λ i. get_or order i 255) (length order + i) 0 (omega arith)
      ∙ get_or-eq_default order 255 {n = length order + i} (omega arith)

-- ---- question 17
module _ (U : ℕ) (bytes : List ℕ) (yes-17 : order_fits U bytes ≡ true) where
  pub fits_six : length bytes ≡ 6
  unfolding order_fits
  fits_six = eqb-true (length bytes) 6 (and_left (eqb (length bytes) 6) _ yes-17)

  fits_once : (x : ℕ) → x < U → times x (take U bytes) ≡ 1
  unfolding order_fits
  fits_once x l =
      eqb-true (times x (take U bytes)) 1
      (every_all U (λ x. eqb (times x (take U bytes)) 1)
      (and_left (every_below U (λ x. eqb (times x (take U bytes)) 1)) _ (and_right (eqb (length bytes) 6) _ yes-17)) x l)

  fits_unused : (i : ℕ) → i < 6 - U → get_or bytes (U + i) 0 ≡ 255
  unfolding order_fits
  fits_unused i l =
      eqb-true (get_or bytes (U + i) 0) 255
      (every_all (6 - U) (λ i. eqb (get_or bytes (U + i) 0) 255)
      (and_right (every_below U (λ x. eqb (times x (take U bytes)) 1)) _ (and_right (eqb (length bytes) 6) _ yes-17)) i l)

  short : length (take U bytes) ≤ U
  short = omega (arith, length-take U bytes)

  -- what passes lists each unknown once ..
  pub fits_each : ListsEach U (take U bytes)
  fits_each = once_each U (take U bytes) short fits_once

  pub fits_length : length (take U bytes) ≡ U
  fits_length = full U (take U bytes) short fits_once

  pub fits_order : IsOrder U (take U bytes)
  fits_order = each_order U (take U bytes) fits_each

  -- .. and the bytes are those of that order
  pub fits_bytes : bytes ≡ order_bytes (take U bytes)
  unfolding order_bytes
  fits_bytes =
      ext_get_or 0 bytes (order_bytes (take U bytes)) (fits_six ∙ sym (length-order_bytes (take U bytes)))
      (λ i l. at i (omega (arith, fits_six)) (ltb i U) refl
      ∙ sym (get_d_listed 6 (λ i. get_or (take U bytes) i 255) i 0 (omega (arith, fits_six))))
    where
      front : (k i : ℕ) (xs : List ℕ) → i < k → i < length xs → get_or xs i 0 ≡ get_or (take k xs) i 255
      front zero i xs h l = absurd (omega arith)
      front (suc k) i [] h l = absurd (omega arith)
      front (suc k) zero (x ∷ xs) h l = refl
      front (suc k) (suc i) (x ∷ xs) h l = front k i xs (omega arith) (omega arith)

      at : (i : ℕ) → i < 6 → (b : Bool) → ltb i U ≡ b → get_or bytes i 0 ≡ get_or (take U bytes) i 255
      at i h true e = front U i bytes (ltb-true i U e) (omega (arith, fits_six))
      at i h false e =
          let l : U ≤ i = ltb-false i U e in
          let s : U + (i - U) ≡ i = omega arith in
          ap (λ (k : ℕ). get_or bytes k 0) (sym s) ∙ fits_unused (i - U) (omega arith)
          ∙ sym (get_or-eq_default (take U bytes) 255 {n = i} (omega (arith, fits_length)))

-- one order has one form in bytes
pub fits_different : (U : ℕ) (a b : List ℕ) → order_fits U a ≡ true → order_fits U b ≡ true → take U a ≡ take U b → a ≡ b
fits_different U a b fa fb e = fits_bytes U a fa ∙ ap order_bytes e ∙ sym (fits_bytes U b fb)

module _ (U : ℕ) (order : List ℕ) (few : U ≤ 6) (each : ListsEach U order) where
  pub take-order_bytes : take U (order_bytes order) ≡ order
  take-order_bytes =
      let l : length order ≡ U = each_length U order each in
      ap (λ (k : ℕ). take k (order_bytes order)) (sym l) ∙ bytes-order order (omega arith)

  pub bytes_fit : order_fits U (order_bytes order) ≡ true
  unfolding order_fits
  bytes_fit =
      let l : length order ≡ U = each_length U order each in
      both (eq-eqb _ 6 (length-order_bytes order))
      (both (every_of U _ (λ x h. eq-eqb _ 1 (ap (times x) take-order_bytes ∙ once_in U order each x h)))
      (every_of (6 - U) _
      (λ i h. eq-eqb _ 255 (ap (λ (k : ℕ). get_or (order_bytes order) (k + i) 0) (sym l) ∙ bytes_unused order (omega arith) i (omega arith)))))

-- question 17 is answered yes exactly for the bytes of an order that lists each unknown once
pub fits_exactly : (U : ℕ) (bytes : List ℕ) → U ≤ 6
    → (order_fits U bytes ≡ true) ↔ ((order : List ℕ) × ListsEach U order × (bytes ≡ order_bytes order))
fits_exactly U bytes few = (
  λ h. (take U bytes, fits_each U bytes h, fits_bytes U bytes h),
  λ r. rw r.2 (bytes_fit U r.0 few r.1),
)

-- the order 0, 1, 2, .. passes
pub default_fits : (U : ℕ) → U ≤ 6 → order_fits U (default_bytes U) ≡ true
default_fits U few = bytes_fit U (default_order U) few (default_each U)
