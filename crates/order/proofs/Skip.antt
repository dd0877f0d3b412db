-- The walk over the table in `skip_large`: masks that are small enough are put one behind another, the others are skipped.
-- Assumes nothing.
use mathlib.Core.Path.{◌≡◌, refl, sym, ap, ap₂, ◌∙◌}
use mathlib.Core.Bool.{Bool, true, false, cond}
use mathlib.Core.List.{List, [], ◌∷◌, ◌++◌, append-nil, append_assoc}
use mathlib.Core.Logic.{◌⊎◌, inl, inr}
use Prim.Native.Nat.{ℕ, zero, suc, ◌+◌, ◌-◌, ◌^◌, ◌≤◌, ◌<◌}
use native.Mathlib.Nat.{add-zero, add-suc}
use native.Mathlib.Numerals.{add-one}
use native.Mathlib.Omega.{arith}
use lib.Dec.{ltb}
use lib.ListN.{length, get_or, take, drop, set, length-append, length-set, take-append-drop}
use lib.Pow.{pow_mono}
use lib.Seq.{drop-cons, set_at, take-suc, take_all}
use borrow.Author.Tests.{lt-ltb, le-ltb, ltb-true, ltb-false}
use Rattle.ring.proofs.Bool.{bool_cases}
use Rattle.order.specs.Order.{letters, keep, order}
use Rattle.order.specs.Inner.Place.{start, AreStarts}
use Rattle.order.proofs.Letters.{letters_most}
use Rattle.order.proofs.Lists.{keep_append}
use Rattle.order.proofs.Order.{length-order, order_below, order_fewer, start-within}
use Rattle.order.proofs.Places.{starts_looked_up, length_starts, larger_follow, start_later}

-- after p of the masks xs the buffer begins with the `at` of them that pass, and goes on as it was
pub record Kept (t : ℕ → Bool) (xs lent out : List ℕ) (at p : ℕ) : Type 0 where
  pub room : length (keep t xs) ≤ length lent
  pub inside : p ≤ length xs
  pub many : length (keep t (take p xs)) ≡ at
  pub same : length out ≡ length lent
  pub holds : out ≡ keep t (take p xs) ++ drop at lent

-- what one mask more leaves, and what d masks more leave if none of them passes
module _ (t : ℕ → Bool) (xs : List ℕ) where
  next : (p : ℕ) → p < length xs → (b : Bool) → t (get_or xs p 0) ≡ b
      → keep t (take (suc p) xs) ≡ keep t (take p xs) ++ cond b (get_or xs p 0 ∷ []) []
  unfolding keep
  next p l b e = ap (keep t) (take-suc xs p 0 l) ∙ keep_append t (take p xs) (get_or xs p 0 ∷ []) ∙ rw e

  skipped : (p d : ℕ) → p + d ≤ length xs → ((i : ℕ) → p ≤ i → i < p + d → t (get_or xs i 0) ≡ false)
      → keep t (take (p + d) xs) ≡ keep t (take p xs)
  skipped p zero l h = rw add-zero
  skipped p (suc d) l h =
      rw add-suc (next (p + d) (omega arith) false (h (p + d) (omega arith) (omega arith)) ∙ append-nil _
      ∙ skipped p d (omega arith) (λ i a b. h i a (omega arith)))

module _ {t : ℕ → Bool} {xs lent : List ℕ} where
  pub kept_start : length (keep t xs) ≤ length lent → Kept t xs lent lent 0 0
  unfolding keep
  kept_start l = record { room = l; inside = omega arith; many = refl; same = refl; holds = refl }

  module _ {out : List ℕ} {at p : ℕ} (k : Kept t xs lent out at p) where
    passed : length (keep t xs) ≡ at + length (keep t (drop p xs))
    passed =
        ap (λ (l : List ℕ). length (keep t l)) (sym (take-append-drop p xs))
        ∙ ap length (keep_append t (take p xs) (drop p xs))
        ∙ length-append (keep t (take p xs)) (keep t (drop p xs))
        ∙ ap (λ (i : ℕ). i + length (keep t (drop p xs))) k.many

    -- while a mask is missing there are masks left
    pub kept_left : at < length (keep t xs) → p < length xs
    kept_left h = go (bool_cases (ltb p (length xs)))
      where
        go : (ltb p (length xs) ≡ true) ⊎ (ltb p (length xs) ≡ false) → p < length xs
        go (inl e) = ltb-true p (length xs) e
        go (inr e) =
            let m : length (keep t xs) ≡ at =
            ap (λ (l : List ℕ). length (keep t l)) (sym (take_all p xs (ltb-false p (length xs) e))) ∙ k.many in
            absurd (omega arith)

    pub kept_put : at < length (keep t xs) → {m : ℕ} → m ≡ get_or xs p 0 → t m ≡ true → Kept t xs lent (set out at m) (at + 1) (p + 1)
    kept_put h {m} em e =
        let l : p < length xs = kept_left h in
        let n : keep t (take (suc p) xs) ≡ keep t (take p xs) ++ (m ∷ []) = rw em (next t xs p l true (rw (← em) e)) in
        record {
          room = k.room;
          inside = omega arith;
          many = rw (add-one p, n) (length-append (keep t (take p xs)) (m ∷ []) ∙ ap (λ (i : ℕ). i + 1) k.many);
          same = length-set out at m ∙ k.same;
          holds =
              rw (k.holds, add-one p, n, append_assoc, drop-cons lent at 0 (omega (arith, k.room)), add-one)
              (set_at (keep t (take p xs)) (get_or lent at 0) (drop (suc at) lent) m at k.many);
        }

    pub kept_jump : (q : ℕ) → p ≤ q → q ≤ length xs → ((i : ℕ) → p ≤ i → i < q → t (get_or xs i 0) ≡ false) → Kept t xs lent out at q
    kept_jump q l r h =
        let e : p + (q - p) ≡ q = omega arith in
        let s : keep t (take q xs) ≡ keep t (take p xs) = rw e at (skipped t xs p (q - p) (omega arith) (λ i a b. h i a (omega arith))) in
        record { room = k.room; inside = r; many = rw s k.many; same = k.same; holds = rw s k.holds }

    pub kept_end : length (keep t xs) ≤ at → out ≡ keep t xs ++ drop (length (keep t xs)) lent
    kept_end h =
        let a : at ≡ length (keep t xs) = omega (arith, passed) in
        let z : length (keep t (drop p xs)) ≡ 0 = omega (arith, passed) in
        let s : keep t xs ≡ keep t (take p xs) = ap (keep t) (sym (take-append-drop p xs)) ∙ keep_append t (take p xs) (drop p xs)
        ∙ ap (λ (l : List ℕ). keep t (take p xs) ++ l) (none _ z) ∙ append-nil _ in
        k.holds ∙ ap₂ (λ (l : List ℕ) (i : ℕ). l ++ drop i lent) (sym s) a
      where
        none : (l : List ℕ) → length l ≡ 0 → l ≡ []
        none [] e = refl
        none (x ∷ l) e = absurd (omega arith)

-- ---- the masks below 2 ^ n of the order for o letters
-- what the loop keeps, with 2 ^ n as the code has it, and what it asks of the tables
pub record Walked (n o size : ℕ) (masks starts lent out : List ℕ) (at p : ℕ) : Type 0 where
  pub few : n ≤ o
  pub most : o ≤ 10
  pub ordered : masks ≡ order o
  pub placed : AreStarts o starts
  pub sized : size ≡ 2 ^ n
  pub kept : Kept (λ m. ltb m size) (order o) lent out at p

fewer : {n o size : ℕ} → n ≤ o → size ≡ 2 ^ n → keep (λ m. ltb m size) (order o) ≡ order n
fewer {n} {o} few e = rw e (order_fewer n o few)

fewer_count : {n o size : ℕ} → n ≤ o → size ≡ 2 ^ n → length (keep (λ m. ltb m size) (order o)) ≡ size
fewer_count {n} few e = ap length (fewer few e) ∙ length-order n ∙ sym e

pub walk_start : {n o size : ℕ} {masks starts lent : List ℕ} → n ≤ o → o ≤ 10 → masks ≡ order o → AreStarts o starts → size ≡ 2 ^ n
    → 2 ^ n ≤ length lent → Walked n o size masks starts lent lent 0 0
walk_start few most em es e l =
    record { few = few; most = most; ordered = em; placed = es; sized = e; kept = kept_start (omega (arith, fewer_count few e)) }

module _ {n o size : ℕ} {masks starts lent out : List ℕ} {at p : ℕ} (w : Walked n o size masks starts lent out at p) where
  all : length (keep (λ m. ltb m size) (order o)) ≡ size
  all = fewer_count w.few w.sized

  -- no table is longer than that of ten letters
  pub walk_most : (size ≤ 2 ^ o) × (2 ^ o ≤ 1024)
  walk_most = (rw w.sized (pow_mono w.few), pow_mono w.most)

  module _ (h : at < size) where
    pub walk_inside : p < 2 ^ o
    walk_inside = rw (length-order o) at (kept_left w.kept (rw all h))

    pub walk_read : p < length masks
    walk_read = rw (w.ordered, length-order o) walk_inside

    pub walk_room : at < length out
    walk_room = omega (arith, all, w.kept.room, w.kept.same)

    module _ {m : ℕ} (em : m ≡ get_or masks p 0) where
      mask : m ≡ get_or (order o) p 0
      mask = rw w.ordered at em

      below : m < 2 ^ o
      below = rw mask (order_below o p walk_inside)

      pub walk_mask : m < 1024
      walk_mask = omega (arith, below, walk_most)

      pub walk_put : m < size → Walked n o size masks starts lent (set out at m) (at + 1) (p + 1)
      walk_put l =
          record {
            few = w.few;
            most = w.most;
            ordered = w.ordered;
            placed = w.placed;
            sized = w.sized;
            kept = kept_put w.kept (rw all h) mask (lt-ltb m size l);
          }

      -- the place to jump to stands in the table
      pub walk_next : letters m + 1 < length starts
      walk_next = rw (length_starts o starts w.placed) (omega (arith, letters_most o m below))

      -- the jump leads on, within the table, and passes only masks that are too large
      pub walk_skip : size ≤ m → {q : ℕ} → q ≡ get_or starts (letters m + 1) 0
          → (p < q) × (q ≤ 2 ^ o) × Walked n o size masks starts lent out at q
      walk_skip l {q} eq =
          let most : letters m ≤ o = letters_most o m below in
          let s : q ≡ start o (letters m + 1) = eq ∙ starts_looked_up o starts w.placed (letters m + 1) (omega arith) in
          let e : q ≡ start o (letters (get_or (order o) p 0) + 1) = rw (← mask) s in
          let later : p < q = rw e (start_later o p walk_inside) in
          let within : q ≤ 2 ^ o = rw s (start-within o (letters m + 1) (omega arith)) in (
            later,
            within,
            record {
              few = w.few;
              most = w.most;
              ordered = w.ordered;
              placed = w.placed;
              sized = w.sized;
              kept =
                  kept_jump w.kept q (omega arith) (rw (length-order o) within)
                  (λ i a b. le-ltb (get_or (order o) i 0) size (omega (arith, mask, larger_follow o p i walk_inside a (rw e at b))));
            },
          )

  pub walk_end : size ≤ at → out ≡ order n ++ drop (2 ^ n) lent
  walk_end h =
      kept_end w.kept (omega (arith, all))
      ∙ ap₂ (λ (l : List ℕ) (i : ℕ). l ++ drop i lent) (fewer w.few w.sized) (all ∙ w.sized)
