-- The records of bytes: the one that stands first, and those behind it. How many steps `first_records` may take plays no part once
-- they are as many as the bytes: each whole record takes some of them. Below it, what a loop over the records finds at its place, and the
-- length that they take.
-- Assumes nothing.
use mathlib.Core.Path.{◌≡◌, refl, sym, ap, ◌∙◌}
use mathlib.Core.Bool.{Bool, true, false, cond}
use mathlib.Core.List.{List, [], ◌∷◌, ◌++◌}
use mathlib.Core.Logic.{◌⊎◌, inl, inr}
use Prim.Native.Nat.{ℕ, zero, suc, ◌+◌, ◌-◌, ◌≤◌, ◌<◌}
use native.Mathlib.Nat.{add-zero, not-suc-le-zero}
use native.Mathlib.Omega.{arith}
use lib.Dec.{leb}
use lib.ListN.{length, get_or, take, drop, length-append, length-drop, drop_of_length-le}
use lib.Seq.{drop-drop, get_or-take, get_or-drop, length-take-le}
use borrow.Author.Tests.{leb-true, le-leb, lt-leb}
use Rattle.ring.proofs.Bool.{bool_cases, never}
use Rattle.entry.specs.Record.{Record, bytes, size, kind, is_end, fields, AreBytes}
use Rattle.entry.specs.Held.{next, until_end, first_records, records, first}
use Rattle.entry.specs.Questions.{has_end}
use Rattle.entry.proofs.Made.{IsRecord, AllMade, whole_made, take-bytes, drop-bytes}

-- ---- the first record
-- there is none, or as many of the bytes as their kind says
next_cases : (bs : List ℕ) → (next bs ≡ []) ⊎ ((size (kind bs) ≤ length bs) × (next bs ≡ take (size (kind bs)) bs))
unfolding next
next_cases bs = go (bool_cases (leb (size (kind bs)) (length bs)))
  where
    go : (leb (size (kind bs)) (length bs) ≡ true) ⊎ (leb (size (kind bs)) (length bs) ≡ false)
        → (next bs ≡ []) ⊎ ((size (kind bs) ≤ length bs) × (next bs ≡ take (size (kind bs)) bs))
    go (inl e) = inr (leb-true _ _ e, rw e)
    go (inr e) = inl (rw e)

-- the bytes begin with it
pub next_front : (bs : List ℕ) → next bs ≡ take (length (next bs)) bs
next_front bs = go (next_cases bs)
  where
    go : (next bs ≡ []) ⊎ ((size (kind bs) ≤ length bs) × (next bs ≡ take (size (kind bs)) bs)) → next bs ≡ take (length (next bs)) bs
    go (inl e) = rw e
    go (inr e) = e.1 ∙ ap (λ (k : ℕ). take k bs) (sym (ap length e.1 ∙ length-take-le (size (kind bs)) bs e.0))

-- the bytes hold all of it
pub size_fits : (bs : List ℕ) → length (next bs) ≤ length bs
size_fits bs = go (next_cases bs)
  where
    go : (next bs ≡ []) ⊎ ((size (kind bs) ≤ length bs) × (next bs ≡ take (size (kind bs)) bs)) → length (next bs) ≤ length bs
    go (inl e) = rw e (omega arith)
    go (inr e) = rw e.1 (omega (arith, e.0, length-take-le (size (kind bs)) bs e.0))

kind_front : (k : ℕ) (bs : List ℕ) → 0 < k → kind (take k bs) ≡ kind bs
unfolding kind
kind_front k bs h = get_or-take k bs 0 0 h

-- no bytes pass for a whole record
pub no_record : IsRecord []
unfolding size kind fields
no_record = record { whole = refl; are_bytes = λ i. omega arith }

-- it has as many bytes as its kind fixes
pub next_whole : (bs : List ℕ) → length (next bs) ≡ size (kind (next bs))
next_whole bs = go (next_cases bs)
  where
    front : (k : ℕ) → k ≤ length bs → size (kind bs) ≡ k → length (take k bs) ≡ size (kind (take k bs))
    front zero h e = no_record.whole
    front (suc k) h e = length-take-le (suc k) bs h ∙ sym e ∙ ap size (sym (kind_front (suc k) bs (omega arith)))

    go : (next bs ≡ []) ⊎ ((size (kind bs) ≤ length bs) × (next bs ≡ take (size (kind bs)) bs)) → length (next bs) ≡ size (kind (next bs))
    go (inl e) = rw e no_record.whole
    go (inr e) = rw e.1 (front (size (kind bs)) e.0 refl)

next-is : (bs : List ℕ) → AreBytes bs → IsRecord (next bs)
next-is bs w = record { whole = next_whole bs; are_bytes = λ i. rw (next_front bs) (take-bytes (length (next bs)) bs w i) }

-- how many bytes it has, by the byte of kind at its place
module _ (bs : List ℕ) (at : ℕ) where
  pub sized_out : length bs ≤ at → 0 ≡ length (next (drop at bs))
  unfolding next kind size fields
  sized_out h = rw (drop_of_length-le bs h)

  module _ {n : ℕ} (en : n ≡ size (get_or bs at 0)) where
    at_kind : size (kind (drop at bs)) ≡ n
    unfolding kind
    at_kind = ap size (get_or-drop at bs 0 0) ∙ rw (add-zero at) (sym en)

    pub sized_short : length bs - at < n → 0 ≡ length (next (drop at bs))
    unfolding next
    sized_short l = let h : length (drop at bs) < n = rw (length-drop at bs) l in rw (at_kind, lt-leb n (length (drop at bs)) h)

    pub sized_whole : n ≤ length bs - at → n ≡ length (next (drop at bs))
    unfolding next
    sized_whole l =
        let h : n ≤ length (drop at bs) = rw (length-drop at bs) l in
        rw (at_kind, le-leb n (length (drop at bs)) h) (sym (length-take-le n (drop at bs) h))

-- ---- those behind it
none_left : (k : ℕ) → first_records k [] ≡ []
unfolding first_records next kind size fields until_end
none_left zero = refl
none_left (suc k) = refl

until_same : (r : Record) (rs ss : List Record) → (0 < length r → rs ≡ ss) → until_end r rs ≡ until_end r ss
unfolding until_end
until_same [] rs ss h = refl
until_same (b ∷ r) rs ss h = ap (λ (l : List Record). (b ∷ r) ∷ cond (is_end (b ∷ r)) [] l) (h (omega arith))

steps_enough : (j k : ℕ) (bs : List ℕ) → length bs ≤ j → length bs ≤ k → first_records j bs ≡ first_records k bs
unfolding first_records
steps_enough zero k [] h l = sym (none_left k)
steps_enough (suc j) k [] h l = none_left (suc j) ∙ sym (none_left k)
steps_enough zero k (b ∷ bs) h l = absurd (not-suc-le-zero h)
steps_enough (suc j) zero (b ∷ bs) h l = absurd (not-suc-le-zero l)
steps_enough (suc j) (suc k) (b ∷ bs) h l =
    until_same (next (b ∷ bs)) _ _
    (λ p. let n : ℕ = length (next (b ∷ bs)) in
    let e : length (drop n (b ∷ bs)) ≤ j = omega (arith, length-drop n (b ∷ bs)) in
    let f : length (drop n (b ∷ bs)) ≤ k = omega (arith, length-drop n (b ∷ bs)) in
    steps_enough j k (drop n (b ∷ bs)) e f)

pub records-next : (bs : List ℕ) → records bs ≡ until_end (next bs) (records (drop (length (next bs)) bs))
unfolding records first_records
records-next bs =
    let n : ℕ = length (next bs) in
    steps_enough (length bs) (suc (length bs)) bs (omega arith) (omega arith)
    ∙ ap (until_end (next bs)) (steps_enough (length bs) (length (drop n bs)) (drop n bs) (omega (arith, length-drop n bs)) (omega arith))

-- ---- a loop over the records: one of n bytes stands at `at`, none if n is 0
pub records_none : (bs : List ℕ) (at : ℕ) → length bs ≤ at → records (drop at bs) ≡ []
unfolding records
records_none bs at h = rw (drop_of_length-le bs h) (none_left 0)

pub fits_at : (bs : List ℕ) (at : ℕ) {n : ℕ} → at ≤ length bs → n ≡ length (next (drop at bs)) → at + n ≤ length bs
fits_at bs at {n} h e = omega (arith, size_fits (drop at bs), length-drop at bs)

module _ (bs : List ℕ) (at : ℕ) {n : ℕ} (en : n ≡ length (next (drop at bs))) where
  -- the record
  pub there : next (drop at bs) ≡ take n (drop at bs)
  there = next_front (drop at bs) ∙ ap (λ (k : ℕ). take k (drop at bs)) (sym en)

  records_at : records (drop at bs) ≡ until_end (take n (drop at bs)) (records (drop (at + n) bs))
  records_at = records-next (drop at bs) ∙ rw (← en, there, drop-drop n at bs)

  pub some_there : length (take n (drop at bs)) ≡ n
  some_there = ap length (sym there) ∙ sym en

  pub there_whole : length (take n (drop at bs)) ≡ size (kind (take n (drop at bs)))
  there_whole = ap (λ (r : Record). length r) (sym there) ∙ next_whole (drop at bs) ∙ ap (λ (r : Record). size (kind r)) there

  -- none stands there
  pub here_none : n ≡ 0 → records (drop at bs) ≡ []
  unfolding until_end
  here_none e = records_at ∙ rw e

  -- one stands there, and the rest behind it unless it is the end
  pub here : (n ≡ 0 → ⊥) → records (drop at bs) ≡ take n (drop at bs) ∷ cond (is_end (take n (drop at bs))) [] (records (drop (at + n) bs))
  unfolding until_end
  here s = records_at ∙ cases (take n (drop at bs)) some_there (records (drop (at + n) bs))
    where
      cases : (r : Record) → length r ≡ n → (rs : List Record) → until_end r rs ≡ r ∷ cond (is_end r) [] rs
      cases [] e rs = absurd (s (sym e))
      cases (b ∷ r) e rs = refl

-- the first of the records is the first in the bytes
pub first_next : (bs : List ℕ) → first (records bs) ≡ next bs
unfolding until_end
first_next bs = ap first (records-next bs) ∙ cases (next bs) (records (drop (length (next bs)) bs))
  where
    cases : (r : Record) (rs : List Record) → first (until_end r rs) ≡ r
    cases [] rs = refl
    cases (b ∷ r) rs = refl

-- ---- the length used
until_length : (r : Record) (rs : List Record) → length (bytes (until_end r rs)) ≤ length r + length (bytes rs)
unfolding bytes until_end
until_length [] rs = omega arith
until_length (b ∷ r) rs = go (is_end (b ∷ r))
  where
    go : (e : Bool) → length ((b ∷ r) ++ bytes (cond e [] rs)) ≤ length (b ∷ r) + length (bytes rs)
    go true = omega (arith, length-append (b ∷ r) [])
    go false = omega (arith, length-append (b ∷ r) (bytes rs))

first_length : (k : ℕ) (bs : List ℕ) → length (bytes (first_records k bs)) ≤ length bs
unfolding first_records bytes
first_length zero bs = omega arith
first_length (suc k) bs =
    let n : ℕ = length (next bs) in
    let rs : List Record = first_records k (drop n bs) in
    let u : length (bytes (until_end (next bs) rs)) ≤ n + length (bytes rs) = until_length (next bs) rs in
    let l : length (bytes rs) ≤ length (drop n bs) = first_length k (drop n bs) in
    omega (arith, size_fits bs, length-drop n bs)

-- it is within the bytes
pub used_fits : (bs : List ℕ) → length (bytes (records bs)) ≤ length bs
unfolding records
used_fits bs = first_length (length bs) bs

-- an end has bytes
pub some_bytes : (rs : List Record) → has_end rs ≡ true → 0 < length (bytes rs)
unfolding has_end bytes kind
some_bytes [] h = never h refl
some_bytes ([] ∷ rs) h = some_bytes rs h
some_bytes ((b ∷ r) ∷ rs) h = omega arith

-- ---- all of them are made
until_made : (r : Record) (rs : List Record) → IsRecord r → AllMade rs → AllMade (until_end r rs)
unfolding until_end AllMade
until_made [] rs h hs = tt
until_made (b ∷ r) rs h hs = (whole_made b r h, go (is_end (b ∷ r)))
  where
    go : (e : Bool) → AllMade (cond e [] rs)
    go true = tt
    go false = hs

first_made : (k : ℕ) (bs : List ℕ) → AreBytes bs → AllMade (first_records k bs)
unfolding first_records AllMade
first_made zero bs w = tt
first_made (suc k) bs w =
    until_made (next bs) (first_records k (drop (length (next bs)) bs)) (next-is bs w)
    (first_made k (drop (length (next bs)) bs) (drop-bytes (length (next bs)) bs w))

pub records_made : (bs : List ℕ) → AreBytes bs → AllMade (records bs)
unfolding records
records_made bs w = first_made (length bs) bs w
