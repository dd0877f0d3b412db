-- The loops over the records of an entry. They keep what all the records give equal to what those that are left give with what has been
-- seen before them.
-- Assumes nothing.
use mathlib.Core.Path.{◌≡◌, refl, sym, ap, ◌∙◌}
use mathlib.Core.Bool.{true, false, cond, ◌||◌, and-true}
use mathlib.Core.List.{List, [], ◌∷◌, ◌++◌, append-nil}
use mathlib.Core.Logic.{◌⊎◌, inl, inr}
use Prim.Native.Nat.{ℕ, ◌+◌, ◌-◌, ◌≤◌, ◌<◌}
use native.Mathlib.Nat.{zero-add}
use native.Mathlib.Omega.{arith}
use lib.ListN.{length, take, drop, length-append}
use borrow.Author.Tests.{lt-ltb}
use Rattle.std.proofs.Common.{None, Some}
use Rattle.ring.specs.Lists.{has}
use Rattle.ring.proofs.Bool.{bool_cases, never}
use Rattle.entry.specs.Record.{Record, bytes, size, is_end, in_bounds}
use Rattle.entry.specs.Held.{next, records}
use Rattle.entry.specs.Questions.{has_end, may_follow}
use Rattle.entry.specs.Inner.Places.{place_of}
use Rattle.entry.proofs.Records.{here_none}
use Rattle.entry.proofs.Canonical.{ends_there, records_end, is_empty}
use Rattle.records.specs.declared.kinds.Kind.{Kind}
use Rattle.records.specs.declared.kinds.Kind.TheVariants as kinds
use Rattle.records.specs.declared.Seen.{Seen}
use Rattle.records.specs.Inner.Kinds.{byte_of, stands_in_row, Stands}
use Rattle.records.specs.Inner.Headings.{length_used}
use Rattle.records.specs.Inner.Gathering.{seen_record, seen_all, nothing_seen, gathered, end_from, gathered_from, Further, placed}
use Rattle.records.proofs.Standing.{stands_inside, sized, lent, lent_of, is_last, is_no_last, here_end, here_more}
use Rattle.records.proofs.OneRecord.{see_monomial}

-- ---- the length used
end_from_lem : (at : ℕ) (rs : List Record) → ends_there rs ≡ true
    → cond (has_end rs) (Some (at + length (bytes rs))) None ≡ end_from at rs
unfolding end_from has_end bytes ends_there
end_from_lem at [] e = refl
end_from_lem at (r ∷ rs) e = go (bool_cases (is_end r)) (end_from_lem (at + length r) rs)
  where
    alone : (ss : List Record) → is_empty ss ≡ true → length (r ++ bytes ss) ≡ length r
    alone [] f = ap length (append-nil r)
    alone (s ∷ ss) f = let z : ◌≡◌ {A = ℕ} 0 1 = (cc) in absurd (omega arith)

    further : at + length (r ++ bytes rs) ≡ at + length r + length (bytes rs)
    further = omega (arith, length-append r (bytes rs))

    go : (is_end r ≡ true) ⊎ (is_end r ≡ false)
        → (ends_there rs ≡ true → cond (has_end rs) (Some (at + length r + length (bytes rs))) None ≡ end_from (at + length r) rs)
        → cond (is_end r || has_end rs) (Some (at + length (r ++ bytes rs))) None
        ≡ cond (is_end r) (Some (at + length r)) (end_from (at + length r) rs)
    go (inl f) ih = rw f (ap (λ (i : ℕ). Some (at + i)) (alone rs (rw f at e)))
    go (inr f) ih = rw (f, further) (ih (rw f at e))

-- ---- one place further on, and what is gathered in the end
pub further_start : (bs : List ℕ) (route U G : ℕ) (x : Seen) (at : ℕ) → at ≤ length bs → Further bs route U G x at x at
further_start bs route U G x at h = record { onward = omega arith; inside = h; same = refl }

pub further_then : (bs : List ℕ) (route U G : ℕ) {x y z : Seen} {from mid at : ℕ} → Further bs route U G x from y mid
    → Further bs route U G y mid z at
    → Further bs route U G x from z at
further_then bs route U G v w = record { onward = omega (arith, v.onward, w.onward); inside = w.inside; same = v.same ∙ w.same }

-- from the first record on
all_from : (bs : List ℕ) (route U G : ℕ) → gathered route U G (records bs) ≡ gathered_from route U G nothing_seen 0 (records bs)
unfolding gathered gathered_from length_used
all_from bs route U G =
    let e : length_used (records bs) ≡ end_from 0 (records bs) =
    ap (λ (i : ℕ). cond (has_end (records bs)) (Some i) None) (sym (zero-add (length (bytes (records bs)))))
    ∙ end_from_lem 0 (records bs) (records_end bs) in
    rw e

module _ (bs : List ℕ) (route U G : ℕ) (x : Seen) (at : ℕ) (w : Further bs route U G nothing_seen 0 x at) where
  given : gathered route U G (records bs) ≡ gathered_from route U G x at (records (drop at bs))
  given = all_from bs route U G ∙ w.same

  pub gather_out : length (next (drop at bs)) ≡ 0 → record { used = None; seen = x } ≡ gathered route U G (records bs)
  unfolding gathered_from seen_all end_from
  gather_out z = sym (given ∙ rw (here_none bs at refl z))

-- one record
module _ (bs : List ℕ) (route U G : ℕ) {x₀ : Seen} {from : ℕ} (x : Seen) (at : ℕ) (w : Further bs route U G x₀ from x at) (k : Kind)
    (st : Stands bs at k) {behind : ℕ} (eb : behind ≡ at + size (byte_of k)) {x' : Seen}
    (ex : x' ≡ seen_record route U G x (take (behind - at) (drop at bs))) where
  seen_there : x' ≡ seen_record route U G x (next (drop at bs))
  seen_there = ex ∙ rw (lent bs at k st eb)

  behind_there : behind ≡ at + length (next (drop at bs))
  behind_there = eb ∙ ap (λ (i : ℕ). at + i) (sized bs at k st)

  -- it is the last
  ended : k ≡ kinds.End → gathered_from route U G x at (records (drop at bs)) ≡ record { used = Some behind; seen = x' }
  unfolding gathered_from seen_all end_from
  ended e = rw (here_end bs at k st e, is_last bs at k st e, ← behind_there, ← seen_there)

  pub gather_next : (k ≡ kinds.End → ⊥) → Further bs route U G x₀ from x' behind
  unfolding gathered_from seen_all end_from
  gather_next n =
      record {
        onward = omega (arith, w.onward);
        inside = rw eb (stands_inside bs at k st w.inside);
        same = w.same ∙ rw (here_more bs at k st n, is_no_last bs at k st n, ← behind_there, seen_there, eb);
      }

pub gather_end : (bs : List ℕ) (route U G : ℕ) (x : Seen) (at : ℕ) → Further bs route U G nothing_seen 0 x at → (k : Kind) → Stands bs at k
    → {behind : ℕ} → behind ≡ at + size (byte_of k) → {x' : Seen} → x' ≡ seen_record route U G x (take (behind - at) (drop at bs))
    → k ≡ kinds.End
    → record { used = Some behind; seen = x' } ≡ gathered route U G (records bs)
gather_end bs route U G x at w k st eb ex e = sym (given bs route U G x at w ∙ ended bs route U G x at w k st eb ex e)

-- ---- a row: behind a monomial of its kind one that passes question 12 changes nothing of what has been seen but the place
row_follows : (k : Kind) → stands_in_row k ≡ true → may_follow (byte_of k) (byte_of k) ≡ true
unfolding may_follow has
row_follows kinds.Start s = never s refl
row_follows kinds.Condition s = refl
row_follows kinds.Answer s = refl
row_follows kinds.End s = never s refl
row_follows kinds.None s = never s refl
row_follows kinds.Order s = never s refl
row_follows kinds.Fact s = refl

pub row_more : (k : Kind) → stands_in_row k ≡ true → k ≡ kinds.End → ⊥
row_more k s e = never s (ap stands_in_row e)

module _ (bs : List ℕ) (route U G : ℕ) {x₀ : Seen} {from : ℕ} (x : Seen) (q at : ℕ) (w : Further bs route U G x₀ from (placed x q) at)
    (k : Kind) (row : stands_in_row k ≡ true) (ek : x.kind ≡ Some k) (there : Stands bs at k) {behind : ℕ}
    (eb : behind ≡ at + size (byte_of k)) (b : in_bounds U G (take (behind - at) (drop at bs)) ≡ true) {p : ℕ}
    (ep : p ≡ place_of (take (behind - at) (drop at bs))) (h : q < p) where
  stays : placed x p ≡ seen_record route U G (placed x q) (take (behind - at) (drop at bs))
  stays =
      rw (← ek, and-true x.kinds, lt-ltb q p h, and-true x.numbers)
      at (see_monomial route U G (placed x q) (take (behind - at) (drop at bs)) (lent_of bs at k there eb) {follows = true} (rw ek (sym (row_follows k row))) row b ep)

  pub row_next : Further bs route U G x₀ from (placed x p) behind
  row_next = gather_next bs route U G (placed x q) at w k there eb stays (row_more k row)
