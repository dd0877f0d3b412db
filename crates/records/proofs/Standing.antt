-- The kinds of records, and the whole records of a kind that stand in bytes.
-- Assumes nothing.
use mathlib.Core.Path.{◌≡◌, refl, sym, ap, ◌∙◌}
use mathlib.Core.Bool.{Bool, true, false}
use mathlib.Core.List.{List, [], ◌∷◌}
use mathlib.Core.Logic.{◌⊎◌, inl, inr}
use Prim.Native.Nat.{ℕ, ◌+◌, ◌-◌, ◌≤◌, ◌<◌}
use native.Mathlib.Nat.{add-zero}
use Rattle.std.proofs.Math.Nat.{eq-or-lt_of_le}
use native.Mathlib.Omega.{arith}
use Rattle.std.proofs.Common.{Option, None, Some, Result, Ok, Err}
use Rattle.std.specs.Result.{result_ok}
use Rattle.std.specs.Bool.{MatchBool, ⊤}
use lib.Dec.{eqb}
use lib.ListN.{length, get_or, take, drop, length-drop}
use lib.Seq.{get_or-take, get_or-drop}
use borrow.Author.Tests.{eq-eqb, ne_eqb, eqb-true}
use Rattle.ring.specs.Polynomial.{every_below}
use denote.Enum.Bare.{sameb}
use Rattle.ring.proofs.Bool.{bool_iff, never}
use Rattle.ring.proofs.Every.{every_all}
use Rattle.entry.specs.Record.{Record, fields, widths, size, kind, is_end}
use Rattle.entry.specs.Held.{next, records}
use Rattle.entry.proofs.Records.{next_whole, size_fits, sized_whole, there, here, fits_at}
use Rattle.records.specs.contracts.kinds.Kind.{the_type}
use Rattle.records.specs.declared.kinds.Kind.{Kind}
use Rattle.records.specs.declared.kinds.NoKind.{NoKind}
use Rattle.records.specs.declared.kinds.Kind.TheVariants as kinds
use Rattle.records.specs.Inner.Kinds.{byte_of, kind_of, byte_before, Decodes, IsOf, Stands, IsThere, stands}

-- ---- kinds and their bytes
pub kind_known : (k : Kind) → kind_of (byte_of k) ≡ Some k
unfolding kind_of
kind_known kinds.Start = refl
kind_known kinds.Condition = refl
kind_known kinds.Answer = refl
kind_known kinds.End = refl
kind_known kinds.None = refl
kind_known kinds.Order = refl
kind_known kinds.Fact = refl

pub byte_known : (b : ℕ) → b < 8 → byte_before (kind_of b) ≡ b
unfolding every_below kind_of
byte_known b h = eqb-true _ _ (every_all 8 (λ b. eqb (byte_before (kind_of b)) b) refl b h)

pub one_kind : (k l : Kind) → byte_of k ≡ byte_of l → k ≡ l
one_kind k l e = let f : Some k ≡ Some l = sym (kind_known k) ∙ ap kind_of e ∙ kind_known l in (cc)

pub not_end : (k : Kind) → (k ≡ kinds.End → ⊥) → byte_of k ≡ 4 → ⊥
not_end k n e = n (one_kind k kinds.End e)

-- the code's question whether a kind ends the entry
pub ends : (k : Kind) → true ≡ sameb the_type k kinds.End → k ≡ kinds.End
ends kinds.Start e = never (sym e) refl
ends kinds.Condition e = never (sym e) refl
ends kinds.Answer e = never (sym e) refl
ends kinds.End e = refl
ends kinds.None e = never (sym e) refl
ends kinds.Order e = never (sym e) refl
ends kinds.Fact e = never (sym e) refl

pub goes_on : (k : Kind) → false ≡ sameb the_type k kinds.End → k ≡ kinds.End → ⊥
goes_on k e f = never (ap (λ (l : Kind). sameb the_type l kinds.End) f) (sym e)

-- a byte that has been decoded, or not
pub decoded : (byte : ℕ) (r : Result Kind NoKind) → Decodes byte r → {o : Option Kind} → o ≡ result_ok r → {k : Kind} → o ≡ Some k → byte ≡ byte_of k
decoded byte (Ok l) d e f = let g : l ≡ _ = (cc) in sym d ∙ ap byte_of g
decoded byte (Err other) d e f = let z : ◌≡◌ {A = ℕ} 0 1 = (cc) in absurd (omega arith)

pub not_decoded : (byte : ℕ) (r : Result Kind NoKind) → Decodes byte r → {o : Option Kind} → o ≡ result_ok r → o ≡ None → size byte ≡ 0
not_decoded byte (Ok l) d e f = let z : ◌≡◌ {A = ℕ} 0 1 = (cc) in absurd (omega arith)
not_decoded byte (Err other) d e f = d

-- ---- sizes
pub some_size : (k : Kind) → 0 < size (byte_of k)
unfolding size fields widths
some_size kinds.Start = omega arith
some_size kinds.Condition = omega arith
some_size kinds.Answer = omega arith
some_size kinds.End = omega arith
some_size kinds.None = omega arith
some_size kinds.Order = omega arith
some_size kinds.Fact = omega arith

-- the place behind a record, by its size
pub behind_it : (at : ℕ) {n m : ℕ} → n ≡ m → at + n ≡ at + m
behind_it at e = ap (λ (i : ℕ). at + i) e

-- ---- a whole record of a kind at a place
module _ (bs : List ℕ) (at : ℕ) (k : Kind) where
  pub stands_there : stands bs at k ≡ true → Stands bs at k
  stands_there s = let e : kind (next (drop at bs)) ≡ byte_of k = eqb-true _ _ s in record { is = e; long = next_whole (drop at bs) ∙ ap size e }

  pub is_whole : at ≤ length bs → Stands bs at k → IsThere bs at k
  is_whole h w = record { stands = w; inside = fits_at bs at h (sym w.long) }

  -- as the code asks it
  pub told : at ≤ length bs → (b : Bool) → b ≡ stands bs at k → MatchBool b (IsThere bs at k) ⊤
  told h true e = is_whole h (stands_there (sym e))
  told h false e = tt

  pub stands_true : Stands bs at k → stands bs at k ≡ true
  stands_true w = eq-eqb _ _ w.is

  module _ (w : Stands bs at k) where
    pub sized : size (byte_of k) ≡ length (next (drop at bs))
    sized = sym w.long

    pub stands_some : size (byte_of k) ≡ 0 → ⊥
    stands_some z = omega (arith, some_size k)

    pub stands_inside : at ≤ length bs → at + size (byte_of k) ≤ length bs
    stands_inside h = fits_at bs at h sized

    -- the part that the code lends
    module _ {behind : ℕ} (eb : behind ≡ at + size (byte_of k)) where
      pub lent : take (behind - at) (drop at bs) ≡ next (drop at bs)
      lent = let e : behind - at ≡ size (byte_of k) = omega arith in rw e (sym (there bs at sized))

      pub lent_of : IsOf k (take (behind - at) (drop at bs))
      lent_of = rw lent w

    -- the record, and those behind it
    pub is_last : k ≡ kinds.End → is_end (next (drop at bs)) ≡ true
    is_last e = eq-eqb _ 4 (w.is ∙ ap byte_of e)

    pub is_no_last : (k ≡ kinds.End → ⊥) → is_end (next (drop at bs)) ≡ false
    is_no_last n = ne_eqb _ 4 (λ e. not_end k n (sym w.is ∙ e))

    pub here_end : k ≡ kinds.End → records (drop at bs) ≡ next (drop at bs) ∷ []
    here_end e = here bs at sized stands_some ∙ rw (← there bs at sized, is_last e)

    pub here_more : (k ≡ kinds.End → ⊥) → records (drop at bs) ≡ next (drop at bs) ∷ records (drop (at + size (byte_of k)) bs)
    here_more n = here bs at sized stands_some ∙ rw (← there bs at sized, is_no_last n)

    first_byte : get_or bs at 0 ≡ byte_of k
    unfolding kind
    first_byte =
        sym (get_or-drop at bs 0 0 ∙ ap (λ (i : ℕ). get_or bs i 0) (add-zero at))
        ∙ sym (ap (λ (r : Record). get_or r 0 0) (there bs at sized) ∙ get_or-take _ (drop at bs) 0 0 (some_size k)) ∙ w.is

-- one place further on than where a record stands, if none of its kind stands there
pub moved : (bs : List ℕ) (from at : ℕ) (k : Kind) → from ≤ at → stands bs at k ≡ false → stands bs from k ≡ true → from < at
moved bs from at k h n s = go (eq-or-lt_of_le h)
  where
    go : (from ≡ at) ⊎ (from < at) → from < at
    go (inl e) = never s (ap (λ (i : ℕ). stands bs i k) e ∙ n)
    go (inr l) = l

-- ---- how the code finds it
module _ (bs : List ℕ) (at : ℕ) where
  module _ (k : Kind) where
    pub first_byte_tells : get_or bs at 0 ≡ byte_of k → size (byte_of k) ≤ length bs - at → Stands bs at k
    unfolding kind
    first_byte_tells e l =
        let w : size (byte_of k) ≡ length (next (drop at bs)) = sized_whole bs at (ap size (sym e)) l in
        record {
          is = ap (λ (r : Record). get_or r 0 0) (there bs at w) ∙ get_or-take _ (drop at bs) 0 0 (some_size k) ∙ get_or-drop at bs 0 0
              ∙ ap (λ (i : ℕ). get_or bs i 0) (add-zero at)
              ∙ e;
          long = sym w;
        }

    pub too_short : length bs - at < size (byte_of k) → stands bs at k ≡ false
    too_short l =
        ne_eqb _ _ (λ e.
        let w : Stands bs at k = stands_there bs at k (eq-eqb _ _ e) in
        omega (arith, w.long, size_fits (drop at bs), length-drop at bs))

    pub by_first_byte : size (byte_of k) ≤ length bs - at → eqb (get_or bs at 0) (byte_of k) ≡ stands bs at k
    by_first_byte l =
        bool_iff (eqb (get_or bs at 0) (byte_of k)) (stands bs at k) (λ e. stands_true bs at k (first_byte_tells (eqb-true _ _ e) l))
        (λ e. eq-eqb _ _ (first_byte bs at k (stands_there bs at k e)))
