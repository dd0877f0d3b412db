-- Tables filled from records: what one record puts in, what filling keeps, and what is filled in the end.
-- Assumes nothing.
use mathlib.Core.Path.{◌≡◌, refl, sym, ap, ◌∙◌, ap₂}
use mathlib.Core.Bool.{Bool, true, false, ◌&&◌, ◌||◌, cond, and-false}
use mathlib.Core.List.{List, [], ◌∷◌}
use mathlib.Core.Logic.{◌⊎◌, inl, inr}
use Prim.Native.Nat.{ℕ, ◌+◌, ◌-◌, ◌*◌, ◌^◌, ◌≤◌, ◌<◌, ◌/◌, ◌%◌}
use native.Mathlib.Nat.{le_refl, add-zero, mul-le-mul, div-add-mod', div-eq_of_lt, mod-eq_of_lt}
use native.Mathlib.Omega.{arith}
use lib.Dec.{leb, eqb}
use lib.Arith.{digits_div, digits_mod}
use lib.ListN.{length, get_or, take, drop, set, length-set}
use lib.Seq.{ext_get_or, get_or-set_same, get_or-set_other, set_out}
use borrow.Author.Tests.{le-leb, lt-leb, leb-true, leb-false, eq-eqb, ne_eqb, eqb-true, eqb-false}
use Rattle.ring.specs.Letters.{digit}
use Rattle.ring.specs.Table.{tabulate, table}
use Rattle.ring.proofs.Bool.{bool_iff, and_left, and_right, both, bool_cases}
use Rattle.ring.proofs.Table.{length-tabulate, get_d_tabulate, tabulate_cong}
use Rattle.entry.specs.Record.{Record, mask_field, value_of, is_monomial, table_in}
use Rattle.entry.specs.Held.{next, records, has_monomial}
use Rattle.entry.specs.Inner.Places.{place_of, fits_behind}
use Rattle.entry.proofs.Monomials.{mask_in_bounds}
use Rattle.entry.proofs.Records.{here_none, fits_at}
use Rattle.entry.proofs.Unique.{fits_bounds, fits_rest}
use Rattle.tables.specs.declared.Letters.{Letters}
use Rattle.entry.specs.Record.{size}
use Rattle.entry.specs.Questions.{kinds_follow}
use Rattle.entry.proofs.Canonical.{kinds_on}
use Rattle.records.specs.declared.kinds.Kind.{Kind}
use Rattle.records.specs.declared.kinds.Kind.TheVariants as kinds
use Rattle.records.specs.Inner.Kinds.{byte_of, base_of, stands_in_row, IsOf, Stands}
use Rattle.records.specs.Inner.Filling.{zeros, put_monomial, filled, Fitting, Filling, RowFilling}
use Rattle.records.proofs.Standing.{lent, lent_of, is_no_last, here_end, here_more}
use Rattle.records.proofs.OneRecord.{table_least, holds_monomial, whole_length}
use Rattle.records.proofs.Loops.{row_more}

-- ---- cleared bytes
pub all_zero : (t : List ℕ) (k : ℕ) → length t ≡ k → ((i : ℕ) → i < k → get_or t i 0 ≡ 0) → t ≡ zeros k
all_zero t k l z =
    ext_get_or 0 t (zeros k) (l ∙ sym (length-tabulate k (λ i. false))) (λ i h. let b : i < k = omega arith in z i b ∙ sym (get_d_tabulate k (λ i. false) i b))

pub cleared_length : (k : ℕ) {t : List ℕ} → t ≡ zeros k → length t ≡ k
cleared_length k e = ap length e ∙ length-tabulate k (λ i. false)

-- ---- one record
module _ (k : ℕ) (r : Record) (t : List ℕ) where
  -- one with a monomial
  pub put_is : (base i m : ℕ) → is_monomial r ≡ true → table_in r ≡ i → value_of mask_field r ≡ m
      → put_monomial base k r t ≡ cond (leb base i) (set t ((i - base) * k + m) 1) t
  unfolding put_monomial
  put_is base i m h ei em = rw (h, ei, em)

  -- one without a monomial
  pub put_none : (base : ℕ) → is_monomial r ≡ false → t ≡ put_monomial base k r t
  unfolding put_monomial
  put_none base h = rw h

  -- one of a table before the first
  pub put_before : (base : ℕ) → table_in r < base → t ≡ put_monomial base k r t
  unfolding put_monomial
  put_before base h = rw (lt-leb base (table_in r) h, and-false (is_monomial r))

  -- one of a table behind the first, where there is no other
  pub put_past : (base : ℕ) → base < table_in r → length t ≤ k → t ≡ put_monomial base k r t
  unfolding put_monomial
  put_past base h l = go (is_monomial r && leb base (table_in r))
    where
      past : length t ≤ (table_in r - base) * k + value_of mask_field r
      past =
          let one : 1 ≤ table_in r - base = omega arith in
          let most : 1 * k ≤ (table_in r - base) * k = mul-le-mul one (le_refl k) in
          omega arith

      go : (b : Bool) → t ≡ cond b (set t ((table_in r - base) * k + value_of mask_field r) 1) t
      go true = sym (set_out t ((table_in r - base) * k + value_of mask_field r) 1 past)
      go false = refl

pub length_put : (base k : ℕ) (r : Record) (t : List ℕ) → length (put_monomial base k r t) ≡ length t
unfolding put_monomial
length_put base k r t = go (is_monomial r && leb base (table_in r))
  where
    go : (b : Bool) → length (cond b (set t ((table_in r - base) * k + value_of mask_field r) 1) t) ≡ length t
    go true = length-set t ((table_in r - base) * k + value_of mask_field r) 1
    go false = refl

pub put_long : (base k : ℕ) (r : Record) (t : List ℕ) {t' : List ℕ} → t' ≡ put_monomial base k r t → length t' ≡ length t
put_long base k r t e = ap length e ∙ length_put base k r t

-- ---- what a loop that puts the records in keeps, for one of its tables
pub fill_start : (put : Record → List ℕ → List ℕ) (bs : List ℕ) (u g : ℕ) (t : List ℕ) (from : ℕ) → from ≤ length bs
    → Fitting u g (records (drop from bs))
    → Filling put bs u g t from t from
fill_start put bs u g t from h f = record { onward = omega arith; inside = h; long = refl; same = refl; fitting = f }

pub fill_then : (put : Record → List ℕ → List ℕ) (bs : List ℕ) (u g : ℕ) {t₀ t₁ t₂ : List ℕ} {from mid at : ℕ}
    → Filling put bs u g t₀ from t₁ mid
    → Filling put bs u g t₁ mid t₂ at
    → Filling put bs u g t₀ from t₂ at
fill_then put bs u g v w =
    record {
      onward = omega (arith, v.onward, w.onward);
      inside = w.inside;
      long = w.long ∙ v.long;
      same = v.same ∙ w.same;
      fitting = w.fitting;
    }

-- one record that is not the last
pub kinds_behind : (bs : List ℕ) (at : ℕ) (k : Kind) → Stands bs at k → (k ≡ kinds.End → ⊥) → (p route : ℕ)
    → kinds_follow p route (records (drop at bs)) ≡ true
    → kinds_follow (byte_of k) route (records (drop (at + size (byte_of k)) bs)) ≡ true
kinds_behind bs at k st n p route o =
    let rs : List Record = records (drop (at + size (byte_of k)) bs) in
    ap (λ (x : ℕ). kinds_follow x route rs) (sym st.is)
    ∙ kinds_on p route (next (drop at bs)) rs (rw (here_more bs at k st n) at o) (is_no_last bs at k st n)

module _ (put : Record → List ℕ → List ℕ) (bs : List ℕ) (u g : ℕ) (t₀ t : List ℕ) (from at : ℕ) (w : Filling put bs u g t₀ from t at)
    (k : Kind) (st : Stands bs at k) where
  module _ (n : k ≡ kinds.End → ⊥) {behind : ℕ} (eb : behind ≡ at + size (byte_of k)) where
    fits_here : fits_behind u g w.fitting.from (next (drop at bs) ∷ records (drop (at + size (byte_of k)) bs)) ≡ true
    fits_here = rw (here_more bs at k st n) at w.fitting.fits

    pub fill_next : {t' : List ℕ} → t' ≡ put (take (behind - at) (drop at bs)) t → length t' ≡ length t → Filling put bs u g t₀ from t' behind
    unfolding filled
    fill_next et l =
        record {
          onward = omega (arith, w.onward);
          inside = rw eb (fits_at bs at w.inside (sym st.long));
          long = l ∙ w.long;
          same = w.same ∙ rw (here_more bs at k st n, eb) (ap (filled put (records (drop (at + size (byte_of k)) bs))) (sym (et ∙ rw (lent bs at k st eb))));
          fitting = record {
            unknowns = w.fitting.unknowns;
            letters = w.fitting.letters;
            from = place_of (next (drop at bs));
            fits = rw eb (fits_rest u g w.fitting.from (next (drop at bs)) _ fits_here);
          };
        }

    -- the table has no place for it
    pub fill_over : ((r : Record) → IsOf k r → t ≡ put r t) → Filling put bs u g t₀ from t behind
    fill_over h = fill_next (h (take (behind - at) (drop at bs)) (lent_of bs at k st eb)) refl

  -- the last record
  pub fill_end : k ≡ kinds.End → ((r : Record) → IsOf k r → t ≡ put r t) → t ≡ filled put (records (drop from bs)) t₀
  unfolding filled
  fill_end e h = sym (w.same ∙ rw (here_end bs at k st e) (sym (h (next (drop at bs)) st)))

-- no record
pub fill_out : (put : Record → List ℕ → List ℕ) (bs : List ℕ) (u g : ℕ) (t₀ t : List ℕ) (from at : ℕ) → Filling put bs u g t₀ from t at
    → length (next (drop at bs)) ≡ 0
    → t ≡ filled put (records (drop from bs)) t₀
unfolding filled
fill_out put bs u g t₀ t from at w z = sym (w.same ∙ rw (here_none bs at refl z))

-- a row
pub row_start : (k : Kind) (bs : List ℕ) (u g : ℕ) (t : List ℕ) (from : ℕ) → from ≤ length bs → Fitting u g (records (drop from bs))
    → RowFilling k bs u g t from t from
row_start k bs u g t from h f =
    record { own = fill_start _ bs u g t from h f; others = λ base s e. fill_start _ bs u g s from h f; kinds = λ route o. o }

module _ (k : Kind) (row : stands_in_row k ≡ true) (bs : List ℕ) (l : Letters) (t₀ t : List ℕ) (from at : ℕ)
    (w : RowFilling k bs l.unknowns l.givens t₀ from t at) (st : Stands bs at k) {behind : ℕ} (eb : behind ≡ at + size (byte_of k)) where
  r : Record
  r = take (behind - at) (drop at bs)

  is : IsOf k r
  unfolding r
  is = lent_of bs at k st eb

  pub row_put : {p : ℕ} → p ≡ (table_in (take (behind - at) (drop at bs)) - base_of k) * l.table_len + value_of mask_field (take (behind - at) (drop at bs))
      → {t' : List ℕ} → t' ≡ set t p 1
      → RowFilling k bs l.unknowns l.givens t₀ from t' behind
  unfolding r
  row_put {p} ep {t'} et =
      let here : leb (base_of k) (table_in r) ≡ true = le-leb _ _ (table_least r is) in
      let put : t' ≡ put_monomial (base_of k) (2 ^ (l.unknowns + l.givens)) r t =
      et ∙ sym (put_is (2 ^ (l.unknowns + l.givens)) r t (base_of k) (table_in r) (value_of mask_field r) (holds_monomial r is row) refl refl
      ∙ rw (here, ep, whole_length l)) in
      record {
        own = fill_next _ bs l.unknowns l.givens t₀ t from at w.own k st (row_more k row) eb put (put_long _ _ r t put);
        others = λ base s h. fill_over _ bs l.unknowns l.givens s s from at (w.others base s h) k st (row_more k row) eb h;
        kinds = λ route o. rw eb (kinds_behind bs at k st (row_more k row) (byte_of k) route (w.kinds route o));
      }

-- ---- what stands at x when all is filled
hits : ℕ → ℕ → ℕ → List Record → Bool
hits base k x [] = false
hits base k x (r ∷ rs) =
    (is_monomial r && (leb base (table_in r) && eqb x ((table_in r - base) * k + value_of mask_field r))) || hits base k x rs

pub length-filled : (base k : ℕ) (rs : List Record) (t : List ℕ) → length (filled (put_monomial base k) rs t) ≡ length t
unfolding filled
length-filled base k [] t = refl
length-filled base k (r ∷ rs) t = length-filled base k rs (put_monomial base k r t) ∙ length_put base k r t

put_at : (base k x : ℕ) (r : Record) (t : List ℕ) → x < length t
    → get_or (put_monomial base k r t) x 0
    ≡ cond (is_monomial r && (leb base (table_in r) && eqb x ((table_in r - base) * k + value_of mask_field r))) 1 (get_or t x 0)
unfolding put_monomial
put_at base k x r t h = go (is_monomial r) (leb base (table_in r)) (bool_cases (eqb x ((table_in r - base) * k + value_of mask_field r)))
  where
    go : (a b : Bool) → (eqb x ((table_in r - base) * k + value_of mask_field r) ≡ true) ⊎
        (eqb x ((table_in r - base) * k + value_of mask_field r) ≡ false)
        → get_or (cond (a && b) (set t ((table_in r - base) * k + value_of mask_field r) 1) t) x 0
        ≡ cond (a && (b && eqb x ((table_in r - base) * k + value_of mask_field r))) 1 (get_or t x 0)
    go false b q = refl
    go true false q = refl
    go true true (inl e) =
        let p : x ≡ (table_in r - base) * k + value_of mask_field r = eqb-true _ _ e in rw (e, ← p) (get_or-set_same t x 1 0 h)
    go true true (inr e) = rw e (get_or-set_other t ((table_in r - base) * k + value_of mask_field r) x 1 0 (eqb-false _ _ e))

filled_at : (base k x : ℕ) (rs : List Record) (t : List ℕ) → x < length t
    → get_or (filled (put_monomial base k) rs t) x 0 ≡ cond (hits base k x rs) 1 (get_or t x 0)
unfolding filled hits
filled_at base k x [] t h = refl
filled_at base k x (r ∷ rs) t h =
    filled_at base k x rs (put_monomial base k r t) (rw (length_put base k r t) h)
    ∙ ap (cond (hits base k x rs) 1) (put_at base k x r t h)
    ∙ either (is_monomial r && (leb base (table_in r) && eqb x ((table_in r - base) * k + value_of mask_field r))) (hits base k x rs)
  where
    either : (a b : Bool) → cond b 1 (cond a 1 (get_or t x 0)) ≡ cond (a || b) 1 (get_or t x 0)
    either true true = refl
    either true false = refl
    either false b = refl

-- the byte x is that of the monomial x % k of the table base + x / k
split_eq : (x j m k : ℕ) → m < k → eqb x (j * k + m) ≡ (eqb (x / k) j && eqb (x % k) m)
split_eq x j m k h =
    bool_iff (eqb x (j * k + m)) (eqb (x / k) j && eqb (x % k) m)
    (λ e. let p : x ≡ j * k + m = eqb-true _ _ e in rw p (both (eq-eqb _ _ (digits_div j h)) (eq-eqb _ _ (digits_mod j h))))
    (λ e.
    let a : x / k ≡ j = eqb-true _ _ (and_left (eqb (x / k) j) _ e) in
    let b : x % k ≡ m = eqb-true _ _ (and_right (eqb (x / k) j) (eqb (x % k) m) e) in
    eq-eqb x (j * k + m) (sym (div-add-mod' x k) ∙ rw (a, b)))

one_hit : (base k x i m : ℕ) → m < k → (leb base i && eqb x ((i - base) * k + m)) ≡ (eqb (base + x / k) i && eqb (x % k) m)
one_hit base k x i m h =
    rw (split_eq x (i - base) m k h) (go (bool_cases (leb base i)))
  where
    up : base ≤ i → x / k ≡ i - base → base + x / k ≡ i
    up l e = omega arith

    down : base + x / k ≡ i → x / k ≡ i - base
    down e = omega arith

    low : i < base → base + x / k ≡ i → ⊥
    low l e = omega arith

    go : (leb base i ≡ true) ⊎ (leb base i ≡ false)
        → (leb base i && (eqb (x / k) (i - base) && eqb (x % k) m)) ≡ (eqb (base + x / k) i && eqb (x % k) m)
    go (inl e) =
        rw e (ap (λ (b : Bool). b && eqb (x % k) m)
        (bool_iff (eqb (x / k) (i - base)) (eqb (base + x / k) i) (λ s. eq-eqb _ _ (up (leb-true _ _ e) (eqb-true _ _ s)))
        (λ s. eq-eqb _ _ (down (eqb-true _ _ s)))))
    go (inr e) = rw (e, ne_eqb (base + x / k) i (low (leb-false _ _ e)))

hits_has : (base U G q x : ℕ) (rs : List Record) → fits_behind U G q rs ≡ true
    → hits base (2 ^ (U + G)) x rs ≡ has_monomial (base + x / 2 ^ (U + G)) (x % 2 ^ (U + G)) rs
unfolding hits has_monomial
hits_has base U G q x [] f = refl
hits_has base U G q x (r ∷ rs) f = rw (hits_has base U G (place_of r) x rs (fits_rest U G q r rs f)) (go (bool_cases (is_monomial r)))
  where
    rest : Bool
    rest = has_monomial (base + x / 2 ^ (U + G)) (x % 2 ^ (U + G)) rs

    go : (is_monomial r ≡ true) ⊎ (is_monomial r ≡ false)
        → ((is_monomial r && (leb base (table_in r) && eqb x ((table_in r - base) * 2 ^ (U + G) + value_of mask_field r))) || rest)
        ≡ ((is_monomial r && (eqb (base + x / 2 ^ (U + G)) (table_in r) && eqb (x % 2 ^ (U + G)) (value_of mask_field r))) || rest)
    go (inl e) = rw (e, one_hit base (2 ^ (U + G)) x (table_in r) (value_of mask_field r) (mask_in_bounds U G r (fits_bounds U G q r rs f) e))
    go (inr e) = rw e

digit-cond : (b : Bool) → cond b 1 0 ≡ digit b
digit-cond true = refl
digit-cond false = refl

pub filled-table : (base U G q l : ℕ) (rs : List Record) → fits_behind U G q rs ≡ true
    → filled (put_monomial base (2 ^ (U + G))) rs (zeros l) ≡ tabulate l (λ x. has_monomial (base + x / 2 ^ (U + G)) (x % 2 ^ (U + G)) rs)
filled-table base U G q l rs f =
    ext_get_or 0 (filled (put_monomial base (2 ^ (U + G))) rs (zeros l)) _ (long ∙ sym (length-tabulate l _))
    (λ x h. at x (rw long at h))
  where
    long : length (filled (put_monomial base (2 ^ (U + G))) rs (zeros l)) ≡ l
    long = length-filled base (2 ^ (U + G)) rs (zeros l) ∙ length-tabulate l (λ i. false)

    at : (x : ℕ) → x < l → get_or (filled (put_monomial base (2 ^ (U + G))) rs (zeros l)) x 0
        ≡ get_or (tabulate l (λ x. has_monomial (base + x / 2 ^ (U + G)) (x % 2 ^ (U + G)) rs)) x 0
    at x h =
        filled_at base (2 ^ (U + G)) x rs (zeros l) (rw (length-tabulate l (λ i. false)) h)
        ∙ rw (get_d_tabulate l (λ i. false) x h, hits_has base U G q x rs f)
        (digit-cond (has_monomial (base + x / 2 ^ (U + G)) (x % 2 ^ (U + G)) rs))
        ∙ sym (get_d_tabulate l (λ x. has_monomial (base + x / 2 ^ (U + G)) (x % 2 ^ (U + G)) rs) x h)

-- the first table, filled from cleared bytes
pub filled_first : (base U G : ℕ) (rs : List Record) → Fitting U G rs → (k : ℕ) {t₁ t₂ : List ℕ} → t₁ ≡ zeros k
    → t₂ ≡ filled (put_monomial base (2 ^ (U + G))) rs t₁ → k ≡ 2 ^ (U + G) → t₂ ≡ table (U + G) (λ m. has_monomial base m rs)
unfolding table
filled_first base U G rs f k e₁ e₂ l =
    e₂ ∙ rw (e₁, l) (filled-table base U G f.from (2 ^ (U + G)) rs f.fits)
    ∙ tabulate_cong (2 ^ (U + G)) _ _
    (λ x h. ap₂ (λ (i m : ℕ). has_monomial i m rs) (ap (λ (i : ℕ). base + i) (div-eq_of_lt h) ∙ add-zero base) (mod-eq_of_lt h))
