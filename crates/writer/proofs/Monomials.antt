-- Monomials as numbers, listed one behind another: those of one polynomial from the words of its values, and those of the answers, unknown
-- by unknown.
-- Assumes nothing.
use mathlib.Core.Path.{◌≡◌, refl, sym, ap, ◌∙◌}
use mathlib.Core.List.{List, [], ◌++◌, append_assoc, append-nil}
use Prim.Native.Nat.{ℕ, zero, suc, ◌+◌, ◌-◌, ◌*◌, ◌^◌, ◌≤◌, ◌<◌}
use native.Mathlib.Nat.{add-zero, suc-mul, add-mul, one-mul, mul-le-mul_right}
use native.Mathlib.Numerals.{add-one}
use native.Mathlib.Omega.{arith}
use lib.ListN.{length, take, drop, length-append}
use Rattle.ring.specs.Polynomial.{Polynomial, value}
use Rattle.ring.specs.Table.{IsTable, present, table, tabulate}
use Rattle.ring.proofs.Table.{same_table, is-table, present-tabulate}
use Rattle.ring.proofs.Value.{value_cong}
use Rattle.words.specs.Inner.Words.{words_of, bit_at}
use Rattle.words.proofs.Words.{at_known, words_cong}
use Rattle.words.proofs.Letters.{room, value_low, values_taken}
use Rattle.order.specs.Order.{monomials}
use Rattle.order.specs.Inner.Listing.{tagged, Listed}
use Rattle.order.proofs.Order.{monomials_same}
use Rattle.order.proofs.Listing.{length-tagged}
use Rattle.entry.proofs.Bound.{monomials_most}
use Rattle.writer.specs.Inner.Steps.{answer_part, answer_codes}

-- ---- words that are turned over
-- the coefficients of values, or the values of coefficients, at the points of n letters
pub transformed : (n : ℕ) (words own : List ℕ) → own ≡ words_of (2 ^ (n - 6)) (value (6 + (n - 6)) (bit_at words)) → (p : ℕ) → p < 2 ^ n
    → bit_at own p ≡ value n (bit_at words) p
transformed n words own e p l =
    at_known (2 ^ (n - 6)) _ own e p (omega (arith, room n)) ∙ value_low n (bit_at words) p l

pub listed-values : (n tag : ℕ) (words own : List ℕ) → own ≡ words_of (2 ^ (n - 6)) (value (6 + (n - 6)) (bit_at words))
    → {old new : List ℕ} {from r : ℕ}
    → Listed old from (tagged tag (monomials n (bit_at own))) r new
    → Listed old from (tagged tag (monomials n (value n (bit_at words)))) r new
listed-values n tag words own e w = rw (monomials_same n (bit_at own) (value n (bit_at words)) (transformed n words own e)) at w

-- ---- one list behind another
pub listed_none : (old : List ℕ) (from : ℕ) → from ≤ length old → Listed old from [] from old
listed_none old from h = record { place = sym (add-zero from); inside = h; front = sym (append-nil (take from old)); long = refl }

pub listed_both : {old mid new vs ws : List ℕ} {from at r : ℕ} → Listed old from vs at mid → Listed mid at ws r new
    → Listed old from (vs ++ ws) r new
listed_both {old} {mid} {new} {vs} {ws} {from} {at} {r} v w =
    record {
      place = omega (arith, v.place, w.place, length-append vs ws);
      inside = omega (arith, w.inside, v.long);
      front = w.front ∙ ap (λ (l : List ℕ). l ++ ws) v.front ∙ append_assoc (take from old) vs ws;
      long = w.long ∙ v.long;
    }

-- ---- the answers
codes_most : (j n : ℕ) (a : List ℕ) → length (answer_codes j n a) ≤ j * 2 ^ n
unfolding answer_codes
codes_most zero n a = omega arith
codes_most (suc j) n a =
    let f : Polynomial = value n (bit_at (answer_part (2 ^ (n - 6)) j a)) in
    omega (
      arith,
      codes_most j n a,
      length-append (answer_codes j n a) (tagged (1024 * (j + 1)) (monomials n f)),
      length-tagged (1024 * (j + 1)) (monomials n f),
      monomials_most n f,
      suc-mul j (2 ^ n),
    )

-- what the loop of `list_answers` keeps: the first j answers are listed
pub record Answering (u n : ℕ) (a old : List ℕ) (from j at : ℕ) (new : List ℕ) : Type 0 where
  pub turn : j ≤ u
  pub room : from + u * 2 ^ n ≤ length old
  pub list : Listed old from (answer_codes j n a) at new

pub answering_start : (u n : ℕ) (a old : List ℕ) (from : ℕ) → from + u * 2 ^ n ≤ length old → Answering u n a old from 0 from old
unfolding answer_codes
answering_start u n a old from r = record { turn = omega arith; room = r; list = listed_none old from (omega arith) }

module _ {u n : ℕ} {a old : List ℕ} {from j at : ℕ} {new : List ℕ} (w : Answering u n a old from j at new) (l : j < u) where
  pub answer_room_lem : at + 2 ^ n ≤ length new
  answer_room_lem =
      let m : (j + 1) * 2 ^ n ≤ u * 2 ^ n = mul-le-mul_right (2 ^ n) (omega arith) in
      omega (arith, w.list.place, w.list.long, w.room, codes_most j n a, add-mul j 1 (2 ^ n), one-mul (2 ^ n))

  pub answering_more : {k : ℕ} → k ≡ 2 ^ (n - 6) → {r : ℕ} {new' : List ℕ}
      → Listed new at (tagged (1024 * (j + 1)) (monomials n (value n (bit_at (take (j * k + k - j * k) (drop (j * k) a)))))) r new'
      → Answering u n a old from (j + 1) r new'
  unfolding answer_codes answer_part
  answering_more {k} ek {r} {new'} q =
      let d : j * k + k - j * k ≡ k = omega arith in
      let q' : Listed new at
      (tagged (1024 * (j + 1)) (monomials n (value n (bit_at (take (2 ^ (n - 6)) (drop (j * 2 ^ (n - 6)) a)))))) r new' = rw (d, ek) at q in
      record { turn = omega arith; room = w.room; list = rw add-one (listed_both w.list q') }

pub answering_end : {u n : ℕ} {a old : List ℕ} {from j at : ℕ} {new : List ℕ} → Answering u n a old from j at new → u ≤ j
    → Listed old from (answer_codes u n a) at new
answering_end {u} {n} {a} {old} {from} {j} w l = let e : j ≡ u = omega (arith, w.turn) in rw (← e) w.list

-- ---- rooms
module _ (U n size : ℕ) (r : (U + 1) * 2 ^ n ≤ size) where
  both : 2 ^ n + U * 2 ^ n ≤ size
  both = let e : (U + 1) * 2 ^ n ≡ U * 2 ^ n + 1 * 2 ^ n = add-mul U 1 (2 ^ n) in omega arith

  pub first_room : 0 + 2 ^ n ≤ size
  first_room = omega (arith, both)

pub answers_room : (U n : ℕ) (f : Polynomial) (tag : ℕ) {told : ℕ} {old codes : List ℕ} → (U + 1) * 2 ^ n ≤ length old
    → Listed old 0 (tagged tag (monomials n f)) told codes → told + U * 2 ^ n ≤ length codes
answers_room U n f tag {old = old} r w =
    omega (arith, both U n (length old) r, w.place, w.long, length-tagged tag (monomials n f), monomials_most n f)

-- ---- a table, packed
module _ (n : ℕ) (t ws : List ℕ) (is : IsTable n t) (e : ws ≡ words_of (2 ^ (n - 6)) (present t)) where
  pub packed : (m : ℕ) → m < 2 ^ n → bit_at ws m ≡ present t m
  packed m l = at_known (2 ^ (n - 6)) (present t) ws e m (omega (arith, room n))

  pub packed_values : (vs : List ℕ) → vs ≡ words_of (2 ^ (n - 6)) (value (6 + (n - 6)) (bit_at ws))
      → vs ≡ words_of (2 ^ (n - 6)) (value n (bit_at ws))
  packed_values vs ev =
      values_taken n (n - 6) t ws vs refl is e ev ∙ words_cong (2 ^ (n - 6)) _ _ (λ p l. value_cong n _ _ p (λ m k. sym (packed m k)))

  pub packed_table : table n (bit_at ws) ≡ t
  unfolding table
  packed_table =
      same_table n (tabulate (2 ^ n) (bit_at ws)) t (is-table n (bit_at ws)) is
      (λ p l. value_cong n _ _ p (λ m k. present-tabulate (2 ^ n) (bit_at ws) m k ∙ packed m k))
