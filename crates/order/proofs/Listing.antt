-- Masks listed one behind another, each that passes a test: every mask is stored, and the place moves on behind those that pass.
-- `Listing` is the invariant of the loop that lists a table's monomials.
-- Assumes nothing.
use mathlib.Core.Path.{◌≡◌, refl, sym, ap, ◌∙◌}
use mathlib.Core.Bool.{Bool, true, false, cond}
use mathlib.Core.List.{List, [], ◌∷◌, ◌++◌, append_assoc, append-nil}
use Prim.Native.Nat.{ℕ, ◌+◌, ◌-◌, ◌*◌, ◌/◌, ◌%◌, ◌^◌, ◌≤◌, ◌<◌}
use native.Mathlib.Nat.{add-zero}
use native.Mathlib.Numerals.{add-one}
use native.Mathlib.Omega.{arith}
use lib.ListN.{length, get_or, set, take, length-append, length-set, length-map}
use lib.Pow.{pow_mono}
use lib.Seq.{take-suc, take_all, take-suc-set, take-set-le}
use Rattle.std.specs.Int.{from_bool}
use Rattle.ring.specs.Letters.{digit, bit}
use Rattle.ring.specs.Polynomial.{Polynomial}
use Rattle.words.specs.Inner.Words.{bit_at}
use Rattle.words.proofs.Letters.{room}
use Rattle.order.specs.Order.{keep, order, monomials}
use Rattle.order.specs.Inner.Listing.{tagged, Listed}
use Rattle.order.proofs.Lists.{keep_append}
use Rattle.order.proofs.Order.{length-order, order_below, monomials_same}

tagged-append : (tag : ℕ) (ms ks : List ℕ) → tagged tag (ms ++ ks) ≡ tagged tag ms ++ tagged tag ks
unfolding tagged
tagged-append tag [] ks = refl
tagged-append tag (m ∷ ms) ks = ap (λ (l : List ℕ). (tag + m) ∷ l) (tagged-append tag ms ks)

pub length-tagged : (tag : ℕ) (ms : List ℕ) → length (tagged tag ms) ≡ length ms
unfolding tagged
length-tagged tag ms = length-map ms (λ m. tag + m)

-- what the first p masks of the list leave: those that pass, tagged
unfoldable pub kept : (ℕ → Bool) → ℕ → List ℕ → ℕ → List ℕ
kept f tag masks p = tagged tag (keep f (take p masks))

-- the mask v passes or not: the store, and the place behind it
stored : (b : Bool) (new : List ℕ) (at v : ℕ) → at < length new → take (at + digit b) (set new at v) ≡ take at new ++ cond b (v ∷ []) []
stored true new at v h = rw add-one (take-suc-set new at v h)
stored false new at v h = rw (add-zero, append-nil) (take-set-le at new at v (omega arith))

one_kept : (f : ℕ → Bool) (tag m : ℕ) → tagged tag (keep f (m ∷ [])) ≡ cond (f m) ((tag + m) ∷ []) []
unfolding keep tagged
one_kept f tag m = go (f m)
  where
    go : (b : Bool) → tagged tag (cond b (m ∷ []) []) ≡ cond b ((tag + m) ∷ []) []
    go true = refl
    go false = refl

length_one : (b : Bool) (v : ℕ) → length (cond b (v ∷ []) []) ≡ digit b
length_one true v = refl
length_one false v = refl

pub from_bool_digit : (b : Bool) → from_bool b ≡ digit b
from_bool_digit true = refl
from_bool_digit false = refl

pub digit_most : (b : Bool) → digit b ≤ 1
digit_most true = omega arith
digit_most false = omega arith

kept_next : (f : ℕ → Bool) (tag : ℕ) (masks : List ℕ) (p : ℕ) → p < length masks
    → kept f tag masks (p + 1) ≡ kept f tag masks p ++ cond (f (get_or masks p 0)) ((tag + get_or masks p 0) ∷ []) []
unfolding kept
kept_next f tag masks p l =
    ap (λ (ms : List ℕ). tagged tag (keep f ms)) (ap (λ (i : ℕ). take i masks) (add-one p) ∙ take-suc masks p 0 l)
    ∙ ap (tagged tag) (keep_append f (take p masks) (get_or masks p 0 ∷ []))
    ∙ tagged-append tag (keep f (take p masks)) (keep f (get_or masks p 0 ∷ []))
    ∙ ap (λ (l : List ℕ). kept f tag masks p ++ l) (one_kept f tag (get_or masks p 0))

-- what the loop keeps: those of the first p masks that pass are listed
pub record Listing (f : ℕ → Bool) (tag : ℕ) (masks old : List ℕ) (from p at : ℕ) (new : List ℕ) : Type 0 where
  pub turn : p ≤ length masks
  pub room : from + length masks ≤ length old
  pub most : at ≤ from + p
  pub long : length new ≡ length old
  pub place : at ≡ from + length (kept f tag masks p)
  pub front : take at new ≡ take from old ++ kept f tag masks p

pub listing_start : (f : ℕ → Bool) (tag : ℕ) (masks old : List ℕ) (from : ℕ) → from + length masks ≤ length old
    → Listing f tag masks old from 0 from old
unfolding kept tagged keep
listing_start f tag masks old from r =
    record { turn = omega arith; room = r; most = omega arith; long = refl; place = omega arith; front = sym (append-nil (take from old)) }

module _ {f : ℕ → Bool} {tag : ℕ} {masks old : List ℕ} {from p at : ℕ} {new : List ℕ} (w : Listing f tag masks old from p at new) where
  pub listing_room : p < length masks → at < length new
  listing_room l = omega (arith, w.most, w.room, w.long)

  pub listing_more : p < length masks → {m : ℕ} → m ≡ get_or masks p 0 → {v : ℕ} → v ≡ tag + m → {d : ℕ} → d ≡ digit (f m)
      → Listing f tag masks old from (p + 1) (at + d) (set new at v)
  listing_more l {m} em {v} ev {d} ed =
      let b : Bool = f (get_or masks p 0) in
      let one : List ℕ = cond b ((tag + get_or masks p 0) ∷ []) [] in
      let e : d ≡ digit b = ed ∙ ap (λ (x : ℕ). digit (f x)) em in
      let u : v ≡ tag + get_or masks p 0 = ev ∙ ap (λ (x : ℕ). tag + x) em in
      let s : take (at + digit b) (set new at (tag + get_or masks p 0))
      ≡ take at new ++ one = stored b new at (tag + get_or masks p 0) (listing_room l) in
      record {
        turn = omega arith;
        room = w.room;
        most = omega (arith, w.most, digit_most b);
        long = length-set new at v ∙ w.long;
        place =
            omega (
              arith,
              w.place,
              ap length (kept_next f tag masks p l),
              length-append (kept f tag masks p) one,
              length_one b
                  (tag + get_or masks p 0),
            );
        front =
            rw (e, u) (s ∙ ap (λ (x : List ℕ). x ++ one) w.front ∙ append_assoc (take from old) (kept f tag masks p) one
            ∙ ap (λ (x : List ℕ). take from old ++ x) (sym (kept_next f tag masks p l)));
      }

  pub listing_end : length masks ≤ p → Listed old from (tagged tag (keep f masks)) at new
  unfolding kept
  listing_end l =
      let e : tagged tag (keep f (take p masks))
      ≡ tagged tag (keep f masks) = ap (λ (ms : List ℕ). tagged tag (keep f ms)) (take_all p masks l) in
      record {
        place = w.place ∙ ap (λ (x : List ℕ). from + length x) e;
        inside = omega (arith, w.most, w.room, w.turn);
        front = w.front ∙ ap (λ (x : List ℕ). take from old ++ x) e;
        long = w.long;
      }

-- ---- the masks of the order
pub listed-monomials : (n tag : ℕ) (f : Polynomial) {masks old new : List ℕ} {from r : ℕ} → masks ≡ order n
    → Listed old from (tagged tag (keep f masks)) r new → Listed old from (tagged tag (monomials n f)) r new
unfolding monomials
listed-monomials n tag f e w = rw e at w

-- a mask of the order, as the words have it
pub mask_place : (n p : ℕ) {masks : List ℕ} {m : ℕ} → masks ≡ order n → p < length masks → m ≡ get_or masks p 0 → m < 2 ^ n
mask_place n p {masks} e l em =
    let q : p < 2 ^ n = rw (e, length-order n) at l in
    rw (em, e) (order_below n p q)

pub mask_in_words : (n p : ℕ) {masks : List ℕ} {m k : ℕ} → masks ≡ order n → p < length masks → m ≡ get_or masks p 0 → k ≡ 2 ^ (n - 6)
    → m < 64 * k
mask_in_words n p e l em ek =
    rw ek (omega (arith, mask_place n p e l em, room n))

-- up to six letters the coefficients are one word
pub listed_word : (n tag : ℕ) (words : List ℕ) {old new : List ℕ} {from r : ℕ} → n ≤ 6
    → Listed old from (tagged tag (monomials n (bit (get_or words 0 0)))) r new → Listed old from (tagged tag (monomials n (bit_at words))) r new
unfolding bit_at
listed_word n tag words h w = rw (monomials_same n (bit (get_or words 0 0)) (bit_at words) same) at w
  where
    same : (m : ℕ) → m < 2 ^ n → bit (get_or words 0 0) m ≡ bit_at words m
    same m l =
        let s : 2 ^ n ≤ 64 = pow_mono h in
        let q : m / 64 ≡ 0 = omega arith in
        let r : m % 64 ≡ m = omega arith in
        rw (q, r)
