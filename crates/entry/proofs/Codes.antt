-- The monomials of an entry as numbers: those of the condition, listed in written order, are its records, and so are an answer's.
-- Then the loops that put something for each number of a list, one part behind another.
-- Assumes nothing.
use mathlib.Core.Path.{◌≡◌, refl, sym, ap, ap₂, ◌∙◌}
use mathlib.Core.Bool.{true, ◌&&◌}
use mathlib.Core.List.{List, [], ◌∷◌, ◌++◌, append_assoc, append-nil, map}
use Prim.Native.Nat.{ℕ, zero, suc, ◌+◌, ◌-◌, ◌*◌, ◌/◌, ◌%◌, ◌^◌, ◌≤◌, ◌<◌}
use native.Mathlib.Numerals.{add-one}
use native.Mathlib.Omega.{arith}
use lib.Dec.{ltb}
use lib.Pow.{pow_mono}
use lib.ListN.{length, get_or, take, drop, length-append, take-append-drop}
use lib.Seq.{take-suc, take_all}
use borrow.Author.Tests.{ltb-true}
use Rattle.ring.specs.Polynomial.{Polynomial}
use Rattle.ring.specs.Table.{present}
use Rattle.ring.specs.Lists.{has}
use Rattle.ring.proofs.Bool.{and_right}
use Rattle.ring.proofs.Lists.{has_first, has_rest}
use Rattle.tables.specs.Inner.Put.{Put}
use Rattle.tables.proofs.Put.{put_length, put_both, put_same, put_none}
use Rattle.solution.specs.Condition.{Condition, width}
use Rattle.order.specs.Order.{monomials}
use Rattle.order.specs.Inner.Listing.{tagged}
use Rattle.order.proofs.Order.{has_monomials, monomials_same}
use Rattle.entry.specs.Record.{Record, fields, low_first, body_of, condition_record, answer_record, bytes}
use Rattle.entry.specs.Entry.{condition_records}
use Rattle.entry.specs.Inner.Codes.{monomial_record, listed_record}

-- ---- a number is its table and its mask
record_of_lem : (i m : ℕ) → m < 1024 → listed_record (1024 * i + m) ≡ monomial_record (suc i) m
unfolding listed_record
record_of_lem i m h =
    let d : (1024 * i + m) / 1024 ≡ i = omega arith in
    let r : (1024 * i + m) % 1024 ≡ m = omega arith in
    ap₂ (λ (j k : ℕ). monomial_record (suc j) k) d r

-- its bytes: three where the table is the condition, four where it is an answer's
module _ (code : ℕ) where
  pub condition_listed : code / 1024 ≡ 0 → listed_record code ≡ 2 ∷ code % 1024 % 256 ∷ code % 1024 / 256 ∷ []
  unfolding listed_record fields body_of low_first
  condition_listed z = rw z

  pub answer_listed : (code / 1024 ≡ 0 → ⊥) → listed_record code ≡ 3 ∷ (code / 1024 - 1) ∷ code % 1024 % 256 ∷ code % 1024 / 256 ∷ []
  unfolding listed_record fields body_of low_first
  answer_listed some = go (code / 1024) some
    where
      go : (i : ℕ) → (i ≡ 0 → ⊥) → monomial_record (suc i) (code % 1024) ≡ 3 ∷ (i - 1) ∷ code % 1024 % 256 ∷ code % 1024 / 256 ∷ []
      go zero n = absurd (n refl)
      go (suc j) n = let d : suc j - 1 ≡ j = omega arith in rw d

of_tagged : (i : ℕ) (ms : List ℕ) → ((m : ℕ) → has m ms ≡ true → m < 1024)
    → map listed_record (tagged (1024 * i) ms) ≡ map (monomial_record (suc i)) ms
unfolding tagged
of_tagged i [] h = refl
of_tagged i (m ∷ ms) h =
    ap₂ (λ (r : Record) (rs : List Record). r ∷ rs) (record_of_lem i m (h m (has_first m ms))) (of_tagged i ms (λ k l. h k (has_rest k m ms l)))

small : (n : ℕ) (f : Polynomial) → n ≤ 10 → (m : ℕ) → has m (monomials n f) ≡ true → m < 1024
small n f h m l =
    let p : 2 ^ n ≤ 1024 = pow_mono h in
    let e : (f m && ltb m (2 ^ n)) ≡ true = sym (has_monomials n f m) ∙ l in
    omega (arith, ltb-true m (2 ^ n) (and_right (f m) (ltb m (2 ^ n)) e))

-- the condition's monomials, listed
pub condition_codes : (c : Condition) (f : Polynomial) → width c ≤ 10 → ((m : ℕ) → m < 2 ^ width c → f m ≡ present c.table m)
    → map listed_record (tagged 0 (monomials (width c) f)) ≡ condition_records c
unfolding condition_records
condition_codes c f h e =
    of_tagged 0 (monomials (width c) f) (small (width c) f h) ∙ ap (map condition_record) (monomials_same (width c) f (present c.table) e)

-- those of the answer for unknown j
pub answer_codes_lem : (j n : ℕ) (f g : Polynomial) → n ≤ 10 → ((m : ℕ) → m < 2 ^ n → f m ≡ g m)
    → map listed_record (tagged (1024 * (j + 1)) (monomials n f)) ≡ map (answer_record j) (monomials n g)
answer_codes_lem j n f g h e =
    of_tagged (j + 1) (monomials n f) (small n f h)
    ∙ ap (λ (i : ℕ). map (monomial_record (suc i)) (monomials n f)) (add-one j)
    ∙ ap (map (answer_record j)) (monomials_same n f g e)

-- ---- something put for each number of a list
unfoldable pub each : (ℕ → List ℕ) → List ℕ → List ℕ
each f [] = []
each f (x ∷ xs) = f x ++ each f xs

each_append : (f : ℕ → List ℕ) (xs ys : List ℕ) → each f (xs ++ ys) ≡ each f xs ++ each f ys
unfolding each
each_append f [] ys = refl
each_append f (x ∷ xs) ys = ap (λ (l : List ℕ). f x ++ l) (each_append f xs ys) ∙ sym (append_assoc (f x) (each f xs) (each f ys))

each_next : (f : ℕ → List ℕ) (xs : List ℕ) (p : ℕ) → p < length xs → each f (take (p + 1) xs) ≡ each f (take p xs) ++ f (get_or xs p 0)
unfolding each
each_next f xs p l = rw (add-one, take-suc xs p 0 l, each_append f (take p xs) (get_or xs p 0 ∷ []), append-nil (f (get_or xs p 0)))

each_most : (f : ℕ → List ℕ) (xs : List ℕ) (p : ℕ) → length (each f (take p xs)) ≤ length (each f xs)
each_most f xs p =
    let e : each f xs ≡ each f (take p xs) ++ each f (drop p xs) = ap (each f) (sym (take-append-drop p xs))
    ∙ each_append f (take p xs) (drop p xs) in
    omega (arith, ap length e, length-append (each f (take p xs)) (each f (drop p xs)))

-- what such a loop keeps: the parts of the first p numbers are put
pub record Putting (f : ℕ → List ℕ) (xs old : List ℕ) (from p at : ℕ) (new : List ℕ) : Type 0 where
  pub turn : p ≤ length xs
  pub long : length new ≡ length old
  pub room : from + length (each f xs) ≤ length old
  pub put : Put old from (each f (take p xs)) at new

pub putting_start : (f : ℕ → List ℕ) (xs old : List ℕ) (from : ℕ) → from + length (each f xs) ≤ length old
    → Putting f xs old from 0 from old
unfolding each
putting_start f xs old from r = record { turn = omega arith; long = refl; room = r; put = put_none old from (omega arith) }

module _ {f : ℕ → List ℕ} {xs old : List ℕ} {from p at : ℕ} {new : List ℕ} (w : Putting f xs old from p at new) where
  module _ (l : p < length xs) {x : ℕ} (ex : x ≡ get_or xs p 0) where
    pub part_fits : at + length (f x) ≤ length new
    part_fits =
        let e : length (each f (take (p + 1) xs)) ≡ length (each f (take p xs)) + length (f x) =
        ap length (each_next f xs p l) ∙ length-append (each f (take p xs)) (f (get_or xs p 0)) ∙ rw ex in
        omega (arith, w.put.place, w.room, w.long, each_most f xs (p + 1))

    pub putting_more : {at' : ℕ} {new' : List ℕ} → Put new at (f x) at' new' → Putting f xs old from (p + 1) at' new'
    putting_more q =
        record {
          turn = omega arith;
          long = put_length q ∙ w.long;
          room = w.room;
          put = rw (each_next f xs p l) (put_both w.put (rw ex at q));
        }

  pub putting_end : length xs ≤ p → Put old from (each f xs) at new
  putting_end l = put_same w.put (ap (each f) (take_all p xs l))

  -- as soon as all bytes are there, whatever is left has none
  pub putting_all : from + length (each f xs) ≤ at → Put old from (each f xs) at new
  putting_all l =
      let e : each f xs ≡ each f (take p xs) ++ each f (drop p xs) = ap (each f) (sym (take-append-drop p xs))
      ∙ each_append f (take p xs) (drop p xs) in
      let none : length (each f (drop p xs)) ≡ 0 =
      omega (arith, ap length e, length-append (each f (take p xs)) (each f (drop p xs)), w.put.place) in
      put_same w.put (sym (append-nil (each f (take p xs))) ∙ ap (λ (l : List ℕ). each f (take p xs) ++ l) (sym (no_bytes _ none)) ∙ sym e)
    where
      no_bytes : (l : List ℕ) → length l ≡ 0 → l ≡ []
      no_bytes [] z = refl
      no_bytes (b ∷ bs) z = absurd (omega (arith, z))

-- the bytes of records, record by record
pub each_bytes : (codes : List ℕ) → each listed_record codes ≡ bytes (map listed_record codes)
unfolding each bytes
each_bytes [] = refl
each_bytes (code ∷ codes) = ap (λ (l : List ℕ). listed_record code ++ l) (each_bytes codes)
