-- The parts of a listed entry, put one behind another: its start, its monomials, 'none', its end. Each part asks for just the room that its
-- bytes take.
-- Assumes nothing.
use mathlib.Core.Path.{◌≡◌, refl, sym, ap, ◌∙◌}
use mathlib.Core.Bool.{Bool, true, false, cond}
use mathlib.Core.List.{List, [], ◌∷◌, ◌++◌, map, append-nil, append_assoc}
use mathlib.Core.Logic.{◌⊎◌, inl, inr}
use Prim.Native.Nat.{ℕ, zero, suc, ◌+◌, ◌-◌, ◌*◌, ◌/◌, ◌%◌, ◌^◌, ◌≤◌, ◌<◌}
use native.Mathlib.Numerals.{add-one}
use native.Mathlib.Omega.{arith}
use lib.Dec.{eqb, ltb}
use lib.ListN.{length, get_or, take, drop, length-append, length-drop}
use borrow.Author.Tests.{eq-eqb, ne_eqb, ltb-true, ltb-false}
use lib.Seq.{take_at, sets-eq}
use borrow.Rule.Slice.PartMut.{put_mid, Post-is}
use Rattle.ring.specs.Letters.{digit}
use Rattle.ring.specs.Polynomial.{count}
use Rattle.ring.specs.Table.{AreBits, present}
use Rattle.ring.proofs.Bool.{bool_cases}
use Rattle.tables.specs.Inner.Put.{Put}
use Rattle.tables.proofs.Put.{put_length, put_both, put_same, put_none}
use Rattle.order.specs.Order.{order as written_order, keep, monomials}
use Rattle.order.proofs.Order.{length-order, order_below, length-monomials}
use Rattle.entry.specs.Record.{Record, fields, low_first, body_of, end_record, fact_record, bytes, is_default}
use Rattle.entry.specs.Inner.Codes.{listed_record}
use Rattle.entry.proofs.Back.{bytes-append}
use Rattle.entry.proofs.Bound.{fact_bytes}
use Rattle.entry.proofs.Codes.{condition_listed, answer_listed, each, each_bytes, Putting, putting_start, part_fits, putting_more}
use Rattle.entry.proofs.Codes.{putting_end, putting_all}
use Rattle.writer.specs.declared.Listing.{Listing}
use Rattle.writer.specs.Inner.Steps.{none_records, archived_order, archived_fact, archived_heads, fact_part}
use Rattle.writer.specs.Inner.Steps.{entry_from}

-- ---- bytes that are copied to their place
pub put_part : (old vs : List ℕ) (at k : ℕ) {part : List ℕ} → part ≡ vs → k ≡ length vs → at + length vs ≤ length old
    → Put old at vs (at + k) (put_mid at (at + k - at) old part)
put_part old vs at k e ek h =
    rw ek
    (record {
      place = refl;
      inside = h;
      bytes =
          ap (put_mid at (at + length vs - at) old) e
          ∙ ap (λ (l : List ℕ). take at old ++ (vs ++ l)) (Post-is at (at + length vs) old (omega arith))
          ∙ sym (append_assoc (take at old) vs _)
          ∙ sym (sets-eq vs old at h);
    })

-- ---- one monomial
module _ (code : ℕ) where
  pub condition_room : (at room : ℕ) → code / 1024 ≡ 0 → at + length (listed_record code) ≤ room → at + 3 ≤ room
  condition_room at room z h = omega (arith, ap length (condition_listed code z))

  pub answer_room_lem : (at room : ℕ) → (code / 1024 ≡ 0 → ⊥) → at + length (listed_record code) ≤ room → at + 4 ≤ room
  answer_room_lem at room n h = omega (arith, ap length (answer_listed code n))

  pub condition_put : {at r : ℕ} {old new : List ℕ} → code / 1024 ≡ 0
      → Put old at (2 ∷ code % 1024 % 256 ∷ code % 1024 / 256 ∷ []) r new → Put old at (listed_record code) r new
  condition_put z p = put_same p (sym (condition_listed code z))

  pub answer_put : {at r : ℕ} {old new : List ℕ} → (code / 1024 ≡ 0 → ⊥)
      → Put old at (3 ∷ (code / 1024 - 1) ∷ code % 1024 % 256 ∷ code % 1024 / 256 ∷ []) r new → Put old at (listed_record code) r new
  answer_put n p = put_same p (sym (answer_listed code n))

  -- the same as the four bytes of one number
  pub answer_bytes : {at r : ℕ} {old new : List ℕ} {x : ℕ} → code < 65536 → (code / 1024 ≡ 0 → ⊥)
      → x ≡ 3 + 256 * (code / 1024 - 1) + 65536 * (code % 1024)
      → Put old at (x % 256 ∷ x / 256 % 256 ∷ x / 65536 % 256 ∷ x / 16777216 % 256 ∷ []) r new → Put old at (listed_record code) r new
  answer_bytes {x = x} small n e p =
      let i : ℕ = code / 1024 - 1 in
      let m : ℕ = code % 1024 in
      let i_lt : i < 63 = omega arith in
      let m_lt : m < 1024 = omega arith in
      let kind : x % 256 ≡ 3 = omega (arith, e) in
      let rest : x / 256 ≡ i + 256 * m = omega (arith, e) in
      let mask : x / 65536 ≡ m = omega (arith, e) in
      let top : x / 16777216 ≡ m / 256 = omega (arith, e) in
      let unknown : x / 256 % 256 ≡ i = rw rest (omega arith) in
      let low : x / 65536 % 256 ≡ m % 256 = rw mask refl in
      let high : x / 16777216 % 256 ≡ m / 256 = rw top (omega arith) in
      answer_put n (put_same p (rw (kind, unknown, low, high) refl))

-- ---- the loop over the monomials
abbrev pub Writing : List ℕ → List ℕ → ℕ → ℕ → ℕ → List ℕ → Type 0
Writing codes old from p at new = Putting listed_record codes old from p at new

pub writing_start : (codes old : List ℕ) (from : ℕ) → from + length (bytes (map listed_record codes)) ≤ length old
    → Writing codes old from 0 from old
writing_start codes old from h = putting_start listed_record codes old from (rw (each_bytes codes) h)

module _ {codes old : List ℕ} {from p at : ℕ} {new : List ℕ} (w : Writing codes old from p at new) where
  module _ (l : p < length codes) {code : ℕ} (e : code ≡ get_or codes p 0) where
    pub record_fits : at + length (listed_record code) ≤ length new
    record_fits = part_fits w l e

    pub writing_more : {at' : ℕ} {new' : List ℕ} → Put new at (listed_record code) at' new' → Writing codes old from (p + 1) at' new'
    writing_more q = putting_more w l e q

  pub writing_end : length codes ≤ p → Put old from (bytes (map listed_record codes)) at new
  writing_end l = put_same (putting_end w l) (each_bytes codes)

module _ (U : ℕ) (order : List ℕ) {default : Bool} (asked : default ≡ is_default U order) where
  pub order_left : default ≡ true → bytes (archived_order U order) ≡ []
  unfolding archived_order bytes
  order_left e = rw (← asked, e)

  pub order_kept : default ≡ false → bytes (archived_order U order) ≡ 6 ∷ order
  unfolding archived_order bytes
  order_kept e = rw (← asked, e) (append-nil (6 ∷ order))

  -- .. behind the start
  module _ (route G : ℕ) {a : ℕ} {l₀ l₁ : List ℕ} (p : Put l₀ 0 (1 ∷ route ∷ U ∷ G ∷ []) a l₁) where
    pub start_left : default ≡ true → Put l₀ 0 (1 ∷ route ∷ U ∷ G ∷ bytes (archived_order U order)) a l₁
    start_left e = put_same p (ap (λ (l : List ℕ). 1 ∷ route ∷ U ∷ G ∷ l) (sym (order_left e)))

    pub start_room : default ≡ false → length order ≡ 6 → 4 + length (bytes (archived_order U order)) ≤ length l₀ → a + 7 ≤ length l₁
    start_room e six h = omega (arith, ap length (order_kept e), p.place, put_length p)

    pub start_kept : default ≡ false → {r : ℕ} {l₂ : List ℕ} → Put l₁ a (6 ∷ order) r l₂
        → Put l₀ 0 (1 ∷ route ∷ U ∷ G ∷ bytes (archived_order U order)) r l₂
    start_kept e q = put_same (put_both p q) (ap (λ (l : List ℕ). 1 ∷ route ∷ U ∷ G ∷ l) (sym (order_kept e)))

-- ---- how many bytes a fact takes: three for each monomial of its table
pub counted_more : (fact : List ℕ) → AreBits fact → (m : ℕ) → count m (present fact) + get_or fact m 0 ≡ count (m + 1) (present fact)
unfolding count present
counted_more fact bits m = rw (add-one m) (ap (λ (x : ℕ). count m (present fact) + x) (go (get_or fact m 0) (bits m)))
  where
    go : (b : ℕ) → b < 2 → b ≡ digit (eqb b 1)
    go zero h = refl
    go (suc zero) h = refl
    go (suc (suc b)) h = absurd (omega arith)

pub counted_none : (fact : List ℕ) → 0 ≡ count 0 (present fact)
unfolding count
counted_none fact = refl

pub counted_all : (fact : List ℕ) {counted m : ℕ} → (m ≤ length fact) × (counted ≡ count m (present fact)) → length fact ≤ m → (n : ℕ)
    → length fact ≡ 2 ^ n → 3 * counted ≡ length (bytes (archived_fact n fact))
unfolding archived_fact
counted_all fact {counted} {m} (l, e) h n size =
    let whole : m ≡ 2 ^ n = omega arith in
    let all : counted ≡ length (monomials n (present fact)) =
    e ∙ ap (λ (k : ℕ). count k (present fact)) whole ∙ sym (length-monomials n (present fact)) in
    omega (arith, all, fact_bytes (monomials n (present fact)))

-- ---- the records of a fact
-- of one mask
module _ (fact : List ℕ) (m : ℕ) where
  pub present-is : get_or fact m 0 ≡ 1 → present fact m ≡ true
  unfolding present
  present-is e = eq-eqb (get_or fact m 0) 1 e

  pub present-not : (get_or fact m 0 ≡ 1 → ⊥) → present fact m ≡ false
  unfolding present
  present-not n = ne_eqb (get_or fact m 0) 1 n

  pub fact_room_lem : (at size : ℕ) → get_or fact m 0 ≡ 1 → at + length (fact_part fact m) ≤ size → at + 3 ≤ size
  unfolding fact_part fields body_of low_first
  fact_room_lem at size h l = let s : length (fact_part fact m) ≡ 3 = rw (present-is h) in omega arith

  pub fact_put : {at r low high : ℕ} {old new : List ℕ} → get_or fact m 0 ≡ 1 → m < 65536 → low ≡ m % 256 → high ≡ m / 256 % 256
      → Put old at (7 ∷ low ∷ high ∷ []) r new → Put old at (fact_part fact m) r new
  unfolding fact_part fields body_of low_first
  fact_put h small el eh p = let top : m / 256 % 256 ≡ m / 256 = omega arith in put_same p (rw (present-is h, el, eh, top))

  pub fact_none : (get_or fact m 0 ≡ 1 → ⊥) → (old : List ℕ) (at : ℕ) → at + length (fact_part fact m) ≤ length old
      → Put old at (fact_part fact m) at old
  unfolding fact_part
  fact_none n old at l = put_same (put_none old at (omega arith)) (rw (present-not n))

each_fact : (fact masks : List ℕ) → each (fact_part fact) masks ≡ bytes (map fact_record (keep (present fact) masks))
unfolding each fact_part bytes keep
each_fact fact [] = refl
each_fact fact (m ∷ masks) = go (present fact m) (each_fact fact masks)
  where
    go : (b : Bool) → each (fact_part fact) masks ≡ bytes (map fact_record (keep (present fact) masks))
        → cond b (fact_record m) [] ++ each (fact_part fact) masks
        ≡ bytes (map fact_record (cond b (m ∷ keep (present fact) masks) (keep (present fact) masks)))
    go true e = ap (λ (l : List ℕ). fact_record m ++ l) e
    go false e = e

whole_fact : (n : ℕ) (fact : List ℕ) → each (fact_part fact) (written_order n) ≡ bytes (archived_fact n fact)
unfolding archived_fact monomials
whole_fact n fact = each_fact fact (written_order n)

-- what the loop keeps: the records of the first p masks are put
abbrev pub Facts : ℕ → List ℕ → List ℕ → ℕ → ℕ → ℕ → List ℕ → Type 0
Facts n fact old from p at new = Putting (fact_part fact) (written_order n) old from p at new

pub facts_start : (n : ℕ) (fact old : List ℕ) {from end : ℕ} → end ≡ from + length (bytes (archived_fact n fact)) → end ≤ length old
    → Facts n fact old from 0 from old
facts_start n fact old {from} {end} e l =
    putting_start (fact_part fact) (written_order n) old from (rw (whole_fact n fact) (omega (arith, e)))

module _ (n : ℕ) (fact masks old : List ℕ) (em : masks ≡ written_order n) {from end p at : ℕ} {new : List ℕ}
    (w : Facts n fact old from p at new) (ee : end ≡ from + length (bytes (archived_fact n fact))) where
  -- while records are missing there are masks left
  pub masks_left : at < end → p < length masks
  masks_left l = go (bool_cases (ltb p (length masks)))
    where
      go : (ltb p (length masks) ≡ true) ⊎ (ltb p (length masks) ≡ false) → p < length masks
      go (inl h) = ltb-true p (length masks) h
      go (inr h) =
          let few : length (written_order n) ≤ p = rw em at (ltb-false p (length masks) h) in
          absurd (omega (arith, (putting_end w few).place, ap length (whole_fact n fact)))

  module _ (l : at < end) {m : ℕ} (ex : m ≡ get_or masks p 0) where
    mask_is : m ≡ get_or (written_order n) p 0
    mask_is = ex ∙ ap (λ (ms : List ℕ). get_or ms p 0) em

    left : p < length (written_order n)
    left = rw em at (masks_left l)

    -- its byte is in the fact's table
    pub mask_inside : length fact ≡ 2 ^ n → m < length fact
    mask_inside size =
        let small : get_or (written_order n) p 0 < 2 ^ n = order_below n p (omega (arith, left, length-order n)) in
        omega (arith, mask_is)

    pub part_fits_there : at + length (fact_part fact m) ≤ length new
    part_fits_there = part_fits w left mask_is

    pub facts_more : {at' : ℕ} {new' : List ℕ} → Put new at (fact_part fact m) at' new' → Facts n fact old from (p + 1) at' new'
    facts_more q = putting_more w left mask_is q

  pub facts_end : end ≤ at → Put old from (bytes (archived_fact n fact)) at new
  facts_end l = put_same (putting_all w (omega (arith, ap length (whole_fact n fact)))) (whole_fact n fact)

-- .. or all masks are through
pub facts_all : (n : ℕ) (fact masks old : List ℕ) → masks ≡ written_order n → {from p at : ℕ} {new : List ℕ}
    → Facts n fact old from p at new → length masks ≤ p → Put old from (bytes (archived_fact n fact)) at new
facts_all n fact masks old em w l = put_same (putting_end w (rw em at l)) (whole_fact n fact)

-- ---- what stands between the start and the condition
module _ (U n : ℕ) (order fact : List ℕ) where
  heads_bytes : bytes (archived_heads U n order fact) ≡ bytes (archived_order U order) ++ bytes (archived_fact n fact)
  heads_bytes = bytes-append (archived_order U order) (archived_fact n fact)

  heads_length : length (bytes (archived_heads U n order fact))
      ≡ length (bytes (archived_order U order)) + length (bytes (archived_fact n fact))
  heads_length = ap length heads_bytes ∙ length-append (bytes (archived_order U order)) (bytes (archived_fact n fact))

  pub heads_size : {o facts : ℕ} → o ≡ length (bytes (archived_order U order)) → facts ≡ length (bytes (archived_fact n fact))
      → o + facts ≡ length (bytes (archived_heads U n order fact))
  heads_size eo ef = omega (arith, heads_length)

  module _ (route G : ℕ) (codes : List ℕ) where
    pub start_fits : (room : ℕ) → 4 + (length (bytes (archived_heads U n order fact)) + length codes) ≤ room
        → 4 + length (bytes (archived_order U order)) ≤ room
    start_fits room h = omega (arith, heads_length)

    module _ {a : ℕ} {l₀ l₁ : List ℕ} (p : Put l₀ 0 (1 ∷ route ∷ U ∷ G ∷ bytes (archived_order U order)) a l₁)
        (h : 4 + (length (bytes (archived_heads U n order fact)) + length codes) ≤ length l₀) where
      pub fact_fits : {size : ℕ} → size ≡ length (bytes (archived_fact n fact))
          → (a + size ≡ a + length (bytes (archived_fact n fact))) × (a + size ≤ length l₁)
      fact_fits e = (ap (λ (x : ℕ). a + x) e, omega (arith, heads_length, p.place, put_length p))

      module _ {b : ℕ} {l₂ : List ℕ} (q : Put l₁ a (bytes (archived_fact n fact)) b l₂) where
        pub codes_fit : b + length codes ≤ length l₂
        codes_fit = omega (arith, heads_length, p.place, q.place, put_length p, put_length q)

        pub front_put : {r : ℕ} {l₃ : List ℕ} → Put l₂ b codes r l₃
            → Put l₀ 0 (1 ∷ route ∷ U ∷ G ∷ (bytes (archived_heads U n order fact) ++ codes)) r l₃
        front_put c =
            put_same (put_both p (put_both q c)) (ap (λ (l : List ℕ). 1 ∷ route ∷ U ∷ G ∷ l)
            (sym (append_assoc (bytes (archived_order U order)) (bytes (archived_fact n fact)) codes)
            ∙ ap (λ (l : List ℕ). l ++ codes) (sym heads_bytes)))

-- ---- the whole
module _ (route U G : ℕ) (heads : List Record) (found : Listing) (codes : List ℕ) where
  -- the start, what stands behind it and the first k monomials
  abbrev pub front : ℕ → List ℕ
  front k = 1 ∷ route ∷ U ∷ G ∷ (bytes heads ++ bytes (map listed_record (take k codes)))

  -- their number
  abbrev size : ℕ → ℕ
  size k = length (bytes heads) + length (bytes (map listed_record (take k codes)))

  -- what stands behind the monomials
  abbrev end : List ℕ
  end = bytes (none_records found.none ++ (end_record route ∷ []))

  entry_parts : bytes (entry_from route U G heads found codes) ≡ front found.all ++ end
  unfolding entry_from bytes fields body_of low_first
  entry_parts =
      let told = map listed_record (take found.all codes) in
      ap (λ (l : List ℕ). (1 ∷ route ∷ U ∷ G ∷ []) ++ l)
      (bytes-append heads (told ++ (none_records found.none ++ (end_record route ∷ [])))
      ∙ ap (λ (l : List ℕ). bytes heads ++ l) (bytes-append told (none_records found.none ++ (end_record route ∷ [])))
      ∙ sym (append_assoc (bytes heads) (bytes told) end))

  front_length : (k : ℕ) → length (front k) ≡ 4 + size k
  front_length k = omega (arith, length-append (bytes heads) (bytes (map listed_record (take k codes))))

  parts_length : length (bytes (entry_from route U G heads found codes)) ≡ 4 + size found.all + length end
  parts_length = omega (arith, ap length entry_parts, length-append (front found.all) end, front_length found.all)

  -- the room that the parts ask for
  pub front_room : {room : ℕ} → length (bytes (entry_from route U G heads found codes)) ≤ room → 4 + size found.all ≤ room
  front_room h = omega (arith, parts_length)

  module _ {a : ℕ} {l₀ l₁ : List ℕ} (p : Put l₀ 0 (front found.all) a l₁) where
    pub end_room : length (bytes (entry_from route U G heads found codes)) ≤ length l₀ → a + length end ≤ length l₁
    end_room h = omega (arith, parts_length, p.place, front_length found.all, put_length p)

    pub whole_put : {r : ℕ} {l₂ : List ℕ} → Put l₁ a end r l₂ → Put l₀ 0 (bytes (entry_from route U G heads found codes)) r l₂
    whole_put q = put_same (put_both p q) (sym entry_parts)

-- the masks for n letters stand at the front of the buffer that they were filled into
pub ordered : (n : ℕ) {k : ℕ} {last : List ℕ} (rest : List ℕ) → k ≡ 2 ^ n → last ≡ written_order n ++ rest → take k last ≡ written_order n
ordered n {k} {last} rest ek e = ap (take k) e ∙ take_at (written_order n) rest k (length-order n ∙ sym ek)

pub order-length : (n : ℕ) (old : List ℕ) {last : List ℕ} → last ≡ written_order n ++ drop (2 ^ n) old → 2 ^ n ≤ length old
    → length last ≡ length old
order-length n old e h =
    ap length e ∙ length-append (written_order n) (drop (2 ^ n) old)
    ∙ (let d : length (drop (2 ^ n) old) ≡ length old - 2 ^ n = length-drop (2 ^ n) old in omega (arith, length-order n))
