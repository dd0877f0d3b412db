-- The entry that is printed: the condition by its values, the numbers that its monomials are listed as, and the lines of its records, which
-- have room.
-- Assumes nothing.
use mathlib.Core.Path.{◌≡◌, refl, sym, ap, ◌∙◌}
use mathlib.Core.Bool.{true}
use mathlib.Core.List.{List, [], ◌∷◌, ◌++◌, map}
use Prim.Native.Nat.{ℕ, ◌+◌, ◌-◌, ◌^◌, ◌≤◌, ◌<◌}
use native.Mathlib.Omega.{arith}
use lib.Dec.{leb}
use lib.ListN.{length, take, length-append}
use lib.Seq.{take_all}
use borrow.Author.Tests.{leb-true}
use Rattle.ring.specs.Polynomial.{value}
use Rattle.ring.specs.Table.{table, present}
use Rattle.ring.proofs.Bool.{and_right}
use Rattle.ring.proofs.Table.{is-table, present-table, table_cong}
use Rattle.ring.proofs.Value.{value_cong, involution}
use Rattle.tables.specs.Inner.Put.{Put}
use Rattle.tables.specs.declared.Letters.{Letters}
use Rattle.tables.specs.Questions.{letters_fit}
use Rattle.tables.proofs.Put.{put_length, put_both, put_same}
use Rattle.tables.proofs.Questions.{letters_small, unknowns_small, givens_small, pow_small}
use Rattle.words.specs.Inner.Words.{words_of, bit_at}
use Rattle.words.proofs.Words.{at_known, words_cong, size_words}
use Rattle.words.proofs.Letters.{room}
use Rattle.grammar.specs.Text.{text_table}
use Rattle.notation.specs.Inner.Work.{text_words}
use Rattle.notation.proofs.Values.{table_text}
use Rattle.order.specs.Order.{order}
use Rattle.order.proofs.Order.{monomials_none}
use Rattle.solution.specs.Fact.{no_fact}
use Rattle.solution.specs.Condition.{Condition, ordered, default_order, condition_of}
use Rattle.solution.specs.Order.{default_bytes, order_fits}
use Rattle.solution.specs.Elimination.{solve}
use Rattle.solution.proofs.Order.{default_each, default_fits, take-order_bytes}
use Rattle.solution.proofs.UnderFact.{no_fact_lem, no_fact_empty}
use Rattle.solver.specs.declared.ordered.OrderedLetters.{OrderedLetters}
use Rattle.solver.specs.Inner.Methods.{value_words}
use Rattle.entry.specs.Record.{Record, fields, low_first, body_of, start_record, end_record, none_record, bytes}
use Rattle.entry.specs.Inner.Codes.{listed_record}
use Rattle.entry.specs.Entry.{order_records, fact_records, archived_records}
use Rattle.entry.specs.Questions.{route_fits}
use Rattle.entry.proofs.Back.{written_whole}
use Rattle.entry.proofs.OrderRecord.{default_left_out}
use Rattle.entry.proofs.Bound.{length-bytes, entry_without}
use Rattle.writer.specs.declared.Listing.{Listing}
use Rattle.std.specs.Prelude.{Some, None}
use Rattle.writer.specs.Inner.Steps.{none_records, entry_from, Lists, Listable}
use Rattle.writer.proofs.Monomials.{transformed}
use Rattle.writer.proofs.Parts.{ordered as masks-ordered}
use Rattle.printing.specs.Print.{line_feed, hexadecimal, record_lines}
use Rattle.printing.proofs.Records.{lines_append, line_of, line_length, lines_most}
use Rattle.sheet_lines.specs.Inner.Feeding.{line_room, table_of, IsValues}

pub route_small : (route : ℕ) → route_fits route ≡ true → route < 256
unfolding route_fits
route_small route e = omega (arith, leb-true route 250 (and_right (leb 1 route) (leb route 250) e))

-- ---- the condition by its values
-- the words of a text hold the values of its table
pub text_values : (U G : ℕ) (text : List ℕ) {values : List ℕ} → values ≡ text_words U G text → IsValues (U + G) values
unfolding text_words
text_values U G text {values} e =
    e ∙ words_cong (2 ^ (U + G - 6)) _ _ (λ p l. value_cong (U + G) _ _ p (λ m k.
    sym (value_cong (U + G) _ (value (U + G) (present (text_table U G text))) m
    (λ q s. at_known (2 ^ (U + G - 6)) _ values e q (omega (arith, room (U + G))))
    ∙ involution (U + G) (present (text_table U G text)) m k)))

pub text_table_lem : (U G : ℕ) (text : List ℕ) {values : List ℕ} → values ≡ text_words U G text → table_of (U + G) values ≡ text_table U G text
unfolding table_of
text_table_lem U G text {values} e = table_text U G text values _ e refl

module _ (n : ℕ) (values : List ℕ) {coefficients : List ℕ}
    (e : coefficients ≡ words_of (2 ^ (n - 6)) (value (6 + (n - 6)) (bit_at values))) where
  pub same_values : IsValues n values → values ≡ words_of (2 ^ (n - 6)) (value n (bit_at coefficients))
  same_values h = h ∙ words_cong (2 ^ (n - 6)) _ _ (λ p l. value_cong n _ _ p (λ m k. sym (transformed n values coefficients e m k)))

  pub same_table : {points : ℕ} → n ≡ points → table points (bit_at coefficients) ≡ table_of n values
  unfolding table_of
  same_table is = rw (← is) (table_cong n (bit_at coefficients) (value n (bit_at values)) (transformed n values coefficients e))

  pub coefficients_size : length coefficients ≡ 2 ^ (n - 6)
  coefficients_size = size_words _ _ _ e

pub values-size : (n : ℕ) {values : List ℕ} → IsValues n values → length values ≡ 2 ^ (n - 6)
values-size n h = size_words _ _ _ h

-- no fact is lent: the values are those of the condition itself
pub without_facts : (l : Letters) (order₁ : List ℕ) {coefficients values : List ℕ}
    → coefficients ≡ words_of (2 ^ (l.n - 6)) (value (6 + (l.n - 6)) (bit_at values)) → IsValues l.n values
    → values ≡ value_words (ordered l.unknowns l.givens (take l.unknowns order₁) (table (l.unknowns + l.givens) (bit_at coefficients)))
unfolding table
without_facts l order₁ {coefficients} {values} e h =
    let n : ℕ = l.unknowns + l.givens in
    let e' : coefficients ≡ words_of (2 ^ (n - 6)) (value (6 + (n - 6)) (bit_at values)) = rw l.n_is at e in
    let h' : IsValues n values = rw l.n_is at h in
    same_values n values e' h'
    ∙ words_cong (2 ^ (n - 6)) _ _ (λ p l. value_cong n _ _ p (λ m k. sym (present-table n (bit_at coefficients) m k)))
    ∙ ap (λ (t : List ℕ). words_of (2 ^ (n - 6)) (value n (present t)))
    (sym (no_fact_lem n (table n (bit_at coefficients)) (is-table n (bit_at coefficients))))

pub listable : (o : OrderedLetters) {coefficients values masks : List ℕ} → letters_fit o.letters.unknowns o.letters.givens ≡ true
    → coefficients ≡ words_of (2 ^ (o.letters.n - 6)) (value (6 + (o.letters.n - 6)) (bit_at values)) → IsValues o.letters.n values
    → masks ≡ order o.letters.n → Listable o coefficients values masks
listable o {coefficients} {values} l e h m =
    record {
      givens = givens_small o.letters.unknowns o.letters.givens l;
      words = coefficients_size o.letters.n values e;
      fact = no_fact (o.letters.unknowns + o.letters.givens);
      values_are = without_facts o.letters o.order e h;
      ordered = m;
    }

-- ---- the lines
-- those of the records at an entry's ends, by their bytes
start-length : (route U G : ℕ) → length (record_lines (start_record route U G ∷ [])) ≡ 9
unfolding fields body_of low_first
start-length route U G = line_length (start_record route U G)

end_length : (route : ℕ) → length (record_lines (end_record route ∷ [])) ≡ 5
unfolding fields body_of low_first
end_length route = line_length (end_record route)

none_length : (state : ℕ) → length (record_lines (none_record state ∷ [])) ≡ 5
unfolding fields body_of low_first
none_length state = line_length (none_record state)

module _ {at a : ℕ} {old new : List ℕ} where
  pub start_line : (route U G : ℕ) → Put old at (hexadecimal (1 ∷ route ∷ U ∷ G ∷ []) ++ (line_feed ∷ [])) a new
      → Put old at (record_lines (start_record route U G ∷ [])) a new
  unfolding fields body_of low_first
  start_line route U G p = put_same p (sym (line_of (start_record route U G)))

  pub end_line : (route : ℕ) → Put old at (hexadecimal (4 ∷ route ∷ []) ++ (line_feed ∷ [])) a new
      → Put old at (record_lines (end_record route ∷ [])) a new
  unfolding fields body_of low_first
  end_line route p = put_same p (sym (line_of (end_record route)))

  pub none_line : (state : ℕ) → Put old at (hexadecimal (5 ∷ state ∷ []) ++ (line_feed ∷ [])) a new
      → Put old at (record_lines (none_record state ∷ [])) a new
  unfolding fields body_of low_first
  none_line state p = put_same p (sym (line_of (none_record state)))

-- the start and the monomials
module _ (route U G : ℕ) (rs : List Record) where
  front_length : length (record_lines (start_record route U G ∷ rs)) ≡ 9 + length (record_lines rs)
  front_length =
      ap length (lines_append (start_record route U G ∷ []) rs) ∙ length-append (record_lines (start_record route U G ∷ [])) (record_lines rs)
      ∙ ap (λ (k : ℕ). k + length (record_lines rs)) (start-length route U G)

  module _ {at a : ℕ} {l₀ l₁ : List ℕ} (p : Put l₀ at (hexadecimal (1 ∷ route ∷ U ∷ G ∷ []) ++ (line_feed ∷ [])) a l₁) where
    pub front_room : at + (9 + length (record_lines rs)) ≤ length l₀ → a + length (record_lines rs) ≤ length l₁
    front_room h = omega (arith, (start_line route U G p).place, start-length route U G, put_length p)

    pub front_put : {r : ℕ} {l₂ : List ℕ} → Put l₁ a (record_lines rs) r l₂ → Put l₀ at (record_lines (start_record route U G ∷ rs)) r l₂
    front_put q = put_same (put_both (start_line route U G p) q) (sym (lines_append (start_record route U G ∷ []) rs))

-- 'none' and the end
module _ (state route : ℕ) {at a : ℕ} {l₀ l₁ : List ℕ} (p : Put l₀ at (hexadecimal (5 ∷ state ∷ []) ++ (line_feed ∷ [])) a l₁) where
  pub none_room : at + 10 ≤ length l₀ → a + 5 ≤ length l₁
  none_room h = omega (arith, (none_line state p).place, none_length state, put_length p)

  pub none_put : {r : ℕ} {l₂ : List ℕ} → Put l₁ a (record_lines (end_record route ∷ [])) r l₂
      → Put l₀ at (record_lines (none_record state ∷ end_record route ∷ [])) r l₂
  none_put q = put_same (put_both (none_line state p) q) (sym (lines_append (none_record state ∷ []) (end_record route ∷ [])))

-- the whole
module _ (route U G : ℕ) (found : Listing) (codes : List ℕ) where
  -- the lines of a listed entry, part by part
  abbrev end : List Record
  end = none_records found.none ++ (end_record route ∷ [])

  lines_parts : record_lines (entry_from route U G [] found codes)
      ≡ record_lines (start_record route U G ∷ map listed_record (take found.all codes)) ++ record_lines end
  unfolding entry_from
  lines_parts = lines_append (start_record route U G ∷ map listed_record (take found.all codes)) end

  lines_length : length (record_lines (entry_from route U G [] found codes))
      ≡ 9 + length (record_lines (map listed_record (take found.all codes))) + length (record_lines end)
  lines_length =
      ap length lines_parts
      ∙ length-append (record_lines (start_record route U G ∷ map listed_record (take found.all codes))) (record_lines end)
      ∙ ap (λ (k : ℕ). k + length (record_lines end)) (front_length route U G (map listed_record (take found.all codes)))

  pub front_fits : (at room : ℕ) → at + length (record_lines (entry_from route U G [] found codes)) ≤ room
      → at + (9 + length (record_lines (map listed_record (take found.all codes)))) ≤ room
  front_fits at room h = omega (arith, lines_length)

  module _ {at a : ℕ} {l₀ l₁ : List ℕ}
      (p : Put l₀ at (record_lines (start_record route U G ∷ map listed_record (take found.all codes))) a l₁) where
    end_fits : {k : ℕ} → length (record_lines end) ≡ k → at + length (record_lines (entry_from route U G [] found codes)) ≤ length l₀
        → a + k ≤ length l₁
    end_fits e h = omega (arith, lines_length, p.place, put_length p, front_length route U G (map listed_record (take found.all codes)))

    pub solved_end : found.none ≡ None → at + length (record_lines (entry_from route U G [] found codes)) ≤ length l₀ → a + 5 ≤ length l₁
    solved_end e = end_fits (rw e (end_length route))

    pub solved_put : found.none ≡ None → {r : ℕ} {l₂ : List ℕ} → Put l₁ a (record_lines (end_record route ∷ [])) r l₂
        → Put l₀ at (record_lines (entry_from route U G [] found codes)) r l₂
    solved_put e q = put_same (put_both p q) (sym (lines_parts ∙ rw e))

    pub unsolved_end : {s : ℕ} → found.none ≡ Some s → at + length (record_lines (entry_from route U G [] found codes)) ≤ length l₀
        → a + 10 ≤ length l₁
    unsolved_end {s} e =
        let last : List ℕ = record_lines (end_record route ∷ []) in
        let ten : length (record_lines (none_record s ∷ end_record route ∷ [])) ≡ 10 = omega (
          arith,
          ap length (lines_append (none_record s ∷ []) (end_record route ∷ [])),
          length-append (record_lines (none_record s ∷ [])) last,
          none_length s,
          end_length route,
        ) in
        end_fits (rw e ten)

    pub unsolved_put : {s : ℕ} → found.none ≡ Some s → {r : ℕ} {l₂ : List ℕ}
        → Put l₁ a (record_lines (none_record s ∷ end_record route ∷ [])) r l₂
        → Put l₀ at (record_lines (entry_from route U G [] found codes)) r l₂
    unsolved_put e q = put_same (put_both p q) (sym (lines_parts ∙ rw e))

-- ---- what was listed is what is archived, and has room
-- the order 0, 1, 2, ..
pub default_asked : (U : ℕ) {order : List ℕ} → order ≡ default_bytes U → U ≤ 6 → order_fits U order ≡ true
default_asked U e few = rw e (default_fits U few)

pub default_lists : (U G : ℕ) (t : List ℕ) {order : List ℕ} → order ≡ default_bytes U → U ≤ 6 → {found : Listing} {codes : List ℕ}
    → Lists (ordered U G (take U order) t) found codes → Lists (condition_of U G t) found codes
default_lists U G t e few w = rw (e, take-order_bytes U (default_order U) few (default_each U)) at w

module _ (route U G : ℕ) (t : List ℕ) {found : Listing} {codes : List ℕ} (w : Lists (condition_of U G t) found codes) where
  -- neither an order nor a fact has a record
  nothing_before : order_records (condition_of U G t) ++ fact_records (condition_of U G t) ≡ []
  unfolding fact_records
  nothing_before = rw (default_left_out U G t, monomials_none (U + G) (present (no_fact (U + G))) (no_fact_empty (U + G)))

  archived : entry_from route U G [] found codes ≡ archived_records route (condition_of U G t)
  archived = ap (λ (heads : List Record). entry_from route U G heads found codes) (sym nothing_before) ∙ w.records route

  pub archived_put : {s : List ℕ} → t ≡ s → {at r : ℕ} {old new : List ℕ}
      → Put old at (record_lines (entry_from route U G [] found codes)) r new
      → Put old at (record_lines (archived_records route (condition_of U G s))) r new
  archived_put es p = put_same p (ap record_lines (archived ∙ ap (λ (x : List ℕ). archived_records route (condition_of U G x)) es))

  pub archived_room : (at room : ℕ) → letters_fit U G ≡ true → at + line_room ≤ room
      → at + length (record_lines (entry_from route U G [] found codes)) ≤ room
  unfolding bytes
  archived_room at room l h =
      let c : Condition = condition_of U G t in
      omega (
        arith,
        ap (λ (rs : List Record). length (record_lines rs)) archived,
        lines_most (archived_records route c) (written_whole route c _),
        entry_without route c (solve c) (unknowns_small U G l) (letters_small U G l),
        ap (λ (rs : List Record). length (bytes rs)) nothing_before,
        length-bytes (order_records c) (fact_records c),
      )

-- ---- the written order
pub masks_room : (n : ℕ) {k : ℕ} (last : List ℕ) → k ≡ 2 ^ n → n ≤ 10 → length last ≡ 1024 → k ≤ length last
masks_room n {k} last e h el = let p : k ≤ 1024 = pow_small k n e h in omega arith

-- all of a buffer
pub filled-order : (o : ℕ) {new : List ℕ} (rest : List ℕ) → length new ≡ 2 ^ o → new ≡ order o ++ rest → new ≡ order o
filled-order o {new} rest h e = sym (take_all (2 ^ o) new (omega arith)) ∙ masks-ordered o rest refl e
