-- An entry, listed: the condition's monomials and those of the answers, unknown by unknown. The records of their numbers are the entry's,
-- and their bytes are three for each monomial of the condition and four for each of an answer.
-- Assumes nothing.
use mathlib.Core.Path.{◌≡◌, refl, sym, ap, ap₂, ◌∙◌}
use mathlib.Core.Bool.{true, ◌&&◌, cond}
use mathlib.Core.List.{List, [], ◌∷◌, ◌++◌, append_assoc, map, map-append}
use Prim.Native.Nat.{ℕ, zero, suc, ◌+◌, ◌-◌, ◌*◌, ◌^◌, ◌≤◌, ◌<◌}
use native.Mathlib.Nat.{zero-add}
use native.Mathlib.Omega.{arith}
use lib.Pow.{pow_mono}
use lib.ListN.{length, take, drop, length-append, length-map}
use Rattle.ring.specs.declared.State.{State}
use Rattle.ring.specs.Polynomial.{Polynomial, value}
use Rattle.ring.specs.Table.{IsTable, present, table, held, answer_table}
use Rattle.ring.proofs.Table.{present-table, held-answer_table}
use Rattle.ring.proofs.Value.{value_cong, involution}
use Rattle.tables.specs.Answered.{Reply, Answered}
use Rattle.words.specs.Inner.Words.{words_of, bit_at, answer_words}
use Rattle.words.proofs.Words.{at_known, words_cong, size_words}
use Rattle.words.proofs.Letters.{room}
use Rattle.order.specs.Order.{order, monomials}
use Rattle.order.specs.Inner.Listing.{tagged, Listed}
use Rattle.elimination.proofs.Slots.{answer_part_lem}
use Rattle.solution.specs.Condition.{Condition, under_fact, width, table_where_zero, polynomial}
use Rattle.solution.specs.Order.{order_bytes, order_fits}
use Rattle.solution.specs.Elimination.{Verdict, solved, none, boole_answers, boole_table, solve}
use Rattle.solution.proofs.Order.{fits_bytes, fits_order}
use Rattle.facts.specs.Inner.Kept.{kept_words}
use Rattle.facts.proofs.Kept.{values_where}
use Rattle.solver.specs.Inner.Methods.{posed, value_words, verdict, solve_words}
use Rattle.solver.proofs.OnWords.{solved_by_values, none_by_values}
use Rattle.entry.specs.Record.{Record, fields, low_first, body_of, condition_record, answer_record, start_record, end_record}
use Rattle.entry.specs.Record.{is_default, bytes}
use Rattle.entry.specs.Inner.Codes.{listed_record}
use Rattle.entry.specs.Entry.{order_records, fact_records, condition_records, answer_records, verdict_records, entry_records, entry}
use Rattle.entry.proofs.OrderRecord.{order_body}
use Rattle.entry.proofs.Codes.{condition_codes, answer_codes_lem}
use Rattle.entry.proofs.Bound.{length-bytes, condition_bytes, answer_bytes, entry_parts, entry_most}
use Rattle.entry.proofs.Verdicts.{VerdictFits, solve_fits}
use Rattle.calls.specs.declared.Verdict.{Verdict as Answer}
use Rattle.calls.specs.declared.Verdict.TheVariants as answers
use Rattle.writer.specs.declared.Listing.{Listing}
use Rattle.writer.specs.Inner.Steps.{answer_part, answer_codes, size_of, archived_order, archived_fact, archived_heads, entry_from}
use Rattle.writer.specs.Inner.Steps.{Lists, Listable, packed, AreKept, Ready, Sized, hand_out}
use Rattle.writer.proofs.Monomials.{listed_both, packed as packed_at, packed_values, packed_table}
use Rattle.tables.specs.declared.Letters.{Letters}
use Rattle.solver.specs.declared.ordered.OrderedLetters.{OrderedLetters}
use Rattle.std.specs.Prelude.{Some, None}

-- ---- the answers
-- the monomials of the answer for unknown j
answer_list : ℕ → ℕ → List ℕ → List ℕ
answer_list j n a = tagged (1024 * (j + 1)) (monomials n (value n (bit_at (answer_part (2 ^ (n - 6)) j a))))

-- the answers' words hold their values: the numbers listed are the records of the answer table
module _ (U n : ℕ) (b : ℕ → Polynomial) (ws : List ℕ) (e : ws ≡ answer_words U (2 ^ (n - 6)) (λ j. value n (b j))) (h : n ≤ 10) where
  part_is : (j : ℕ) → j < U → (m : ℕ) → m < 2 ^ n → value n (bit_at (answer_part (2 ^ (n - 6)) j ws)) m ≡ held n (answer_table U n b) j m
  unfolding answer_part
  part_is j l m k =
      let d : j * 2 ^ (n - 6) + 2 ^ (n - 6) - j * 2 ^ (n - 6) ≡ 2 ^ (n - 6) = omega arith in
      let p : take (2 ^ (n - 6)) (drop (j * 2 ^ (n - 6)) ws) ≡ words_of (2 ^ (n - 6)) (value n (b j)) =
      rw d at (answer_part_lem U (2 ^ (n - 6)) j (λ j. value n (b j)) ws e l) in
      value_cong n _ (value n (b j)) m (λ q s. at_known (2 ^ (n - 6)) (value n (b j)) _ p q (omega (arith, room n)))
      ∙ involution n (b j) m k
      ∙ sym (held-answer_table U n b j m l k)

  pub answers_listed : (j : ℕ) → j ≤ U → map listed_record (answer_codes j n ws) ≡ answer_records j n (answer_table U n b)
  unfolding answer_codes answer_records answer_list
  answers_listed zero l = refl
  answers_listed (suc j) l =
      map-append listed_record (answer_codes j n ws) (answer_list j n ws)
      ∙ ap₂ (λ (x y : List Record). x ++ y) (answers_listed j (omega arith))
      (answer_codes_lem j n _ (held n (answer_table U n b) j) h (part_is j (omega arith)))

-- ---- bytes
answers_size : (j n : ℕ) (a : List ℕ) → length (bytes (answer_records j n a)) ≡ 4 * length (answer_records j n a)
unfolding answer_records bytes
answers_size zero n a = refl
answers_size (suc j) n a =
    let ms : List ℕ = monomials n (held n a j) in
    let made : List Record = map (answer_record j) ms in
    let front : List Record = answer_records j n a in
    omega (arith, answers_size j n a, length-bytes front made, answer_bytes j ms, length-append front made, length-map ms (answer_record j))

condition_size : (c : Condition) → length (bytes (condition_records c)) ≡ 3 * length (condition_records c)
unfolding condition_records
condition_size c =
    let ms : List ℕ = monomials (width c) (present c.table) in
    omega (arith, condition_bytes ms, length-map ms condition_record)

-- ---- an entry, from the coefficients of its condition
module _ (U G : ℕ) (o fact coefficients : List ℕ) where
  abbrev pub the_condition : Condition
  the_condition = under_fact U G o fact (table (U + G) (bit_at coefficients))

  -- what stands between the start and the condition
  abbrev heads : List Record
  heads = order_records the_condition ++ fact_records the_condition

  module _ (h : U + G ≤ 10) {old codes : List ℕ} {told : ℕ}
      (w : Listed old 0 (tagged 0 (monomials (U + G) (bit_at coefficients))) told codes) where
    first_listed : map listed_record (tagged 0 (monomials (U + G) (bit_at coefficients))) ≡ condition_records the_condition
    first_listed = condition_codes the_condition (bit_at coefficients) h (λ m l. sym (present-table (U + G) (bit_at coefficients) m l))

    told_is : told ≡ length (condition_records the_condition)
    told_is =
        w.place ∙ zero-add _ ∙ sym (length-map (tagged 0 (monomials (U + G) (bit_at coefficients))) listed_record) ∙ ap length first_listed

    -- the verdict's bytes
    said-length : {v : Verdict (List ℕ)} → solve the_condition ≡ v
        → length (bytes (verdict_records U (U + G) (solve the_condition))) ≡ length (bytes (verdict_records U (U + G) v))
    said-length e = ap (λ (v : Verdict (List ℕ)). length (bytes (verdict_records U (U + G) v))) e

    pub none_lists : {state : State} {s : ℕ} → s ≡ state.0 → solve the_condition ≡ none state → Lists the_condition (record { of_condition = told; all = told; none = Some s }) codes
    unfolding entry entry_from entry_records verdict_records bytes fields body_of low_first
    none_lists {state} {s} es e =
        record {
          told = omega arith;
          count = omega (arith, w.inside, w.long);
          records = λ route. rw (w.front, first_listed, e, es) (ap (λ (l : List Record). start_record route U G ∷ l)
              (append_assoc (order_records the_condition) (fact_records the_condition) _));
          size = none_size;
        }
      where
        none_size : (route : ℕ) → 6 + (length (bytes heads) + (3 * told + 4 * (told - told) + 2)) ≡ length (entry route the_condition)
        none_size route =
            omega (
              arith,
              entry_parts route the_condition (solve the_condition),
              length-bytes (order_records the_condition) (fact_records the_condition),
              condition_size the_condition,
              told_is,
              said-length e,
            )

    module _ {ws : List ℕ} {all : ℕ} {codes' : List ℕ} (a : Listed codes told (answer_codes U (U + G) ws) all codes') (b : ℕ → Polynomial)
        (ew : ws ≡ answer_words U (2 ^ (U + G - 6)) (λ j. value (U + G) (b j)))
        (e : solve the_condition ≡ solved (answer_table U (U + G) b)) where
      then_listed : map listed_record (answer_codes U (U + G) ws) ≡ answer_records U (U + G) (answer_table U (U + G) b)
      then_listed = answers_listed U (U + G) b ws ew h U (omega arith)

      both_listed : map listed_record (take all codes') ≡ condition_records the_condition ++ answer_records U (U + G) (answer_table U (U + G) b)
      both_listed =
          ap (map listed_record) (listed_both w a).front
          ∙ map-append listed_record (tagged 0 (monomials (U + G) (bit_at coefficients))) (answer_codes U (U + G) ws)
          ∙ ap₂ (λ (x y : List Record). x ++ y) first_listed then_listed

      pub solved_lists : Lists the_condition (record { of_condition = told; all = all; none = None }) codes'
      unfolding entry entry_from entry_records verdict_records
      solved_lists =
          record {
            told = omega (arith, a.place);
            count = omega (arith, a.inside, a.long);
            records = λ route.
                rw (e, both_listed) (ap (λ (l : List Record). start_record route U G ∷ (heads ++ l))
                (append_assoc (condition_records the_condition) (answer_records U (U + G) (answer_table U (U + G) b)) (end_record route ∷ []))
                ∙ ap (λ (l : List Record). start_record route U G ∷ l)
                (append_assoc (order_records the_condition) (fact_records the_condition) _));
            size = solved_size;
          }
        where
          solved_size : (route : ℕ)
              → 6 + (length (bytes heads) + (3 * told + 4 * (all - told) + 0)) ≡ length (entry route the_condition)
          solved_size route =
              omega (
                arith,
                entry_parts route the_condition (solve the_condition),
                length-bytes (order_records the_condition) (fact_records the_condition),
                condition_size the_condition,
                told_is,
                said-length e,
                answers_size U (U + G) (answer_table U (U + G) b),
                a.place,
                length-map (answer_codes U (U + G) ws) listed_record,
                ap length then_listed,
              )

-- ---- by the verdict
module _ (o : OrderedLetters) (fact coefficients : List ℕ) {values : List ℕ} (ev : values ≡ value_words (packed o fact coefficients)) (v : Answer)
    (ws : List ℕ) (says : (fact t : List ℕ) → values ≡ value_words (posed o fact t) → verdict v ws ≡ solve_words (posed o fact t)) where
  abbrev U : ℕ
  U = o.letters.unknowns

  abbrev G : ℕ
  G = o.letters.givens

  abbrev c : Condition
  c = packed o fact coefficients

  small : U + G ≤ 10
  small = rw o.letters.n_is at o.letters.n_fits

  said : verdict v ws ≡ solve_words c
  said = says fact c.table ev

  said_none : {state : State} → v ≡ answers.None state → solve c ≡ none state
  said_none {state} e = none_by_values c state (rw e at said)

  said_solved : v ≡ answers.Solved
      → (solve c ≡ solved (answer_table U (U + G) (boole_answers (U + G) (polynomial c) c.order)))
      × (ws ≡ answer_words U (2 ^ (U + G - 6)) (λ j. value (U + G) (boole_answers (U + G) (polynomial c) c.order j)))
  unfolding boole_table
  said_solved e = solved_by_values c ws (rw e at said)

  -- a state is a byte
  pub state_byte : {state : State} → o.letters.givens ≤ 8 → v ≡ answers.None state → state.0 < 256
  state_byte {state} h e =
      let f : VerdictFits U G (none state) = rw (said_none e) at (solve_fits c (fits_order _ _ o.in_order)) in
      let b : 2 ^ G ≤ 2 ^ 8 = pow_mono h in
      omega arith

  -- all of it
  module _ {old codes : List ℕ} {told : ℕ} (w : Listed old 0 (tagged 0 (monomials o.letters.n (bit_at coefficients))) told codes) where
    pub lists_solved : {all : ℕ} {codes' : List ℕ} → v ≡ answers.Solved
        → Listed codes told (answer_codes o.letters.unknowns o.letters.n ws) all codes'
        → Lists (packed o fact coefficients) (record { of_condition = told; all = all; none = None }) codes'
    lists_solved e a =
        let s = said_solved e in
        solved_lists U G c.order fact coefficients small (rw o.letters.n_is at w) (rw o.letters.n_is at a) _ s.1 s.0

    pub lists_none : {state : State} → v ≡ answers.None state
        → Lists (packed o fact coefficients) (record { of_condition = told; all = told; none = Some state.0 }) codes
    lists_none e = none_lists U G c.order fact coefficients small (rw o.letters.n_is at w) refl (said_none e)

-- ---- what was listed is the entry
-- a condition's table in words, and the values of f*(1 + g)
module _ (o : OrderedLetters) (t coefficients : List ℕ) (is : IsTable o.letters.n t)
    (e : coefficients ≡ words_of (2 ^ (o.letters.n - 6)) (present t)) where
  again : table (o.letters.unknowns + o.letters.givens) (bit_at coefficients) ≡ t
  again = rw o.letters.n_is at (packed_table o.letters.n t coefficients is e)

  values_of : {kept before values : List ℕ} → before ≡ words_of (2 ^ (o.letters.n - 6)) (value (6 + (o.letters.n - 6)) (bit_at coefficients))
      → values ≡ words_of (length before) (λ p. bit_at before p && bit_at kept p)
      → (fact : List ℕ) → kept ≡ kept_words o.letters.n fact → values ≡ value_words (packed o fact coefficients)
  values_of {kept} {before} {values} eb ev fact ek =
      let n = o.letters.n in
      let made : values ≡ words_of (2 ^ (n - 6)) (value n (present (table_where_zero n t fact))) =
      values_where n t fact kept before values ek
      (packed_values n t coefficients is e before eb
      ∙ words_cong (2 ^ (n - 6)) _ _ (λ p l. value_cong n _ _ p (λ m k. packed_at n t coefficients is e m k))) ev in
      rw o.letters.n_is at made
      ∙ ap (λ (f : List ℕ). value_words (posed o fact f)) (sym again)

  pub table_listable : {kept before values masks : List ℕ} → o.letters.givens ≤ 8
      → before ≡ words_of (2 ^ (o.letters.n - 6)) (value (6 + (o.letters.n - 6)) (bit_at coefficients))
      → values ≡ words_of (length before) (λ p. bit_at before p && bit_at kept p) → AreKept o.letters.n kept → masks ≡ order o.letters.n
      → Listable o coefficients values masks
  table_listable givens eb ev kept em =
      record {
        givens = givens;
        words = size_words _ _ _ e;
        fact = kept.fact;
        values_are = values_of eb ev kept.fact kept.are;
        ordered = em;
      }

  pub table_lists : {kept before values codes : List ℕ} {found : Listing}
      → before ≡ words_of (2 ^ (o.letters.n - 6)) (value (6 + (o.letters.n - 6)) (bit_at coefficients))
      → values ≡ words_of (length before) (λ p. bit_at before p && bit_at kept p)
      → ((fact : List ℕ) → values ≡ value_words (packed o fact coefficients) → Lists (packed o fact coefficients) found codes)
      → (fact : List ℕ) → kept ≡ kept_words o.letters.n fact → Lists (posed o fact t) found codes
  table_lists {kept} {before} {values} {codes} {found} eb ev lists fact ek = rw again at (lists fact (values_of eb ev fact ek))

-- the records of an order that passes 17 and of a fact
heads_are : (U n G : ℕ) (bs fact t : List ℕ) → n ≡ U + G → order_fits U bs ≡ true
    → order_records (under_fact U G (take U bs) fact t) ++ fact_records (under_fact U G (take U bs) fact t) ≡ archived_heads U n bs fact
unfolding order_records archived_order fact_records archived_fact
heads_are U n G bs fact t en fits =
    rw en
    (ap (λ (l : List Record). l ++ archived_fact (U + G) fact)
    (ap (λ (r : Record). cond (is_default U (order_bytes (take U bs))) [] (r ∷ [])) (order_body (take U bs))
    ∙ ap (λ (l : List ℕ). cond (is_default U l) [] ((6 ∷ l) ∷ [])) (sym (fits_bytes U bs fits))))

module _ (route : ℕ) (o : OrderedLetters) (fact t : List ℕ) (r : Ready o fact t) {found : Listing} {codes : List ℕ}
    (w : Lists (posed o fact t) found codes) where
  abbrev l : Letters
  l = o.letters

  abbrev posed_is : Condition
  posed_is = posed o fact t

  abbrev archived : List Record
  archived = archived_heads o.letters.unknowns o.letters.n o.order fact

  abbrev made : List ℕ
  made = bytes (entry_from route l.unknowns l.givens archived found codes)

  same_heads : order_records posed_is ++ fact_records posed_is ≡ archived
  same_heads = heads_are l.unknowns l.n l.givens o.order fact t l.n_is o.in_order

  made_is : made ≡ entry route posed_is
  unfolding entry
  made_is =
      ap (λ (heads : List Record). bytes (entry_from route l.unknowns l.givens heads found codes)) (sym same_heads)
      ∙ ap bytes (w.records route)

  pub lists_sized : Sized archived found codes made
  unfolding entry
  lists_sized =
      record {
        told = w.told;
        count = w.count;
        size = ap (λ (heads : List Record). 6 + (length (bytes heads) + size_of found)) (sym same_heads)
            ∙ w.size route ∙ sym (ap length made_is);
        small = omega (
          arith,
          ap length made_is,
          entry_most route posed_is (solve posed_is) l.unknowns_fit r.givens (rw l.n_is at l.n_fits) r.fact_letters,
        );
      }

  -- question 14 of its bytes is that of the entry
  pub lists_out : {done : Answered Reply} (out : List ℕ) → done ≡ hand_out made out → done ≡ hand_out (entry route posed_is) out
  lists_out out e = e ∙ ap (λ (bytes : List ℕ). hand_out bytes out) made_is
