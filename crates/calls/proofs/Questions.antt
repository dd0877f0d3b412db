-- What it tells that a call is not refused, each of its questions being answered yes; and what is enough for it.
-- Assumes nothing.
use mathlib.Core.Path.{◌≡◌, refl, sym, ◌∙◌}
use mathlib.Core.Bool.{Bool, true, false}
use mathlib.Core.List.{List, [], ◌∷◌, ◌++◌}
use mathlib.Core.Logic.{◌↔◌}
use Prim.Native.Nat.{ℕ, zero, suc, ◌+◌, ◌*◌, ◌^◌, ◌≤◌}
use native.Mathlib.Omega.{arith}
use lib.ListN.{length, take}
use borrow.Author.Tests.{le-leb, leb-true}
use Rattle.tables.specs.declared.Question.TheVariants.{Letters, Solution, Afresh, Rising, Order}
use Rattle.ring.specs.Table.{present}
use Rattle.ring.proofs.Table.{present-take}
use Rattle.tables.specs.Questions.{Asked, asks, asks_giving, first_no, letters_fit, has_room, holds_bits, Lent, writes, room_questions}
use Rattle.tables.specs.Questions.{bit_questions, buffer_questions}
use Rattle.tables.specs.Inner.Asking.{also}
use Rattle.tables.proofs.Bits.{bits_are}
use Rattle.tables.proofs.FirstNo.{EachYes, each_yes, none_no, first_also, asked_before, asked_behind, then_further}
use Rattle.tables.proofs.FirstNo.{none_has, first_other}
use Rattle.tables.proofs.Questions.{lent_table, unknowns_small}
use Rattle.solution.specs.Fact.{has_no_unknown, some_state_counts}
use Rattle.solution.specs.Condition.{Condition, width, polynomial, ListsEach}
use Rattle.solution.specs.Order.{order_bytes, order_fits, lent_condition}
use Rattle.solution.specs.Elimination.{solvable}
use Rattle.solution.proofs.Order.{fits_each, take-order_bytes, bytes_fit}
use Rattle.solution.proofs.UnderFact.{no_unknown_cong, some_state_cong}
use Rattle.entry.specs.Record.{Record}
use Rattle.entry.specs.Held.{route_of, unknowns_of, givens_of}
use Rattle.entry.specs.Entry.{entry, Archivable}
use Rattle.entry.specs.Questions.{route_fits, answers_hold}
use Rattle.calls.specs.Text.{Accepted}
use Rattle.calls.specs.Questions.{text_questions, fact_questions, asks_solution, solving_buffers, solving_questions, output_fits}
use Rattle.calls.specs.Questions.{write_questions, record_questions, entry_questions, read_questions}
use Rattle.calls.specs.Questions.{audit_questions, route_rises, walk_questions}
use Rattle.entry.proofs.Passes.{Passes}

-- ---- a text is read exactly if it is accepted and the buffer has room
module _ (U G : ℕ) (text : List ℕ) (room : ℕ) where
  text_yes : EachYes (text_questions U G text room) → Accepted U G text × (2 ^ (U + G) ≤ room)
  unfolding text_questions buffer_questions room_questions bit_questions has_room
  text_yes (letters, (bytes, (fits, (signs, (declared, (grammar, _)))))) =
      (record { letters = letters; bytes = bytes; signs = signs; declared = declared; grammar = grammar }, leb-true _ _ fits)

  yes_text : Accepted U G text × (2 ^ (U + G) ≤ room) → EachYes (text_questions U G text room)
  unfolding text_questions buffer_questions room_questions bit_questions has_room
  yes_text (a, fits) = (a.letters, (a.bytes, (le-leb _ _ fits, (a.signs, (a.declared, (a.grammar, tt))))))

  pub done_exactly : (first_no (text_questions U G text room) ≡ 0) ↔ (Accepted U G text × (2 ^ (U + G) ≤ room))
  done_exactly = (λ z. text_yes (each_yes (text_questions U G text room) z), λ a. none_no (text_questions U G text room) (yes_text a))

-- ---- a fact that is lent, asked 4, 8, 22 and 23
pub record FactFits (U G : ℕ) (fact : List ℕ) : Type 0 where
  pub long : has_room (2 ^ (U + G)) (length fact) ≡ true
  pub bits : holds_bits (2 ^ (U + G)) fact ≡ true
  pub givens : has_no_unknown U (U + G) (present fact) ≡ true
  pub states : some_state_counts U G (present fact) ≡ true

-- 22 and 23 of what is read of it
module _ (U G : ℕ) (fact : List ℕ) where
  pub front_givens : has_no_unknown U (U + G) (present (take (2 ^ (U + G)) fact)) ≡ has_no_unknown U (U + G) (present fact)
  front_givens = no_unknown_cong U (U + G) _ _ (present-take (2 ^ (U + G)) fact)

  pub front_states : some_state_counts U G (present (take (2 ^ (U + G)) fact)) ≡ some_state_counts U G (present fact)
  front_states = some_state_cong U G _ _ (present-take (2 ^ (U + G)) fact)

-- ---- solving: what its questions before 9 ask
pub record Posed (U G : ℕ) (order fact condition : List ℕ) (room : ℕ) : Type 0 where
  pub letters : letters_fit U G ≡ true
  pub of_order : order_fits U order ≡ true
  pub of_fact : FactFits U G fact
  pub long : has_room (2 ^ (U + G)) (length condition) ≡ true
  pub answers_long : has_room (U * 2 ^ (U + G)) room ≡ true
  pub bits : holds_bits (2 ^ (U + G)) condition ≡ true

-- a no to 9 is one to the last question alone, where none before it has that number
last_no : (before : List Asked) (solution : Bool) (given : List ℕ) → none_has 9 before ≡ true
    → first_no (before ++ (asks_giving Solution solution given ∷ [])) ≡ 9 → (first_no before ≡ 0) × (solution ≡ false)
unfolding first_no also
last_no before true given other z =
    let e : first_no before ≡ 9 = same (first_no before) ∙ sym (first_also before (asks_giving Solution true given ∷ [])) ∙ z in
    absurd (omega (arith, e, first_other 9 before other e))
  where
    same : (found : ℕ) → found ≡ also found (asks_giving Solution true given ∷ [])
    same zero = refl
    same (suc found) = refl
last_no before false given other z = (go (first_no before) refl (sym (first_also before (asks_giving Solution false given ∷ [])) ∙ z), refl)
  where
    go : (found : ℕ) → first_no before ≡ found → also found (asks_giving Solution false given ∷ []) ≡ 9 → found ≡ 0
    go zero e y = refl
    go (suc found) e y = sym e ∙ first_other 9 before other (e ∙ y)

module _ (U G : ℕ) (order fact condition : List ℕ) (room : ℕ) where
  -- has the condition a solution?
  abbrev has_solution : Bool
  has_solution = solvable (U + G) (polynomial (lent_condition U G order fact condition)) (take U order)

  -- the questions before 9
  abbrev before : List Asked
  before =
      asks Letters (letters_fit U G)
      ∷ asks Order (order_fits U order)
      ∷ (buffer_questions (solving_buffers U G fact condition room) ++ fact_questions U G fact)

  posed : EachYes before → Posed U G order fact condition room
  unfolding buffer_questions room_questions bit_questions fact_questions
  posed (letters, (in_order, (fact_long, (long, (answers_long, (fact_bits, (bits, (givens, (states, _))))))))) =
      record {
        letters = letters;
        of_order = in_order;
        of_fact = record { long = fact_long; bits = fact_bits; givens = givens; states = states };
        long = long;
        answers_long = answers_long;
        bits = bits;
      }

  -- it is solved exactly if these are answered yes and it has a solution ..
  pub solved_exactly : (first_no (solving_questions U G order fact condition room) ≡ 0)
      ↔ (Posed U G order fact condition room
      × (solvable (U + G) (polynomial (lent_condition U G order fact condition)) (take U order) ≡ true))
  unfolding solving_questions buffer_questions room_questions bit_questions fact_questions
  solved_exactly = (
    λ z. (
      posed (each_yes before (asked_before before (asks_solution (lent_condition U G order fact condition) ∷ []) z)),
      (each_yes (asks_solution (lent_condition U G order fact condition) ∷ [])
          (asked_behind before (asks_solution (lent_condition U G order fact condition) ∷ []) z)).0,
    ),
    λ (p, s). none_no (solving_questions U G order fact condition room) (
      p.letters,
      (
        p.of_order,
        (
          p.of_fact.long,
          (
            p.long,
            (
              p.answers_long,
              (
                p.of_fact.bits,
                (
                  p.bits,
                  (
                    p.of_fact.givens,
                    (p.of_fact.states, (s, tt)),
                  ),
                ),
              ),
            ),
          ),
        ),
      ),
    ),
  )

  -- .. and refused under 9 only if it has none
  pub none_said : first_no (solving_questions U G order fact condition room) ≡ 9
      → Posed U G order fact condition room
      × (solvable (U + G) (polynomial (lent_condition U G order fact condition)) (take U order) ≡ false)
  unfolding solving_questions buffer_questions room_questions bit_questions fact_questions
  none_said z = let y = last_no before has_solution _ refl z in (posed (each_yes before y.0), y.1)

-- ---- writing: what its questions ask
pub record Writable (route U G : ℕ) (order fact condition : List ℕ) (room : ℕ) : Type 0 where
  pub letters : letters_fit U G ≡ true
  pub of_route : route_fits route ≡ true
  pub of_order : order_fits U order ≡ true
  pub of_fact : FactFits U G fact
  pub long : has_room (2 ^ (U + G)) (length condition) ≡ true
  pub bits : holds_bits (2 ^ (U + G)) condition ≡ true
  pub output : length (entry route (lent_condition U G order fact condition)) ≤ room

module _ (route U G : ℕ) (order fact condition : List ℕ) (room : ℕ) where
  write_yes : EachYes (write_questions route U G order fact condition room) → Writable route U G order fact condition room
  unfolding write_questions buffer_questions room_questions bit_questions fact_questions output_fits
  write_yes (letters, (fits, (in_order, (fact_long, (long, (fact_bits, (bits, (givens, (states, (output, _)))))))))) =
      record {
        letters = letters;
        of_route = fits;
        of_order = in_order;
        of_fact = record { long = fact_long; bits = fact_bits; givens = givens; states = states };
        long = long;
        bits = bits;
        output = leb-true _ _ output;
      }

  yes_write : Writable route U G order fact condition room → EachYes (write_questions route U G order fact condition room)
  unfolding write_questions buffer_questions room_questions bit_questions fact_questions output_fits
  yes_write w =
      let f = w.of_fact in
      (w.letters, (w.of_route, (w.of_order, (f.long, (w.long, (f.bits, (w.bits, (f.givens, (f.states, (le-leb _ _ w.output, tt))))))))))

  pub written_exactly : (first_no (write_questions route U G order fact condition room) ≡ 0) ↔ Writable route U G order fact condition room
  written_exactly = (
    λ z. write_yes (each_yes (write_questions route U G order fact condition room) z),
    λ w. none_no (write_questions route U G order fact condition room) (yes_write w),
  )

  -- what can be written has an entry
  pub writable_archivable : Writable route U G order fact condition room → Archivable route (lent_condition U G order fact condition)
  writable_archivable w =
      let f = w.of_fact in
      record {
        letters = w.letters;
        of_route = w.of_route;
        of_order = fits_each U order w.of_order;
        of_table = lent_table (U + G) _ condition refl w.long w.bits;
        of_fact = record {
          is-table = lent_table (U + G) _ fact refl f.long f.bits;
          givens = front_givens U G fact ∙ f.givens;
          states = front_states U G fact ∙ f.states;
        };
      }

-- the bytes of the order of c, and buffers with its tables at their fronts, hold c
pub lent_is : (c : Condition) (fact condition : List ℕ) → c.U ≤ 6 → ListsEach c.U c.order → take (2 ^ width c) fact ≡ c.fact
    → take (2 ^ width c) condition ≡ c.table → lent_condition c.U c.G (order_bytes c.order) fact condition ≡ c
lent_is c fact condition few each front-fact front = rw (take-order_bytes c.U c.order few each, front-fact, front)

-- .. and c is written if the output has room for its entry
pub written_if_room : (route : ℕ) (c : Condition) (fact condition : List ℕ) (room : ℕ) → Archivable route c
    → take (2 ^ width c) fact ≡ c.fact → 2 ^ width c ≤ length fact
    → take (2 ^ width c) condition ≡ c.table → 2 ^ width c ≤ length condition → length (entry route c) ≤ room
    → first_no (write_questions route c.U c.G (order_bytes c.order) fact condition room) ≡ 0
unfolding holds_bits has_room
written_if_room route c fact condition room a front-fact fact_long front long fits =
    let few : c.U ≤ 6 = unknowns_small c.U c.G a.letters in
    (written_exactly route c.U c.G (order_bytes c.order) fact condition room).1
    (record {
      letters = a.letters;
      of_route = a.of_route;
      of_order = bytes_fit c.U c.order few a.of_order;
      of_fact = record {
        long = le-leb _ _ fact_long;
        bits = rw front-fact (bits_are c.fact a.of_fact.is-table.bits);
        givens = sym (front_givens c.U c.G fact) ∙ rw front-fact a.of_fact.givens;
        states = sym (front_states c.U c.G fact) ∙ rw front-fact a.of_fact.states;
      };
      long = le-leb _ _ long;
      bits = rw front (bits_are c.table a.of_table.bits);
      output = rw (lent_is c fact condition few a.of_order front-fact front) fits;
    })

-- ---- reading, audit and walk
module _ (rs : List Record) where
  entry_yes : EachYes (entry_questions rs) → Passes rs
  unfolding entry_questions record_questions fact_questions
  entry_yes (whole, (kinds, (letters, (fits, (numbers, (in_order, (givens, (states, _)))))))) =
      record {
        whole = whole;
        kinds = kinds;
        letters = letters;
        route = fits;
        numbers = numbers;
        order = in_order;
        fact_letters = givens;
        fact_states = states;
      }

  yes_entry : Passes rs → EachYes (entry_questions rs)
  unfolding entry_questions record_questions fact_questions
  yes_entry p =
      (p.whole, (p.kinds, (p.letters, (p.route, (p.numbers, (p.order, (p.fact_letters, (p.fact_states, tt))))))))

  -- 10, 11, 1, 2, 12, 17, 22 and 23
  pub passes_exactly : (first_no (entry_questions rs) ≡ 0) ↔ Passes rs
  passes_exactly = (λ z. entry_yes (each_yes (entry_questions rs) z), λ p. none_no (entry_questions rs) (yes_entry p))

  -- then 4
  module _ (fact_room room answer_room : ℕ) where
    -- the buffers have room for the tables of U unknowns and G givens
    abbrev RoomFor : Type 0
    RoomFor = (2 ^ (unknowns_of rs + givens_of rs) ≤ fact_room) × (2 ^ (unknowns_of rs + givens_of rs) ≤ room)
        × (unknowns_of rs * 2 ^ (unknowns_of rs + givens_of rs) ≤ answer_room)

    abbrev lent : List Lent
    lent =
        writes (2 ^ (unknowns_of rs + givens_of rs)) fact_room
        ∷ writes (2 ^ (unknowns_of rs + givens_of rs)) room
        ∷ writes (unknowns_of rs * 2 ^ (unknowns_of rs + givens_of rs)) answer_room
        ∷ []

    room_yes : EachYes (buffer_questions lent) → RoomFor
    unfolding buffer_questions room_questions bit_questions has_room
    room_yes (fact_long, (long, (answers_long, _))) = (leb-true _ _ fact_long, leb-true _ _ long, leb-true _ _ answers_long)

    yes_room : RoomFor → EachYes (buffer_questions lent)
    unfolding buffer_questions room_questions bit_questions has_room
    yes_room (fact_long, long, answers_long) = (le-leb _ _ fact_long, (le-leb _ _ long, (le-leb _ _ answers_long, tt)))

    pub read_exactly : (first_no (read_questions rs fact_room room answer_room) ≡ 0)
        ↔ (Passes rs × ((2 ^ (unknowns_of rs + givens_of rs) ≤ fact_room) × (2 ^ (unknowns_of rs + givens_of rs) ≤ room)
        × (unknowns_of rs * 2 ^ (unknowns_of rs + givens_of rs) ≤ answer_room)))
    unfolding read_questions
    read_exactly = (
      λ z. (passes_exactly.0 (asked_before (entry_questions rs) _ z), room_yes (each_yes _ (asked_behind (entry_questions rs) _ z))),
      λ y. then_further (entry_questions rs) _ (passes_exactly.1 y.0) ∙ none_no _ (yes_room y.1),
    )

  -- then 13
  pub audit_exactly : (first_no (audit_questions rs) ≡ 0) ↔ (Passes rs × (answers_hold rs ≡ true))
  unfolding audit_questions
  audit_exactly = (
    λ z. (
      passes_exactly.0 (asked_before (entry_questions rs) _ z),
      (each_yes (asks Afresh (answers_hold rs) ∷ []) (asked_behind (entry_questions rs) _ z)).0,
    ),
    λ y. then_further (entry_questions rs) _ (passes_exactly.1 y.0) ∙ none_no (asks Afresh (answers_hold rs) ∷ []) (y.1, tt),
  )

  -- then 15
  module _ (before : ℕ) where
    pub walk_exactly : (first_no (walk_questions before rs) ≡ 0)
        ↔ ((first_no (audit_questions rs) ≡ 0) × (route_rises before (route_of rs) ≡ true))
    unfolding walk_questions
    walk_exactly = (
      λ z. (
        asked_before (audit_questions rs) _ z,
        (each_yes (asks Rising (route_rises before (route_of rs)) ∷ []) (asked_behind (audit_questions rs) _ z)).0,
      ),
      λ y. then_further (audit_questions rs) _ y.0 ∙ none_no (asks Rising (route_rises before (route_of rs)) ∷ []) (y.1, tt),
    )
