-- Demand 3 over the calls. The condition buffer after reading has the text's table at its front, so the writer's entry is that of the table;
-- what the writer leaves is right and reads back, and what the reader gives of it is known, by the laws of `calls`.
-- Assumes nothing.
use mathlib.Core.Path.{◌≡◌, refl, sym, ap, ◌∙◌}
use mathlib.Core.Bool.{true}
use mathlib.Core.List.{List, [], ◌∷◌, ◌++◌}
use Prim.Native.Nat.{ℕ, ◌+◌, ◌^◌, ◌≤◌}
use native.Mathlib.Omega.{arith}
use lib.ListN.{length, take, drop, length-append}
use lib.Seq.{take_at}
use Rattle.tables.specs.Questions.{first_no}
use Rattle.tables.specs.Answered.{accepted, after, answered, call}
use Rattle.tables.proofs.Answered.{call_done, call-also}
use Rattle.grammar.specs.Text.{text_table}
use Rattle.solution.specs.Fact.{IsFact}
use Rattle.solution.specs.Condition.{Condition, under_fact, ListsEach}
use Rattle.solution.specs.Order.{order_bytes, order_fits, lent_condition}
use Rattle.solution.proofs.Order.{length-order_bytes, fits_each, fits_bytes}
use Rattle.solution.specs.Elimination.{solve}
use Rattle.solution.specs.General.{RightVerdict}
use Rattle.entry.specs.Entry.{entry, Archivable}
use Rattle.entry.specs.Held.{records, says}
use Rattle.entry.specs.Questions.{route_fits}
use Rattle.entry.proofs.Theorems.{ReadsBack}
use Rattle.calls.specs.Questions.{text_questions, write_questions, read_questions}
use Rattle.calls.specs.Entries.{read_call, state_of, answers_of}
use Rattle.calls.proofs.Text.{text_is_table}
use Rattle.calls.proofs.Questions.{done_exactly, written_exactly, writable_archivable}
use Rattle.calls.proofs.Questions as asked
use Rattle.calls.proofs.Entries.{written_reads_back, written_right, only_room, values_back, order_back, fact_back, condition_back}
use Rattle.calls.proofs.Entries.{answers_back}
use Rattle.demands.specs.OverTheCalls.{text_read, entry_written, GivesBack, OverTheCalls}
use Rattle.demands.proofs.Demand3.{right_demand}
use Rattle.demands.proofs.UnderFact.{demand_where}

-- an entry that reads back does so through `read_entry`
module _ (route : ℕ) (c : Condition) (e order fact condition answers : List ℕ) (back : ReadsBack route c (records e))
    (z : first_no (read_questions (records e) (length fact) (length condition) (length answers)) ≡ 0) where
  given_back : read_call e order fact condition answers
      ≡ answered (accepted (route ∷ c.U ∷ c.G ∷ length (entry route c) ∷ state_of (solve c)))
      ((order_bytes c.order ++ drop 6 order)
      ∷ (c.fact ++ drop (length c.fact) fact)
      ∷ (c.table ++ drop (length c.table) condition)
      ∷ (answers_of (solve c) ++ drop (length (answers_of (solve c))) answers)
      ∷ [])
  given_back =
      sym (call-also (read_questions (records e) (length fact) (length condition) (length answers)) _ _ order _ _ z refl
      (call-also (read_questions (records e) (length fact) (length condition) (length answers)) _ _ fact _ _ z refl
      (call-also (read_questions (records e) (length fact) (length condition) (length answers)) _ _ condition _ _ z refl
      (call_done (read_questions (records e) (length fact) (length condition) (length answers)) _ _ answers _ _ z refl refl))))
      ∙ rw (
        values_back e back,
        order_back e back,
        fact_back e back,
        condition_back e back,
        answers_back e back,
        length-order_bytes c.order,
      )

  pub read : GivesBack route c e order fact condition answers
  read = record { same_answers = λ tables s. given_back ∙ rw s; same_state = λ state s. given_back ∙ rw s }

-- what holds of a condition holds of one that is the same
carry : (P : Condition → Type 0) {x y : Condition} → x ≡ y → P x → P y
carry P e p = rw e at p

-- an order, a fact and a condition buffer that hold c are archived as c
module _ (route : ℕ) (c : Condition) (order fact condition out : List ℕ) (holds : lent_condition c.U c.G order fact condition ≡ c)
    (z : first_no (write_questions route c.U c.G order fact condition (length out)) ≡ 0) where
  archivable : Archivable route c
  archivable =
      carry (Archivable route) holds
      (writable_archivable route c.U c.G order fact condition (length out)
      ((written_exactly route c.U c.G order fact condition (length out)).0 z))

  back : ReadsBack route c (records (entry_written route c.U c.G order fact condition out))
  back =
      carry (λ x. ReadsBack route x (records (entry_written route c.U c.G order fact condition out))) holds
      (written_reads_back route c.U c.G order fact condition out z)

  right : RightVerdict c (says (records (entry_written route c.U c.G order fact condition out)))
  right =
      carry (λ x. RightVerdict x (says (records (entry_written route c.U c.G order fact condition out)))) holds
      (written_right route c.U c.G order fact condition out z)

  pub archives : OverTheCalls route c order fact condition out
  archives =
      record {
        demand = right_demand c _ right back.condition back.verdict;
        under_fact = demand_where c _ archivable.of_fact.givens (right_demand c _ right back.condition back.verdict) right;
        entry_is_written =
            sym (call_done (write_questions route c.U c.G order fact condition (length out)) _ _ out _ _ z refl refl)
            ∙ ap (λ (x : Condition). answered (accepted (length (entry route x) ∷ []))
            ((entry route x ++ drop (length (entry route x)) out) ∷ [])) holds;
        read_if_room = only_room _ back;
        reads_back = λ order₂ fact₂ condition₂ answers₂ z₂. read route c _ order₂ fact₂ condition₂ answers₂ back z₂;
      }

-- the text's table is at the front of the buffer that it was read into
module _ (U G : ℕ) (text lent : List ℕ) (z : first_no (text_questions U G text (length lent)) ≡ 0) where
  front_of : take (2 ^ (U + G)) (text_read U G text lent) ≡ text_table U G text
  unfolding call after
  front_of = rw z (take_at (text_table U G text) _ (2 ^ (U + G)) (text_is_table U G text).size)

  front_room : 2 ^ (U + G) ≤ length (text_read U G text lent)
  unfolding call after
  front_room = rw (z, length-append) (omega (arith, (text_is_table U G text).size))

  module _ (order fact : List ℕ) where
    -- the text's condition in the order and under the fact that are given
    abbrev condition : Condition
    condition = under_fact U G (take U order) (take (2 ^ (U + G)) fact) (text_table U G text)

    -- demand 3, from the text, the order, the fact and the lent buffers to what is read back, by the calls' contracts
    pub over_the_calls : (route : ℕ) (out : List ℕ)
        → first_no (write_questions route U G order fact (text_read U G text lent) (length out)) ≡ 0
        → OverTheCalls route (under_fact U G (take U order) (take (2 ^ (U + G)) fact) (text_table U G text)) order fact
        (text_read U G text lent) out
    over_the_calls route out written =
        archives route condition order fact (text_read U G text lent) out
        (ap (under_fact U G (take U order) (take (2 ^ (U + G)) fact)) front_of) written

    -- and writing is refused for another route than 1 to 250, an order or a fact that is none or too short an output alone, so that every
    -- accepted text can be archived in every order and under every fact
    pub written_if_room : (route : ℕ) (out : List ℕ) → route_fits route ≡ true → order_fits U order ≡ true
        → 2 ^ (U + G) ≤ length fact → IsFact U G (take (2 ^ (U + G)) fact)
        → length (entry route (under_fact U G (take U order) (take (2 ^ (U + G)) fact) (text_table U G text))) ≤ length out
        → first_no (write_questions route U G order fact (text_read U G text lent) (length out)) ≡ 0
    written_if_room route out route-fits order_fits_lem fact_long of_fact fits =
        let accepted = ((done_exactly U G text (length lent)).0 z).0 in
        let each : ListsEach U (take U order) = fits_each U order order_fits_lem in
        let a : Archivable route condition =
        record {
          letters = accepted.letters;
          of_route = route-fits;
          of_order = each;
          of_table = text_is_table U G text;
          of_fact = of_fact;
        } in
        ap (λ (bytes : List ℕ). first_no (write_questions route U G bytes fact (text_read U G text lent) (length out)))
        (fits_bytes U order order_fits_lem)
        ∙ asked.written_if_room route condition fact (text_read U G text lent) (length out) a refl fact_long front_of front_room fits
