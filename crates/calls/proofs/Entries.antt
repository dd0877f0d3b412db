-- The headlines on writing, reading and audit: what `write_entry` leaves in the output reads back, passes the audit and says what is right
-- of the condition, whatever stood behind it; and bytes that pass the audit are exactly those that the writer makes for their
-- condition, fact and order.
-- Assumes nothing.
use mathlib.Core.Path.{◌≡◌, sym, ap, ◌∙◌}
use mathlib.Core.List.{List, [], ◌∷◌, ◌++◌}
use mathlib.Core.Logic.{◌↔◌}
use Prim.Native.Nat.{ℕ, ◌+◌, ◌*◌, ◌^◌, ◌≤◌}
use lib.ListN.{length, take, drop, take-append-drop}
use Rattle.ring.specs.declared.State.{State}
use Rattle.ring.specs.Table.{table}
use Rattle.ring.proofs.Table.{is-table}
use Rattle.tables.specs.Questions.{first_no}
use Rattle.tables.specs.Answered.{Reply, accepted, after, Answered, answered, call, first_buffer}
use Rattle.tables.proofs.Answered.{call_gives, accepted_is, call_done_none}
use Rattle.solution.specs.Condition.{Condition, width}
use Rattle.solution.specs.Order.{order_bytes, lent_condition}
use Rattle.solution.proofs.Order.{fits_each}
use Rattle.solution.specs.Elimination.{none, solve}
use Rattle.solution.specs.General.{RightVerdict}
use Rattle.entry.specs.Record.{Record, AreBytes, bytes}
use Rattle.entry.specs.Entry.{entry, Archivable}
use Rattle.entry.specs.Held.{records, route_of, unknowns_of, givens_of, order_in, fact_in, condition_in, says, held_condition, held_verdict}
use Rattle.entry.proofs.Passes.{Passes}
use Rattle.entry.proofs.Theorems.{ReadsBack, reads_back, archived_order_lem, audited_entry, entry_holds, entry_right}
use Rattle.calls.specs.Questions.{write_questions, read_questions, audit_questions}
use Rattle.calls.specs.Entries.{write_call, state_of, answers_of, read_values, audit_call, BeginsWithEntry}
use Rattle.calls.proofs.Questions.{written_exactly, writable_archivable, read_exactly, audit_exactly}

-- ---- what was written
module _ (route U G : ℕ) (order fact condition out : List ℕ) (z : first_no (write_questions route U G order fact condition (length out)) ≡ 0) where
  archivable : Archivable route (lent_condition U G order fact condition)
  archivable = writable_archivable route U G order fact condition (length out) ((written_exactly route U G order fact condition (length out)).0 z)

  -- the output after the call
  pub output_is : first_buffer (write_call route U G order fact condition out)
      ≡ entry route (lent_condition U G order fact condition) ++ drop (length (entry route (lent_condition U G order fact condition))) out
  unfolding call after
  output_is = rw z

  -- demand 2: the route, U, G, the order, the fact, the condition, solved or 'none' and the state, the answers and the length come back
  pub written_reads_back : ReadsBack route (lent_condition U G order fact condition)
      (records (first_buffer (write_call route U G order fact condition out)))
  written_reads_back = rw output_is (reads_back route (lent_condition U G order fact condition) _ archivable)

  -- it passes the audit
  pub written_audited : first_no (audit_questions (records (first_buffer (write_call route U G order fact condition out)))) ≡ 0
  written_audited =
      (audit_exactly (records (first_buffer (write_call route U G order fact condition out)))).1
      (written_reads_back.passes, rw output_is (entry_holds route (lent_condition U G order fact condition) _ archivable))

  -- demand 3: what its kind 3 and kind 5 records say of the condition is right
  pub written_right : RightVerdict (lent_condition U G order fact condition)
      (says (records (first_buffer (write_call route U G order fact condition out))))
  written_right = rw output_is
      (entry_right route (lent_condition U G order fact condition) _ (archived_order_lem route (lent_condition U G order fact condition) archivable))

-- ---- reading bytes in which a written entry is found, as `reads_back` finds it whatever stands behind it
module _ {route : ℕ} {c : Condition} (bs : List ℕ) (r : ReadsBack route c (records bs)) where
  -- only the buffers can be refused
  pub only_room : (fact_room room answer_room : ℕ) → 2 ^ width c ≤ fact_room → 2 ^ width c ≤ room → c.U * 2 ^ width c ≤ answer_room
      → first_no (read_questions (records bs) fact_room room answer_room) ≡ 0
  only_room fact_room room answer_room fact_long long answers_long =
      (read_exactly (records bs) fact_room room answer_room).1
      (r.passes, rw (r.of_unknowns, r.of_givens) (fact_long, long, answers_long))

  -- 'the route, U, G, whether the entry is solved or 'none' and in which state, and the length used'
  pub values_back : read_values (records bs) ≡ (route ∷ c.U ∷ c.G ∷ length (entry route c) ∷ state_of (solve c))
  unfolding read_values
  values_back = rw (r.of_route, r.of_unknowns, r.of_givens, r.used, r.verdict)

  -- the order, the fact, the condition and the answers are those that were written
  pub order_back : order_in (records bs) ≡ order_bytes c.order
  order_back = r.of_order

  pub fact_back : (held_condition (records bs)).fact ≡ c.fact
  fact_back = ap (λ (x : Condition). x.fact) r.condition

  pub condition_back : (held_condition (records bs)).table ≡ c.table
  condition_back = ap (λ (x : Condition). x.table) r.condition

  pub answers_back : answers_of (held_verdict (records bs)) ≡ answers_of (solve c)
  answers_back = ap answers_of r.verdict

-- 'a 'none' entry leaves the answer buffer untouched'
pub none_untouched : (rs : List Record) (state : State) (lent : List ℕ) → held_verdict rs ≡ none state
    → after 0 (answers_of (held_verdict rs)) lent ≡ lent
unfolding after
none_untouched rs state lent e = rw e

-- ---- audit
-- what reading gives of bytes that pass is a route and a condition of which there is an entry ..
pub passed_archivable : (bs : List ℕ) → first_no (audit_questions (records bs)) ≡ 0
    → Archivable (route_of (records bs)) (held_condition (records bs))
unfolding held_condition table
passed_archivable bs e =
    let p : Passes (records bs) = ((audit_exactly (records bs)).0 e).0 in
    record {
      letters = p.letters;
      of_route = p.route;
      of_order = fits_each (unknowns_of (records bs)) (order_in (records bs)) p.order;
      of_table = is-table (unknowns_of (records bs) + givens_of (records bs)) (condition_in (records bs));
      of_fact = record {
        is-table = is-table (unknowns_of (records bs) + givens_of (records bs)) (fact_in (records bs));
        givens = p.fact_letters;
        states = p.fact_states;
      };
    }

-- .. and the bytes, as far as they are used, are this entry
pub passed_entry : (bs : List ℕ) → AreBytes bs → first_no (audit_questions (records bs)) ≡ 0
    → take (length (bytes (records bs))) bs ≡ entry (route_of (records bs)) (held_condition (records bs))
passed_entry bs are e = let y = (audit_exactly (records bs)).0 e in audited_entry bs are y.0 y.1

-- every entry that the writer makes passes with its own route, U, G, length and, if it says 'none', state, whatever follows it
module _ (route : ℕ) (c : Condition) (behind : List ℕ) (a : Archivable route c) where
  pub entry_audited : first_no (audit_questions (records (entry route c ++ behind))) ≡ 0
  entry_audited = (audit_exactly (records (entry route c ++ behind))).1 ((reads_back route c behind a).passes, entry_holds route c behind a)

  pub entry_passes : audit_call (entry route c ++ behind)
      ≡ answered (accepted (route ∷ c.U ∷ c.G ∷ length (entry route c) ∷ state_of (solve c))) []
  entry_passes =
      sym (call_done_none (audit_questions (records (entry route c ++ behind)))
      (read_values (records (entry route c ++ behind))) entry_audited)
      ∙ ap (λ (values : List ℕ). answered (accepted values) []) (values_back (entry route c ++ behind) (reads_back route c behind a))

-- both ways in one: the audit passes some bytes, and gives these values, exactly if they begin with such an entry
pub audit_exact : (bs values : List ℕ) → AreBytes bs → (audit_call bs ≡ answered (accepted values) []) ↔ BeginsWithEntry bs values
audit_exact bs values are = (to, from)
  where
    gives : {a b : List ℕ} → ◌≡◌ {A = Answered Reply} (answered (accepted a) []) (answered (accepted b) []) → a ≡ b
    gives e = let q : ◌≡◌ {A = Reply} (accepted _) (accepted _) = ap (λ (x : Answered Reply). x.gives) e in cc

    begins : first_no (audit_questions (records bs)) ≡ 0 → audit_call bs ≡ answered (accepted values) [] → BeginsWithEntry bs values
    begins z e =
        let route : ℕ = route_of (records bs) in
        let c : Condition = held_condition (records bs) in
        let behind : List ℕ = drop (length (bytes (records bs))) bs in
        let a : Archivable route c = passed_archivable bs z in
        let m : bs ≡ entry route c ++ behind = sym (take-append-drop (length (bytes (records bs))) bs)
        ∙ ap (λ (l : List ℕ). l ++ behind) (passed_entry bs are z) in
        record {
          route = route;
          condition = c;
          behind = behind;
          archivable = a;
          made = m;
          given = gives (sym e ∙ ap audit_call m ∙ entry_passes route c behind a);
        }

    to : audit_call bs ≡ answered (accepted values) [] → BeginsWithEntry bs values
    to e = begins (accepted_is (audit_questions (records bs)) (read_values (records bs))
        (call_gives (audit_questions (records bs)) (read_values (records bs)) [] (sym e))).0 e

    from : BeginsWithEntry bs values → audit_call bs ≡ answered (accepted values) []
    from b = ap audit_call b.made ∙ entry_passes b.route b.condition b.behind b.archivable
        ∙ ap (λ (vs : List ℕ). answered (accepted vs) []) (sym b.given)
