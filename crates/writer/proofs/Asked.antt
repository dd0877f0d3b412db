-- The writer's questions as the code asks them, and the ways out: refused by 1, 2, 17, 4 or 8, by 22 or 23, or by 14, or done.
-- Assumes nothing.
use mathlib.Core.Path.{◌≡◌, refl, sym, ap, ap₂, ◌∙◌}
use mathlib.Core.Bool.{true, false}
use mathlib.Core.List.{List, [], ◌∷◌, ◌++◌}
use Prim.Native.Nat.{ℕ, ◌+◌, ◌*◌, ◌^◌, ◌≤◌}
use native.Mathlib.Nat.{zero-add, mul-le-mul}
use native.Mathlib.Omega.{arith}
use lib.Dec.{leb}
use lib.ListN.{length, take, drop}
use lib.Seq.{sets-eq}
use borrow.Author.Tests.{leb-true}
use Rattle.ring.specs.Table.{IsTable}
use Rattle.ring.proofs.Bool.{and_right}
use Rattle.tables.specs.declared.Letters.{Letters}
use Rattle.tables.specs.declared.Question.{Question}
use Rattle.tables.specs.declared.Question.TheVariants.{Output}
use Rattle.tables.specs.Inner.Put.{Put}
use Rattle.tables.specs.Inner.Passed.{NoneNo, IsFirstNo, AreLetters}
use Rattle.tables.specs.Questions.{Asked, asks, number, first_no, letters_fit, has_room, holds_bits, room_questions, bit_questions, buffer_questions}
use Rattle.tables.specs.Answered.{Reply, accepted, refused, Answered, answered, ◌into◌, call}
use Rattle.tables.proofs.FirstNo.{number_some, each_yes, no_to, yes_counts}
use Rattle.tables.proofs.Questions.{givens_small, room_enough}
use Rattle.tables.proofs.Answered.{call_stops, call_refused, call_done, call_behind}
use Rattle.solution.specs.Order.{order_fits}
use Rattle.entry.specs.Entry.{entry}
use Rattle.entry.specs.Questions.{route_fits}
use Rattle.calls.specs.Questions.{fact_questions, output_fits, write_questions}
use Rattle.calls.specs.Entries.{lent_entry, write_call}
use Rattle.facts.proofs.Asked.{fact_front, fact_stops}
use Rattle.solver.specs.declared.ordered.OrderedLetters.{OrderedLetters}
use Rattle.solver.specs.Inner.Methods.{posed}
use Rattle.tables.proofs.Passed.{letters-table_len}
use Rattle.solver.proofs.Calls.{part}
use Rattle.writer.specs.Inner.Steps.{Ready, condition_questions, hand_out, hand_out_under}
use Rattle.writer.specs.Inner.Passed.{PassedCondition}

-- ---- 1, 2, 17, 4 and 8: what a yes to each tells
module _ (route u g : ℕ) (order fact t : List ℕ) where
  pub passed_condition : (o : OrderedLetters) → AreLetters u g o.letters → o.order ≡ order → letters_fit u g ≡ true → route_fits route ≡ true
      → has_room o.letters.table_len (length fact) ≡ true → has_room o.letters.table_len (length t) ≡ true
      → holds_bits o.letters.table_len fact ≡ true → holds_bits o.letters.table_len t ≡ true → PassedCondition route u g order fact t o
  unfolding condition_questions buffer_questions room_questions bit_questions first_no route_fits
  passed_condition o are same fit fits fact_room condition_room fact_bits bits =
      let orders : order_fits u order ≡ true = sym (ap₂ order_fits are.unknowns same) ∙ o.in_order in
      record {
        none_no = rw (fit, fits, orders, ← letters-table_len u g o.letters are, fact_room, condition_room, fact_bits, bits);
        letters = are;
        in_order = same;
        route_fits = leb-true route 250 (and_right (leb 1 route) (leb route 250) fits);
        givens_fit = rw are.givens (givens_small u g fit);
        fact_room = room_enough o.letters.table_len _ fact_room;
        condition_room = room_enough o.letters.table_len _ condition_room;
        fact_table = part o.letters fact fact_room fact_bits;
        table = part o.letters t condition_room bits;
      }

  pub write_refused : (question : Question) (out : List ℕ) → IsFirstNo (condition_questions route u g order fact t) question
      → answered (refused (number question) []) (out ∷ []) ≡ write_call route u g order fact t out
  unfolding condition_questions write_questions buffer_questions room_questions bit_questions
  write_refused question out e =
      call_stops (condition_questions route u g order fact t)
      (fact_questions u g fact ++ (asks Output (output_fits (lent_entry route u g order fact t) (length out)) ∷ [])) _
      (lent_entry route u g order fact t into out ∷ []) (number question) refl e (number_some question)

  -- then 22, 23 and 14 decide
  pub write_done : (o : OrderedLetters) → PassedCondition route u g order fact t o → {done : Answered Reply} (out : List ℕ)
      → done
      ≡ hand_out_under o.letters.unknowns o.letters.givens (take o.letters.table_len fact)
      (entry route (posed o (take o.letters.table_len fact) (take o.letters.table_len t))) out
      → done ≡ write_call route u g order fact t out
  unfolding hand_out_under write_questions condition_questions buffer_questions room_questions bit_questions
  write_done o passed out h =
      rw (letters-table_len u g o.letters passed.letters, passed.letters.unknowns, passed.letters.givens, passed.in_order) at h
      ∙ ap (λ (qs : List Asked). call (qs ++ (asks Output (output_fits (lent_entry route u g order fact t) (length out)) ∷ []))
      (length (lent_entry route u g order fact t) ∷ []) (lent_entry route u g order fact t into out ∷ [])) (fact_front u g fact)
      ∙ call_behind (condition_questions route u g order fact t) _ _ _ passed.none_no

-- ---- 22 and 23
module _ (u g : ℕ) (fact made out : List ℕ) where
  pub fact_refused : (question : Question) → IsFirstNo (fact_questions u g fact) question
      → answered (refused (number question) []) (out ∷ []) ≡ hand_out_under u g fact made out
  unfolding hand_out_under
  fact_refused question e = fact_stops u g fact _ _ (made into out ∷ []) (number question) e (number_some question)

  pub fact_done : {done : Answered Reply} → NoneNo (fact_questions u g fact) → done ≡ hand_out made out
      → done ≡ hand_out_under u g fact made out
  unfolding hand_out_under hand_out
  fact_done z h = h ∙ call_behind (fact_questions u g fact) _ _ _ z

-- a fact that they are answered yes of, and a condition, are ready to be written
pub fact_ready : (o : OrderedLetters) (fact : List ℕ) {t : List ℕ} → NoneNo (fact_questions o.letters.unknowns o.letters.givens fact)
    → o.letters.givens ≤ 8 → IsTable o.letters.n fact → IsTable o.letters.n t → Ready o fact t
unfolding fact_questions
fact_ready o fact z givens of_fact is =
    record {
      givens = givens;
      of_fact = of_fact;
      fact_letters = (each_yes (fact_questions o.letters.unknowns o.letters.givens fact) z).0;
      is-table = is;
    }

-- room for the monomials of the condition and of the answers
pub room_for : (l : Letters) (most : ℕ) → 2 ^ l.n ≤ most → (l.unknowns + 1) * 2 ^ l.n ≤ 7 * most
room_for l most fits = let h : l.unknowns + 1 ≤ 7 = omega (arith, l.unknowns_fit) in mul-le-mul h fits

-- ---- 14, where the code has the entry's size
module _ (made out : List ℕ) {size : ℕ} (e : size ≡ length made) where
  pub output_short : leb size (length out) ≡ false → answered (refused 14 []) (out ∷ []) ≡ hand_out made out
  unfolding hand_out output_fits first_no
  output_short short =
      let no_room : leb (length made) (length out) ≡ false = rw e at short in
      call_refused (asks Output (output_fits made (length out)) ∷ []) (length made ∷ []) (made into out ∷ []) 14 refl
      (sym (no_to Output (output_fits made (length out)) [] [] no_room)) (λ z. omega arith)

  pub output_done : leb size (length out) ≡ true → {r : ℕ} {new : List ℕ} → Put out 0 made r new
      → answered (accepted (r ∷ [])) (new ∷ []) ≡ hand_out made out
  unfolding hand_out output_fits first_no
  output_done enough {r} {new} p =
      let fits : leb (length made) (length out) ≡ true = rw e at enough in
      let room : length made ≤ length out = leb-true _ _ fits in
      let asked : List Asked = asks Output (output_fits made (length out)) ∷ [] in
      let z : first_no asked ≡ 0 = yes_counts Output (output_fits made (length out)) [] [] fits in
      let whole : r ≡ length made = p.place ∙ zero-add (length made) in
      let front : new ≡ made ++ drop (length made) out = p.bytes ∙ sets-eq made out 0 (omega arith)
      ∙ ap (λ (k : ℕ). made ++ drop k out) (zero-add (length made)) in
      rw (whole, front) (call_done asked (length made ∷ []) made out made (length made) z refl refl)
