-- The questions that the calls ask first, and what a call does that has passed them, from what it does on the front of its buffer.
-- Assumes nothing.
use mathlib.Core.Path.{◌≡◌, refl, sym, ap₂, ◌∙◌}
use mathlib.Core.Bool.{true}
use mathlib.Core.List.{List, [], ◌∷◌, ◌++◌}
use Prim.Native.Nat.{ℕ, ◌+◌, ◌*◌, ◌^◌, ◌≤◌}
use native.Mathlib.Nat.{mul-le-mul}
use lib.ListN.{length, take, drop}
use Rattle.ring.specs.Table.{IsTable}
use Rattle.tables.specs.declared.Letters.{Letters}
use Rattle.tables.specs.declared.Question.{Question}
use Rattle.tables.specs.Questions.{Asked, number, first_no, letters_fit, has_room, holds_bits, room_questions, bit_questions, buffer_questions}
use Rattle.tables.specs.Answered.{Reply, refused, answered, ◌into◌}
use Rattle.tables.specs.Inner.Passed.{IsFirstNo, AreLetters}
use Rattle.tables.proofs.FirstNo.{number_some}
use Rattle.tables.proofs.Questions.{pow_small, room_enough, room_length_lem, held_bits}
use Rattle.tables.proofs.Answered.{call_stops, call_behind, call_front}
use Rattle.solution.specs.Order.{order_fits, lent_condition}
use Rattle.facts.proofs.Asked.{fact_front}
use Rattle.tables.proofs.Passed.{letters-table_len}
use Rattle.calls.specs.Questions.{fact_questions, asks_solution, solving_questions}
use Rattle.calls.specs.Solving.{solving_call}
use Rattle.solver.specs.declared.ordered.OrderedLetters.{OrderedLetters}
use Rattle.solver.specs.declared.Method.{Method}
use Rattle.solver.specs.Inner.Methods.{posed, table_questions, table_by, solve_by}
use Rattle.solver.specs.Inner.Passed.{PassedSolving}
use Rattle.solver.proofs.OnWords.{length-table_by}

-- the part of a lent table that counts
pub part : (l : Letters) (t : List ℕ) → has_room l.table_len (length t) ≡ true → holds_bits l.table_len t ≡ true
    → IsTable l.n (take l.table_len t)
part l t room bits = record { size = room_length_lem l.table_len t room ∙ l.table_len_is; bits = held_bits l.table_len t bits }

-- as many tables as there are unknowns, which the code can count
pub all_small : (l : Letters) → l.unknowns * l.table_len ≤ 6144
all_small l = mul-le-mul l.unknowns_fit (pow_small l.table_len l.n l.table_len_is l.n_fits)

-- ---- 1, 17, 4 and 8 of a call that solves: what a yes to each tells
module _ (u g : ℕ) (order fact t : List ℕ) (room : ℕ) (o : OrderedLetters) (are : AreLetters u g o.letters) (same : o.order ≡ order) where
  pub passed_solving : letters_fit u g ≡ true → has_room o.letters.table_len (length fact) ≡ true → has_room o.letters.table_len (length t) ≡ true
      → has_room (o.letters.unknowns * o.letters.table_len) room ≡ true → holds_bits o.letters.table_len fact ≡ true → holds_bits o.letters.table_len t ≡ true
      → PassedSolving u g order fact t room o
  unfolding table_questions buffer_questions room_questions bit_questions first_no
  passed_solving fit fact_room condition_room answer_room fact_bits bits =
      let fits : order_fits u order ≡ true = sym (ap₂ order_fits are.unknowns same) ∙ o.in_order in
      let all_room : has_room (u * o.letters.table_len) room ≡ true = rw are.unknowns at answer_room in
      record {
        none_no = rw (fit, fits, ← letters-table_len u g o.letters are, fact_room, condition_room, all_room, fact_bits, bits);
        letters = are;
        in_order = same;
        fact_room = room_enough o.letters.table_len _ fact_room;
        condition_room = room_enough o.letters.table_len _ condition_room;
        answer_room = room_enough (o.letters.unknowns * o.letters.table_len) _ answer_room;
        fact_table = part o.letters fact fact_room fact_bits;
        table = part o.letters t condition_room bits;
      }

-- ---- solving: 22, 23 and 9 behind 1, 17, 4 and 8
module _ (method : Method) (u g : ℕ) (order fact t lent : List ℕ) where
  -- 22, 23 and 9, of the lent buffers
  abbrev behind : List Asked
  behind = fact_questions u g fact ++ (asks_solution (lent_condition u g order fact t) ∷ [])

  pub solving_refused : (question : Question) → IsFirstNo (table_questions u g order fact t (length lent)) question
      → answered (refused (number question) []) (lent ∷ []) ≡ solving_call (table_by method) u g order fact t lent
  unfolding solving_questions table_questions buffer_questions room_questions bit_questions
  solving_refused question found =
      call_stops (table_questions u g order fact t (length lent)) behind _ (table_by method (lent_condition u g order fact t) into lent ∷ [])
      (number question) refl found (number_some question)

  pub solving_done : (o : OrderedLetters) → PassedSolving u g order fact t (length lent) o → {gives : Reply} {front : List ℕ}
      → answered gives (front ∷ [])
      ≡ solve_by method (posed o (take o.letters.table_len fact) (take o.letters.table_len t)) (take (o.letters.unknowns * o.letters.table_len) lent)
      → answered gives ((front ++ drop (o.letters.unknowns * o.letters.table_len) lent) ∷ []) ≡ solving_call (table_by method) u g order fact t lent
  unfolding solve_by solving_questions table_questions
  solving_done o passed done =
      let ek = letters-table_len u g o.letters passed.letters in
      let answer_room : u * 2 ^ (u + g) ≤ length lent = rw (passed.letters.unknowns, ek) at passed.answer_room in
      rw (ek, passed.letters.unknowns)
      (call_front behind _ (table_by method (lent_condition u g order fact t)) lent _ (u * 2 ^ (u + g))
      (length-table_by method (lent_condition u g order fact t)) answer_room
      (rw (ek, passed.letters.unknowns, passed.letters.givens, passed.in_order, fact_front u g fact) at done)
      ∙ call_behind (table_questions u g order fact t (length lent)) behind _ _ passed.none_no)
