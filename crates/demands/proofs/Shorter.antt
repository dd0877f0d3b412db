-- The shorter of two answer tables, over the calls. The part that is handed back has the polynomials of the table that it is taken from, so it
-- is a general solution whichever table that is; and the totals are those of the tables that the calls leave at the fronts of their buffers.
-- Assumes nothing.
use mathlib.Core.Path.{◌≡◌, refl, sym, ap, ◌∙◌, subst}
use mathlib.Core.Bool.{Bool, true, false, cond}
use mathlib.Core.List.{List, [], ◌∷◌, ◌++◌}
use Prim.Native.Nat.{ℕ, ◌+◌, ◌*◌, ◌^◌, ◌≤◌, ◌<◌}
use native.Mathlib.Omega.{arith}
use lib.Dec.{ltb}
use lib.ListN.{length, take, drop, length-append}
use lib.Seq.{length-take-le, take_at}
use borrow.Author.Tests.{le-leb, lt-ltb, le-ltb, ltb-true, ltb-false}
use Rattle.ring.specs.Polynomial.{Polynomial}
use Rattle.ring.specs.Table.{present, held, answer_table}
use Rattle.ring.proofs.Length.{total_cong}
use Rattle.ring.proofs.Table.{held-take, held_front, held-answer_table, length-answer_table, bits_tabulate}
use Rattle.tables.specs.Questions.{first_no, has_room, holds_bits, buffer_questions, room_questions, bit_questions}
use Rattle.tables.specs.Answered.{accepted, after, call}
use Rattle.tables.proofs.Answered.{reply_accepted}
use Rattle.tables.proofs.Bits.{bits_are}
use Rattle.tables.proofs.FirstNo.{each_yes, none_no}
use Rattle.tables.proofs.Questions.{room_enough}
use Rattle.solution.specs.Substitution.{Substitution}
use Rattle.solution.specs.Condition.{polynomial}
use Rattle.solution.specs.Order.{lent_condition}
use Rattle.solution.specs.Elimination.{boole_answers, own_lowenheim, boole_table, lowenheim_table, solvable, solve}
use Rattle.solution.specs.General.{General}
use Rattle.solution.proofs.Order.{fits_order}
use Rattle.solution.proofs.General.{each_other}
use Rattle.solution.proofs.Verdict.{AreBooles, booles_general, owns_general}
use Rattle.solution.proofs.UnderFact.{where_front, general_where}
use Rattle.entry.specs.Held.{records, answer_count}
use Rattle.entry.specs.Entry.{entry}
use Rattle.entry.proofs.Lengths.{entry_total}
use Rattle.calls.specs.Questions.{solving_questions, write_questions, shorter_questions}
use Rattle.calls.specs.Shorter.{shorter_refusal, lowenheim_shorter, takes_lowenheim, part_length, shorter_part}
use Rattle.calls.proofs.Questions.{Posed, solved_exactly}
use Rattle.demands.specs.Handed.{lent_polynomial}
use Rattle.demands.specs.OverTheCalls.{entry_written}
use Rattle.demands.specs.Shorter.{total_in, ShorterOfTwo, booles_table, lowenheims_table, shorter_own, ShorterOfOwn, LengthArchived}

-- ---- any two tables
module _ (U G : ℕ) (boole lowenheim : List ℕ) (z : shorter_refusal U G boole lowenheim ≡ 0) where
  abbrev k : ℕ
  k = U * 2 ^ (U + G)

  -- the table that the part is taken from
  abbrev from : Bool → List ℕ
  from b = cond b lowenheim boole

  part_is : shorter_part U G boole lowenheim ≡ take k (from (lowenheim_shorter U G boole lowenheim))
  unfolding shorter_part part_length takes_lowenheim
  part_is = rw z

  rooms : (has_room k (length boole) ≡ true) × (has_room k (length lowenheim) ≡ true)
  unfolding shorter_refusal shorter_questions buffer_questions room_questions bit_questions
  rooms = let yes_all = each_yes (shorter_questions U G boole lowenheim) z in (yes_all.1.0, yes_all.1.1.0)

  from_size : (b : Bool) → length (take k (from b)) ≡ k
  from_size true = length-take-le k lowenheim (room_enough k (length lowenheim) rooms.1)
  from_size false = length-take-le k boole (room_enough k (length boole) rooms.0)

  -- its polynomials are those of that table
  pub part_held : (j m : ℕ) → j < U → m < 2 ^ (U + G)
      → held (U + G) (shorter_part U G boole lowenheim) j m ≡ held (U + G) (from (lowenheim_shorter U G boole lowenheim)) j m
  part_held j m hj hm = ap (λ (t : List ℕ). held (U + G) t j m) part_is ∙ held-take (U + G) U _ j m hj hm

  part_total : total_in U G (shorter_part U G boole lowenheim) ≡ total_in U G (from (lowenheim_shorter U G boole lowenheim))
  part_total = total_cong U (U + G) _ _ part_held

  least : (b : Bool) → ltb (total_in U G lowenheim) (total_in U G boole) ≡ b
      → (total_in U G (from b) ≤ total_in U G boole) × (total_in U G (from b) ≤ total_in U G lowenheim)
  least true e = let l : total_in U G lowenheim < total_in U G boole = ltb-true _ _ e in (omega arith, omega arith)
  least false e = let l : total_in U G boole ≤ total_in U G lowenheim = ltb-false _ _ e in (omega arith, omega arith)

  pub shorter_of_two : ShorterOfTwo U G boole lowenheim
  unfolding lowenheim_shorter
  shorter_of_two =
      let l = least (lowenheim_shorter U G boole lowenheim) refl in
      record {
        size = ap length part_is ∙ from_size (lowenheim_shorter U G boole lowenheim);
        lowenheims = λ h. part_is ∙ rw (lt-ltb (total_in U G lowenheim) (total_in U G boole) h);
        booles = λ h. part_is ∙ rw (le-ltb (total_in U G lowenheim) (total_in U G boole) h);
        at_most_boole = omega (arith, part_total, l.0);
        at_most_lowenheim = omega (arith, part_total, l.1);
      }

-- ---- the engine's own answers
-- an answer table at the front of a buffer: it has room, its bytes are 0 or 1, and its total is that of its polynomials
module _ (U G : ℕ) (a : Substitution) (rest : List ℕ) where
  abbrev made : List ℕ
  made = answer_table U (U + G) a

  front_room : has_room (U * 2 ^ (U + G)) (length (made ++ rest)) ≡ true
  unfolding has_room
  front_room =
      let long : U * 2 ^ (U + G) ≤ length (made ++ rest) = omega (arith, length-append made rest, length-answer_table U (U + G) a) in
      le-leb _ _ long

  front_bits : holds_bits (U * 2 ^ (U + G)) (made ++ rest) ≡ true
  unfolding holds_bits answer_table
  front_bits =
      rw (take_at made rest (U * 2 ^ (U + G)) (length-answer_table U (U + G) a)) (bits_are made (bits_tabulate (U * 2 ^ (U + G)) _))

  front_total : total_in U G made ≡ total_in U G (made ++ rest)
  front_total =
      total_cong U (U + G) _ _ (λ j m hj hm. held-answer_table U (U + G) a j m hj hm ∙ sym (held_front U (U + G) a rest j m hj hm))

module _ (U G : ℕ) (order fact condition answers answers₂ : List ℕ)
    (z : first_no (solving_questions U G order fact condition (length answers)) ≡ 0)
    (z₂ : first_no (solving_questions U G order fact condition (length answers₂)) ≡ 0) where
  abbrev front : Polynomial
  front = polynomial (lent_condition U G order fact condition)

  front_is : front ≡ lent_polynomial U G fact condition
  front_is = ap present (where_front (U + G) condition fact)

  posed : Posed U G order fact condition (length answers)
  posed = ((solved_exactly U G order fact condition (length answers)).0 z).0

  has_solution : solvable (U + G) front (take U order) ≡ true
  has_solution = ((solved_exactly U G order fact condition (length answers)).0 z).1

  abbrev booles : Substitution
  booles = boole_answers (U + G) front (take U order)

  abbrev owns : Substitution
  owns = own_lowenheim U G (take U order) front

  -- what the buffers hold
  boole_is : booles_table U G order fact condition answers
      ≡ answer_table U (U + G) booles ++ drop (length (answer_table U (U + G) booles)) answers
  unfolding call after boole_table
  boole_is = rw z

  lowenheim-is : lowenheims_table U G order fact condition answers₂
      ≡ answer_table U (U + G) owns ++ drop (length (answer_table U (U + G) owns)) answers₂
  unfolding call after lowenheim_table
  lowenheim-is = rw z₂

  boole_held : (j m : ℕ) → j < U → m < 2 ^ (U + G) → held (U + G) (booles_table U G order fact condition answers) j m ≡ booles j m
  boole_held j m hj hm = ap (λ (t : List ℕ). held (U + G) t j m) boole_is ∙ held_front U (U + G) booles _ j m hj hm

  lowenheim-held : (j m : ℕ) → j < U → m < 2 ^ (U + G) → held (U + G) (lowenheims_table U G order fact condition answers₂) j m ≡ owns j m
  lowenheim-held j m hj hm = ap (λ (t : List ℕ). held (U + G) t j m) lowenheim-is ∙ held_front U (U + G) owns _ j m hj hm

  not_refused : shorter_refusal U G (booles_table U G order fact condition answers) (lowenheims_table U G order fact condition answers₂) ≡ 0
  unfolding shorter_refusal shorter_questions buffer_questions room_questions bit_questions
  not_refused =
      rw (boole_is, lowenheim-is)
      (none_no
      (shorter_questions U G (answer_table U (U + G) booles ++ drop (length (answer_table U (U + G) booles)) answers)
      (answer_table U (U + G) owns ++ drop (length (answer_table U (U + G) owns)) answers₂)) (
        posed.letters,
        (front_room U G booles _, (front_room U G owns _, (front_bits U G booles _, (front_bits U G owns _, tt)))),
      ))

  -- answers that are those of one table or of the other are a general solution
  either : (b : Bool) (a : Substitution)
      → ((j m : ℕ) → j < U → m < 2 ^ (U + G)
      → a j m ≡ held (U + G) (cond b (lowenheims_table U G order fact condition answers₂) (booles_table U G order fact condition answers)) j m)
      → General U G front a
  unfolding AreBooles
  either true a same =
      owns_general U G (take U order) (fits_order U order posed.of_order) front has_solution a
      (λ j m hj hm. same j m hj hm ∙ lowenheim-held j m hj hm)
  either false a same =
      booles_general U G (take U order) (fits_order U order posed.of_order) front has_solution a
      (λ j m hj hm. same j m hj hm ∙ boole_held j m hj hm)

  part_general : General U G front (held (U + G) (shorter_own U G order fact condition answers answers₂))
  part_general =
      either (lowenheim_shorter U G (booles_table U G order fact condition answers) (lowenheims_table U G order fact condition answers₂)) _
      (part_held U G (booles_table U G order fact condition answers) (lowenheims_table U G order fact condition answers₂) not_refused)

  lent_general : General U G (lent_polynomial U G fact condition) (held (U + G) (shorter_own U G order fact condition answers answers₂))
  lent_general =
      subst (λ (f : Polynomial). General U G f (held (U + G) (shorter_own U G order fact condition answers answers₂))) front_is part_general

  pub shorter_of_own : ShorterOfOwn U G order fact condition answers answers₂
  unfolding call boole_table lowenheim_table
  shorter_of_own =
      record {
        not_refused = not_refused;
        boole_gave = sym (reply_accepted (solving_questions U G order fact condition (length answers)) _ z)
            ∙ ap (λ (x : ℕ). accepted (x ∷ [])) (front_total U G booles _ ∙ ap (total_in U G) (sym boole_is));
        lowenheim_gave = sym (reply_accepted (solving_questions U G order fact condition (length answers₂)) _ z₂)
            ∙ ap (λ (x : ℕ). accepted (x ∷ [])) (front_total U G owns _ ∙ ap (total_in U G) (sym lowenheim-is));
        general = lent_general;
        general_where = (general_where U G condition fact posed.of_fact.givens _).0 lent_general;
        each_other_boole = each_other U G front _ _ (either false _ (λ j m hj hm. refl)) part_general;
        each_other_lowenheim = each_other U G front _ _ (either true _ (λ j m hj hm. refl)) part_general;
      }

-- ---- the entry
module _ (route U G : ℕ) (order fact condition answers out : List ℕ)
    (z : first_no (solving_questions U G order fact condition (length answers)) ≡ 0)
    (w : first_no (write_questions route U G order fact condition (length out)) ≡ 0) where
  entry-is : entry_written route U G order fact condition out
      ≡ entry route (lent_condition U G order fact condition) ++ drop (length (entry route (lent_condition U G order fact condition))) out
  unfolding call after
  entry-is = rw w

  pub length_archived : LengthArchived route U G order fact condition answers out
  unfolding call solve
  length_archived =
      let has = ((solved_exactly U G order fact condition (length answers)).0 z).1 in
      record {
        kind_3 = sym (reply_accepted (solving_questions U G order fact condition (length answers)) _ z)
            ∙ ap (λ (x : ℕ). accepted (x ∷ []))
            (sym (ap (λ (e : List ℕ). answer_count (records e)) entry-is
            ∙ entry_total route (lent_condition U G order fact condition) (boole_table (lent_condition U G order fact condition)) _ (rw has)));
      }
