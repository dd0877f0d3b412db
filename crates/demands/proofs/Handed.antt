-- A designer's own circuit, over the calls. Where 1, 4, 8, 22 and 23 are answered yes the first no is that to 21, which is exact (`handed_exactly`);
-- what it accepts stands at the front of the answer buffer, as Boole's answers do in theirs, and two general solutions are instances of each
-- other.
-- Assumes nothing.
use mathlib.Core.Path.{◌≡◌, sym, ap, ◌∙◌}
use mathlib.Core.Bool.{Bool, true, false, not}
use mathlib.Core.Logic.{◌↔◌}
use mathlib.Core.List.{List, [], ◌∷◌, ◌++◌}
use Prim.Native.Nat.{ℕ, ◌+◌, ◌*◌, ◌^◌, ◌<◌, ◌≤◌}
use lib.ListN.{length, take}
use borrow.Author.Tests.{le-leb, not-true}
use Rattle.ring.specs.Polynomial.{Polynomial, substitute}
use Rattle.ring.specs.Table.{present, held, for_unknowns}
use Rattle.ring.proofs.Every.{every_all, every_of}
use Rattle.ring.proofs.Table.{held_front, empty_exactly}
use Rattle.tables.specs.declared.Question.TheVariants.{Letters, Handed}
use Rattle.tables.specs.Questions.{Asked, asks, first_no, letters_fit, has_room, buffer_questions, room_questions, bit_questions}
use Rattle.tables.specs.Answered.{refused, after, answered, ◌into◌, call}
use Rattle.tables.proofs.FirstNo.{yes_to, yes_counts, EachYes, each_yes, then_further, asked_behind}
use Rattle.tables.proofs.Answered.{call_last_no}
use Rattle.solution.specs.Fact.{has_no_unknown}
use Rattle.solution.specs.Order.{order_fits}
use Rattle.solution.specs.Elimination.{boole_answers, lowenheim, is_zero, handed_solves, boole_table}
use Rattle.solution.specs.General.{General}
use Rattle.solution.proofs.Order.{fits_order}
use Rattle.solution.proofs.Blocked.{no_true}
use Rattle.solution.proofs.General.{each_other}
use Rattle.solution.proofs.Verdict.{AreBooles, booles_general}
use Rattle.solution.proofs.Handed.{handed_exactly, accepted_general, accepted_solvable, none_accepted}
use Rattle.solution.proofs.UnderFact.{where_front, general_where, handed_where}
use Rattle.calls.specs.Questions.{fact_questions, asks_handed, handed_buffers, solving_questions, handed_questions}
use Rattle.calls.specs.Operations.{substitute_table}
use Rattle.calls.specs.Solving.{handed_table, handed_call}
use Rattle.calls.proofs.Questions.{solved_exactly, none_said}
use Rattle.demands.specs.Handed.{handed_answers, booles_answers, lent_polynomial, HandedAccepted, HandedTested}

module _ (U G : ℕ) (fact condition handed : List ℕ) where
  -- what 21 asks
  abbrev solves : Bool
  solves = handed_solves U G (lent_polynomial U G fact condition) (held (U + G) handed)

  -- what Boole's method solves: the parts of the buffers that count
  abbrev front : Polynomial
  front = lent_polynomial U G (take (2 ^ (U + G)) fact) (take (2 ^ (U + G)) condition)

  front_is : front ≡ lent_polynomial U G fact condition
  front_is =
      ap present (where_front (U + G) condition fact)

  -- the test is the same on it
  solves_front : handed_solves U G front (held (U + G) handed) ≡ solves
  solves_front = ap (λ (f : Polynomial). handed_solves U G f (held (U + G) handed)) front_is

  -- Boole's answers, in whatever order, are a general solution of it
  booles_too : (order answers : List ℕ) → first_no (solving_questions U G order fact condition (length answers)) ≡ 0
      → General U G front (booles_answers U G order fact condition answers)
  unfolding call after boole_table AreBooles
  booles_too order answers z =
      let said = (solved_exactly U G order fact condition (length answers)).0 z in
      booles_general U G (take U order) (fits_order U order said.0.of_order) front said.1 _
      (λ j m hj hm. rw z (held_front U (U + G) (boole_answers (U + G) front (take U order)) _ j m hj hm))

  -- ---- accepted
  module _ (answers : List ℕ) (z : first_no (handed_questions U G fact condition handed (length answers)) ≡ 0) where
    all_yes : EachYes (handed_questions U G fact condition handed (length answers))
    all_yes = each_yes (handed_questions U G fact condition handed (length answers)) z

    solves_yes : solves ≡ true
    unfolding handed_questions buffer_questions room_questions bit_questions fact_questions
    solves_yes = all_yes.1.1.1.1.1.1.1.1.1.1.0

    has_givens : has_no_unknown U (U + G) (present fact) ≡ true
    unfolding handed_questions buffer_questions room_questions bit_questions fact_questions
    has_givens = all_yes.1.1.1.1.1.1.1.1.0

    -- the answers are those of the formula
    by_formula : (j m : ℕ) → j < U → m < 2 ^ (U + G)
        → handed_answers U G fact condition handed answers j m ≡ lowenheim (U + G) (lent_polynomial U G fact condition) (held (U + G) handed) j m
    unfolding call after handed_table
    by_formula j m hj hm = rw z (held_front U (U + G) (lowenheim (U + G) (lent_polynomial U G fact condition) (held (U + G) handed)) _ j m hj hm)

    handed_general : General U G (lent_polynomial U G fact condition) (handed_answers U G fact condition handed answers)
    handed_general = accepted_general U G (lent_polynomial U G fact condition) (held (U + G) handed) solves_yes _ by_formula

    boole_solves : (order : List ℕ) (room : ℕ) → order_fits U order ≡ true → U * 2 ^ (U + G) ≤ room
        → first_no (solving_questions U G order fact condition room) ≡ 0
    unfolding handed_questions buffer_questions room_questions bit_questions fact_questions has_room
    boole_solves order room fits long =
        (solved_exactly U G order fact condition room).1 (
          record {
            letters = all_yes.0;
            of_order = fits;
            of_fact = record {
              long = all_yes.1.0;
              bits = all_yes.1.1.1.1.1.0;
              givens = has_givens;
              states = all_yes.1.1.1.1.1.1.1.1.1.0;
            };
            long = all_yes.1.1.0;
            answers_long = le-leb _ _ long;
            bits = all_yes.1.1.1.1.1.1.0;
          },
          accepted_solvable U G front (held (U + G) handed) (take U order) (fits_order U order fits) (solves_front ∙ solves_yes),
        )

    pub accepted : HandedAccepted U G fact condition handed answers
    accepted =
        record {
          general = handed_general;
          general_where = (general_where U G condition fact has_givens _).0 handed_general;
          boole_solves = boole_solves;
          each_other = λ order answers₂ z₂. each_other U G front _ _ (booles_too order answers₂ z₂)
              (rw front_is handed_general);
        }

  -- ---- 1, 4, 8, 22 and 23 are answered yes
  module _ (answers : List ℕ) (letters : letters_fit U G ≡ true)
      (buffers : first_no (buffer_questions (handed_buffers U G fact condition handed (length answers))) ≡ 0)
      (facts : first_no (fact_questions U G fact) ≡ 0) where
    -- the questions before 21
    abbrev before : List Asked
    before =
        asks Letters (letters_fit U G) ∷ (buffer_questions (handed_buffers U G fact condition handed (length answers)) ++ fact_questions U G fact)

    before_yes : first_no before ≡ 0
    before_yes =
        yes_counts Letters (letters_fit U G) [] _ letters
        ∙ then_further (buffer_questions (handed_buffers U G fact condition handed (length answers))) _ buffers ∙ facts

    -- then 21 is all that counts
    by_test : (first_no (handed_questions U G fact condition handed (length answers)) ≡ 0) ↔ (solves ≡ true)
    unfolding handed_questions first_no buffer_questions room_questions bit_questions fact_questions
    by_test = (
      λ z. (yes_to Handed solves [] [] (asked_behind before (asks_handed U G fact condition handed ∷ []) z)).0,
      λ e. then_further before (asks_handed U G fact condition handed ∷ []) before_yes ∙ yes_counts Handed solves [] [] e,
    )

    refused_by : solves ≡ false → handed_call U G fact condition handed answers ≡ answered (refused 21 []) (answers ∷ [])
    unfolding handed_questions buffer_questions room_questions bit_questions fact_questions
    refused_by e = sym (call_last_no before Handed solves [] _ (handed_table U G fact condition handed into answers ∷ []) before_yes e)

    pub tested : HandedTested U G fact condition handed answers
    unfolding handed_solves is_zero substitute_table fact_questions
    tested =
        let within = handed_where U G condition fact (each_yes (fact_questions U G fact) facts).0 (held (U + G) handed) in
        let exact = handed_exactly U G (lent_polynomial U G fact condition) (held (U + G) handed) in
        let empty = empty_exactly (U + G) (substitute (U + G) (U + G) (lent_polynomial U G fact condition) (for_unknowns U (held (U + G) handed))) in
        record {
          accepted_exactly = (λ z. exact.0 (by_test.0 z), λ m. by_test.1 (exact.1 m));
          where_exactly = (λ z. within.0 (by_test.0 z), λ m. by_test.1 (within.1 m));
          empty_exactly = (
            λ z. empty.1 (λ m l. not-true _ (every_all (2 ^ (U + G)) _ (by_test.0 z) m l)),
            λ e. by_test.1 (every_of (2 ^ (U + G)) _ (λ m l. ap not (empty.0 e m l))),
          );
          refused_unchanged = λ n. refused_by (no_true solves (λ e. n (exact.0 e)));
          none_refused = λ order room z.
              let said = none_said U G order fact condition room z in
              refused_by (sym solves_front
              ∙ none_accepted U G front (held (U + G) handed) (take U order) (fits_order U order said.0.of_order) said.1);
        }
