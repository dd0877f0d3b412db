-- Demand 3 under a fact in document 02's own words, from demand 3 of f*(1 + g) by the bridge (`zero_exactly`); that a fact without monomials
-- leaves everything as it was without facts; and that what the fact leaves out plays no part.
-- Assumes nothing.
use mathlib.Core.Path.{◌≡◌, sym, ap, ap₂, ◌∙◌}
use mathlib.Core.Bool.{Bool, true, false}
use mathlib.Core.Logic.{◌↔◌}
use mathlib.Core.List.{List, [], ◌∷◌, ◌++◌}
use Prim.Native.Nat.{ℕ, ◌+◌, ◌*◌, ◌^◌, ◌<◌, ◌≤◌}
use native.Mathlib.Omega.{arith}
use lib.ListN.{length, take}
use lib.Seq.{take_all}
use Rattle.ring.specs.Polynomial.{Polynomial, value}
use Rattle.ring.specs.Table.{IsTable, present, held, answer_table}
use Rattle.tables.specs.declared.Question.TheVariants.{Letters, Room, Bits, Solution, Order, Handed}
use Rattle.tables.specs.Questions.{Asked, asks, asks_giving, letters_fit, has_room, holds_bits, room_questions, bit_questions, buffer_questions}
use Rattle.tables.proofs.Bits.{bits_are}
use Rattle.order.proofs.Order.{monomials_none}
use Rattle.solution.specs.Letters.{Letter, HoldsGivens}
use Rattle.solution.specs.Substitution.{Substitution, own_letters}
use Rattle.solution.specs.Fact.{has_no_unknown}
use Rattle.solution.specs.Condition.{Condition, width, polynomial, table_where_zero}
use Rattle.solution.specs.Order.{order_fits}
use Rattle.solution.specs.Elimination.{boole_answers, particular, lowenheim, own_lowenheim, smallest_blocked, handed_solves, solvable}
use Rattle.solution.specs.Elimination.{boole_table, particular_table, lowenheim_table, solve}
use Rattle.solution.specs.General.{Solves, RightVerdict}
use Rattle.solution.specs.UnderFact.{SolvesWhere}
use Rattle.solution.proofs.Letters.{own_holds}
use Rattle.solution.proofs.UnderFact.{without_fact, same_where, where_front, zero_exactly, right_where}
use Rattle.entry.specs.Held.{records, answers_in, says}
use Rattle.entry.specs.Entry.{order_records, fact_records, condition_records, entry_records, entry}
use Rattle.calls.specs.Questions.{fact_questions, solving_questions, handed_questions}
use Rattle.calls.specs.Counted.{answers_call}
use Rattle.calls.specs.Solving.{handed_table}
use Rattle.demands.specs.Demand3.{Demand3}
use Rattle.demands.specs.UnderFact.{Demand3Where, SameAnswers, plain_verdict, plain_entry}
use Rattle.demands.proofs.Demand3.{none_said_exactly}

module _ (c : Condition) (e : List ℕ) (givens : has_no_unknown c.U (width c) (present c.fact) ≡ true) (d : Demand3 c e)
    (r : RightVerdict c (says (records e))) where
  bridge : (L : List Letter) → HoldsGivens c.G L → (σ : Substitution) → Solves c L σ ↔ SolvesWhere c L σ
  bridge L l σ = zero_exactly c.U c.G c.table c.fact givens L l σ

  pub demand_where : Demand3Where c e
  demand_where =
      let w = right_where c givens (says (records e)) r in
      record {
        none_exactly = λ L l. (
          λ h σ z. (d.none_on_list L l).0 h σ ((bridge L l σ).1 z),
          λ never-so. (d.none_on_list L l).1 (λ σ z. never-so σ ((bridge L l σ).0 z)),
        );
        none_means = (
          λ h. w.some_state.0 ((none_said_exactly e).0 h),
          λ b. (none_said_exactly e).1 (w.some_state.1 b),
        );
        smallest_state = w.state;
        makes_zero = λ h. (bridge (own_letters c.U c.G) (own_holds c.U c.G) (answers_in (records e))).0 (d.makes_zero h);
        each_makes_zero = λ h L l σ i. (bridge L l σ).0 (d.each_makes_zero h L l σ i);
        every_instance = λ h L l σ z. d.every_instance h L l σ ((bridge L l σ).1 z);
      }

-- ---- a fact without monomials
module _ (c : Condition) (is : IsTable (width c) c.table) (empty : (m : ℕ) → m < 2 ^ width c → present c.fact m ≡ false) where
  -- what is solved is the condition itself, and so is everything that is said of it ..
  pub polynomial_before : polynomial c ≡ present c.table
  polynomial_before = ap present (without_fact (width c) c.table c.fact is empty)

  pub solve_before : solve c ≡ plain_verdict c.U c.G c.order (present c.table)
  unfolding solve boole_table plain_verdict
  solve_before = rw polynomial_before

  -- .. and the entry is the same bytes
  pub entry_before : (route : ℕ) → entry route c ≡ plain_entry route c.U c.G c.order (present c.table)
  unfolding entry entry_records order_records fact_records condition_records plain_entry
  entry_before route = rw (solve_before, monomials_none (width c) (present c.fact) empty)

-- ---- what the fact leaves out
module _ (U G : ℕ) (fact s t : List ℕ) (is-s : IsTable (U + G) s) (is-t : IsTable (U + G) t)
    (agree : (p : ℕ) → p < 2 ^ (U + G) → value (U + G) (present fact) p ≡ false
    → value (U + G) (present s) p ≡ value (U + G) (present t) p) where
  abbrev k : ℕ
  k = 2 ^ (U + G)

  -- both are solved as one table, as far as each buffer is read
  one_table : table_where_zero (U + G) s fact ≡ table_where_zero (U + G) t fact
  one_table = same_where (U + G) s t fact agree

  one_front : table_where_zero (U + G) (take k s) (take k fact) ≡ table_where_zero (U + G) (take k t) (take k fact)
  one_front = where_front (U + G) s fact ∙ one_table ∙ sym (where_front (U + G) t fact)

  same_room : has_room k (length s) ≡ has_room k (length t)
  same_room = rw (is-s.size, is-t.size)

  same_bits : holds_bits k s ≡ holds_bits k t
  unfolding holds_bits
  same_bits = rw (take_all k s (le_of is-s.size), take_all k t (le_of is-t.size)) (bits_are s is-s.bits ∙ sym (bits_are t is-t.bits))
    where
      le_of : {a b : ℕ} → a ≡ b → a ≤ b
      le_of e = omega arith

  -- the questions of a solving call, by what they ask of the condition
  solving : List ℕ → ℕ → Bool → Bool → List ℕ → List Asked
  solving order room long bits p =
      asks Letters (letters_fit U G)
      ∷ asks Order (order_fits U order)
      ∷ asks Room (has_room k (length fact))
      ∷ asks Room long
      ∷ asks Room (has_room (U * k) room)
      ∷ asks Bits (holds_bits k fact)
      ∷ asks Bits bits
      ∷ (fact_questions U G fact
      ++ (asks_giving Solution (solvable (U + G) (present p) (take U order)) ((smallest_blocked U G (present p)).0 ∷ []) ∷ []))

  same_solving : (order : List ℕ) (room : ℕ) → solving_questions U G order fact s room ≡ solving_questions U G order fact t room
  unfolding solving solving_questions buffer_questions room_questions bit_questions
  same_solving order room =
      ap (λ (b : Bool). solving order room b (holds_bits k s) (table_where_zero (U + G) (take k s) (take k fact))) same_room
      ∙ ap (λ (b : Bool). solving order room (has_room k (length t)) b (table_where_zero (U + G) (take k s) (take k fact))) same_bits
      ∙ ap (solving order room (has_room k (length t)) (holds_bits k t)) one_front

  -- and of the handed form
  handing : List ℕ → ℕ → Bool → Bool → List ℕ → List Asked
  handing b room long bits p =
      asks Letters (letters_fit U G)
      ∷ asks Room (has_room k (length fact))
      ∷ asks Room long
      ∷ asks Room (has_room (U * k) (length b))
      ∷ asks Room (has_room (U * k) room)
      ∷ asks Bits (holds_bits k fact)
      ∷ asks Bits bits
      ∷ asks Bits (holds_bits (U * k) b)
      ∷ (fact_questions U G fact ++ (asks Handed (handed_solves U G (present p) (held (U + G) b)) ∷ []))

  same_handed : (b : List ℕ) (room : ℕ) → handed_questions U G fact s b room ≡ handed_questions U G fact t b room
  unfolding handing handed_questions buffer_questions room_questions bit_questions
  same_handed b room =
      ap (λ (x : Bool). handing b room x (holds_bits k s) (table_where_zero (U + G) s fact)) same_room
      ∙ ap (λ (x : Bool). handing b room (has_room k (length t)) x (table_where_zero (U + G) s fact)) same_bits
      ∙ ap (handing b room (has_room k (length t)) (holds_bits k t)) one_table

  -- the same questions, and the same answers
  same_call : {qs ps : List Asked} {a b : List ℕ} (answers : List ℕ) → qs ≡ ps → a ≡ b
      → answers_call U (U + G) qs a answers ≡ answers_call U (U + G) ps b answers
  same_call answers same_asked same-made = ap₂ (λ (qs : List Asked) (a : List ℕ). answers_call U (U + G) qs a answers) same_asked same-made

  solving_same : (made : Polynomial → Substitution) (order answers : List ℕ)
      → answers_call U (U + G) (solving_questions U G order fact s (length answers))
      (answer_table U (U + G) (made (present (table_where_zero (U + G) (take k s) (take k fact))))) answers
      ≡ answers_call U (U + G) (solving_questions U G order fact t (length answers))
      (answer_table U (U + G) (made (present (table_where_zero (U + G) (take k t) (take k fact))))) answers
  solving_same made order answers =
      same_call answers (same_solving order (length answers)) (ap (λ (p : List ℕ). answer_table U (U + G) (made (present p))) one_front)

  -- conditions that differ only where g is 1 have the same answers, by every call
  pub left_out : SameAnswers U G fact s t
  unfolding boole_table particular_table lowenheim_table handed_table
  left_out =
      record {
        boole = λ order answers. solving_same (λ p. boole_answers (U + G) p (take U order)) order answers;
        particular = λ order answers. solving_same (particular U G (take U order)) order answers;
        lowenheim = λ order answers. solving_same (own_lowenheim U G (take U order)) order answers;
        handed = λ b answers. same_call answers (same_handed b (length answers))
            (ap (λ (p : List ℕ). answer_table U (U + G) (lowenheim (U + G) (present p) (held (U + G) b))) one_table);
      }
