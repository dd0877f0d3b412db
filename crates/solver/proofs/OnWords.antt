-- The verdict that elimination on words comes to is that of the polynomials, for any order; and what it says of the bytes' verdict.
-- Assumes nothing.
use mathlib.Core.Path.{◌≡◌, refl, sym, ap, ◌∙◌}
use mathlib.Core.Bool.{Bool, true, false, cond}
use mathlib.Core.List.{List, [], ◌∷◌, ◌++◌}
use Prim.Native.Nat.{ℕ, ◌+◌, ◌-◌, ◌*◌, ◌^◌, ◌≤◌, ◌<◌}
use native.Mathlib.Omega.{arith}
use lib.Pow.{pow_pos}
use lib.ListN.{length}
use Rattle.ring.specs.declared.State.{State}
use Rattle.ring.specs.Letters.{bit}
use Rattle.ring.specs.Polynomial.{Polynomial, value}
use Rattle.ring.specs.Table.{held}
use Rattle.ring.specs.Length.{total_count}
use Rattle.ring.proofs.Table.{length-answer_table}
use Rattle.tables.specs.declared.Question.TheVariants.{Solution}
use Rattle.tables.specs.declared.Question.{Question}
use Rattle.tables.specs.Questions.{number}
use Rattle.tables.specs.Answered.{accepted, refused, answered, ◌into◌}
use Rattle.tables.specs.Inner.Passed.{NoneNo, IsFirstNo}
use Rattle.tables.proofs.FirstNo.{number_some, none_no, then_further}
use Rattle.tables.proofs.Answered.{call_last_no, call_whole}
use Rattle.words.specs.Inner.Words.{bit_at, answer_words}
use Rattle.words.proofs.Letters.{room, points}
use Rattle.words.proofs.Words.{at_known}
use Rattle.solution.specs.Condition.{Condition, width, polynomial, IsOrder}
use Rattle.solution.specs.Elimination.{remains, smallest_below, blocked, smallest_blocked, solvable, solve, solved, none}
use Rattle.solution.specs.Elimination.{boole_table, particular_table, lowenheim_table}
use Rattle.solution.specs.Inner.ByPoints.{remains_through, answered_through}
use Rattle.solution.proofs.General.{in_order, remains-values}
use Rattle.solution.proofs.Blocked.{zero_values, blocked-remains, remains-blocked, is-blocked}
use Rattle.solution.proofs.Smallest.{smallest_cong, smallest_is, smallest_none}
use Rattle.elimination.specs.Inner.Stages.{InLetters}
use Rattle.elimination.proofs.AnyOrder.{Agree, remains_agree, answered_agree}
use Rattle.elimination.proofs.Beyond.{value_answers_all}
use Rattle.elimination.proofs.Slots.{answers_cong}
use Rattle.elimination.proofs.States.{state_room}
use Rattle.facts.proofs.Asked.{fact_stops}
use Rattle.calls.specs.declared.Verdict.{Verdict}
use Rattle.calls.specs.declared.Verdict.TheVariants.{Solved, None}
use Rattle.calls.specs.declared.Unsolved.TheVariants as unsolved-variants
use Rattle.calls.specs.Questions.{fact_questions, asks_solution}
use Rattle.calls.specs.Solving.{solving}
use Rattle.facts.specs.Inner.Kept.{where_words}
use Rattle.solver.specs.declared.ordered.OrderedLetters.{OrderedLetters}
use Rattle.std.specs.Prelude.{Ok, Err}
use Rattle.solver.specs.declared.Method.{Method}
use Rattle.solver.specs.declared.Method.TheVariants.{Boole, Particular, Lowenheim}
use Rattle.solver.specs.Inner.Methods.{posed, table_by, solve_by, value_words, boole_words, solve_words, verdict}

module _ (c : Condition) (is : IsOrder c.U c.order) (f : List ℕ) (ef : f ≡ value_words c) where
  abbrev U : ℕ
  U = c.U

  abbrev G : ℕ
  G = c.G

  abbrev n : ℕ
  n = width c

  abbrev o : List ℕ
  o = c.order

  abbrev F : Polynomial
  F = polynomial c

  letters : InLetters n o
  letters = in_order U G F o is

  further_letters : InLetters (6 + (n - 6)) o
  further_letters x h = omega (arith, letters x h)

  holds : Agree (6 + (n - 6)) (bit_at f) (value n F)
  holds p l = at_known (2 ^ (n - 6)) (value n F) f ef p (omega (arith, points n))

  -- the state that the code has found is the smallest blocked one
  state_is : (r : ℕ) → r ≡ smallest_below (2 ^ G) (λ s. remains_through (bit_at f) o (s * 2 ^ U))
      → r ≡ smallest_below (2 ^ G) (λ s. blocked U G F (record { 0 = s }))
  state_is r e =
      e ∙ smallest_cong (2 ^ G) _ _ (λ s l.
      remains_agree (6 + (n - 6)) (bit_at f) (value n F) o further_letters holds (s * 2 ^ U)
      (omega (arith, state_room U G s (2 ^ U) l refl, room n, points n))
      ∙ sym (remains-values U G F o is (s * 2 ^ U)) ∙ sym (blocked-remains U G F o is s l))

  module _ (r end : ℕ) (er : r ≡ smallest_below (2 ^ G) (λ s. remains_through (bit_at f) o (s * 2 ^ U))) (ee : end ≡ 2 ^ G) where
    nothing : r < end → solvable n F o ≡ false
    unfolding solvable
    nothing l = go (solvable n F o) refl
      where
        go : (b : Bool) → solvable n F o ≡ b → b ≡ false
        go true z =
            let q : r ≡ 2 ^ G = state_is r er
            ∙ smallest_none (2 ^ G) _ (λ s m. blocked-remains U G F o is s m ∙ zero_values n (remains n F o) (s * 2 ^ U) z) in
            absurd (omega arith)
        go false z = refl

    something : end ≤ r → solvable n F o ≡ true
    something l = go (solvable n F o) refl
      where
        go : (b : Bool) → solvable n F o ≡ b → b ≡ true
        go true z = refl
        go false z =
            let s = remains-blocked U G F o is z in
            let i = smallest_is (2 ^ G) (λ s. blocked U G F (record { 0 = s })) s.0.0 s.1 (is-blocked U G F s.0 s.2) in
            absurd (omega (arith, i.below, state_is r er))

    pub none_said : r < end → none (record { 0 = r }) ≡ solve_words c
    unfolding solve_words smallest_blocked
    none_said l = rw (nothing l) (ap (λ (x : ℕ). none (record { 0 = x })) (state_is r er))

    pub solved_said : (answers : List ℕ) → end ≤ r
        → (2 ^ G ≤ r → answers ≡ answer_words U (2 ^ (n - 6)) (λ x p. bit (answered_through (bit_at f) o p) x)) → solved answers ≡ solve_words c
    unfolding solve_words
    solved_said answers l es =
        rw (something l) (ap solved (es (omega arith) ∙ answers_cong U (2 ^ (n - 6)) _ _ (pow_pos (n - 6)) (λ j p hj hp.
        ap (λ (q : ℕ). bit q j) (answered_agree (6 + (n - 6)) (bit_at f) (value n F) o further_letters holds p (omega (arith, points n)))
        ∙ value_answers_all n F o letters j p (omega arith))))

-- what the verdict by values says ..
module _ (c : Condition) where
  pub solved_is : (ws : List ℕ) → solved ws ≡ solve_words c → (solvable (width c) (polynomial c) c.order ≡ true) × (ws ≡ boole_words c)
  unfolding solve_words
  solved_is ws e = go (solvable (width c) (polynomial c) c.order) e
    where
      go : (b : Bool) → solved ws ≡ cond b (solved (boole_words c)) (none (smallest_blocked c.U c.G (polynomial c)))
          → (b ≡ true) × (ws ≡ boole_words c)
      go true x = (refl, cc)
      go false x = let y : ◌≡◌ {A = ℕ} 0 1 = cc in absurd (omega arith)

  pub none_is : (state : State) → none state ≡ solve_words c
      → (solvable (width c) (polynomial c) c.order ≡ false) × (state ≡ smallest_blocked c.U c.G (polynomial c))
  unfolding solve_words
  none_is state e = go (solvable (width c) (polynomial c) c.order) e
    where
      go : (b : Bool) → none state ≡ cond b (solved (boole_words c)) (none (smallest_blocked c.U c.G (polynomial c)))
          → (b ≡ false) × (state ≡ smallest_blocked c.U c.G (polynomial c))
      go true x = let y : ◌≡◌ {A = ℕ} 0 1 = cc in absurd (omega arith)
      go false x = (refl, cc)

  -- .. of the verdict by bytes
  pub solved_by_values : (ws : List ℕ) → solved ws ≡ solve_words c → (solve c ≡ solved (boole_table c)) × (ws ≡ boole_words c)
  unfolding solve
  solved_by_values ws e = let r = solved_is ws e in (rw r.0, r.1)

  pub none_by_values : (state : State) → none state ≡ solve_words c → solve c ≡ none state
  unfolding solve
  none_by_values state e = let r = none_is state e in rw (r.0, r.1)

-- .. and of solving by a method
pub length-table_by : (method : Method) (c : Condition) → length (table_by method c) ≡ c.U * 2 ^ width c
unfolding boole_table particular_table lowenheim_table
length-table_by Boole c = length-answer_table c.U (width c) _
length-table_by Particular c = length-answer_table c.U (width c) _
length-table_by Lowenheim c = length-answer_table c.U (width c) _

-- as the code comes to it: a no to 22 or 23 ..
module _ (method : Method) (o : OrderedLetters) (fact t lent : List ℕ) where
  abbrev posed_is : Condition
  posed_is = posed o fact t

  abbrev u : ℕ
  u = o.letters.unknowns

  abbrev g : ℕ
  g = o.letters.givens

  pub fact_refused : (question : Question) → IsFirstNo (fact_questions o.letters.unknowns o.letters.givens fact) question
      → answered (refused (number question) []) (lent ∷ []) ≡ solve_by method (posed o fact t) lent
  unfolding solve_by
  fact_refused question found =
      fact_stops u g fact (asks_solution posed_is ∷ []) _ (table_by method posed_is into lent ∷ []) (number question) found (number_some question)

  -- .. or a verdict, from a copy of the condition's values
  module _ (asked : NoneNo (fact_questions o.letters.unknowns o.letters.givens fact)) (v : Verdict) (ws : List ℕ) {values used : List ℕ}
      (copied : used ≡ values) (where_zero : values ≡ where_words o.letters.n t fact)
      (said : used ≡ value_words (posed o fact t) → verdict v ws ≡ solve_words (posed o fact t)) where
    taken : values ≡ value_words posed_is
    taken = rw o.letters.n_is at where_zero

    pub none_by : {state : State} → v ≡ None state
        → answered (solving (Err (unsolved-variants.None state))) (lent ∷ []) ≡ solve_by method (posed o fact t) lent
    unfolding solve_by
    none_by {state} told =
        let r = none_is posed_is state (rw told at (said (copied ∙ taken))) in
        rw r.1
        (call_last_no (fact_questions u g fact) Solution (solvable (u + g) (polynomial posed_is) posed_is.order) _ _
        (table_by method posed_is into lent ∷ []) asked r.0)

    pub solved_by : {answers : List ℕ} {total : ℕ} → v ≡ Solved
        → (values ≡ value_words (posed o fact t) → ws ≡ boole_words (posed o fact t) → answers ≡ table_by method (posed o fact t))
        → total ≡ total_count o.letters.unknowns o.letters.n (held o.letters.n answers) → length lent ≡ o.letters.unknowns * 2 ^ o.letters.n
        → answered (solving (Ok total)) (answers ∷ []) ≡ solve_by method (posed o fact t) lent
    unfolding solve_by
    solved_by {answers} told written counted size =
        let r = solved_is posed_is ws (rw told at (said (copied ∙ taken))) in
        let made : answers ≡ table_by method posed_is = written taken r.1 in
        ap (λ (x : ℕ). answered (accepted (x ∷ [])) (answers ∷ []))
        (rw o.letters.n_is at counted ∙ ap (λ (t : List ℕ). total_count u (u + g) (held (u + g) t)) made)
        ∙ call_whole (fact_questions u g fact ++ (asks_solution posed_is ∷ [])) _ (table_by method posed_is) lent answers
        (then_further (fact_questions u g fact) (asks_solution posed_is ∷ []) asked ∙ none_no (asks_solution posed_is ∷ []) (r.0, tt))
        made (rw o.letters.n_is at size ∙ sym (length-table_by method posed_is))
