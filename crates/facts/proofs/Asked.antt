-- Questions 22 and 23 as the code answers them.
-- With no unknown in g, its value at a point is that in the point's state, so that 23 is answered yes exactly if g is 0 at some point.
-- Assumes nothing.
use mathlib.Core.Path.{◌≡◌, refl, sym, ap, ◌∙◌}
use mathlib.Core.Bool.{Bool, true, false, not}
use mathlib.Core.List.{List, [], ◌∷◌, ◌++◌}
use Prim.Native.Nat.{ℕ, ◌+◌, ◌*◌, ◌^◌, ◌≤◌, ◌<◌}
use native.Mathlib.Omega.{arith}
use lib.Pow.{pow_pos}
use lib.ListN.{length, take}
use lib.Dec.{ltb}
use borrow.Author.Tests.{not-true, ltb-true, ltb-false}
use Rattle.ring.specs.Letters.{point}
use Rattle.ring.specs.Polynomial.{value}
use Rattle.ring.specs.Table.{present}
use Rattle.ring.proofs.Bool.{never}
use Rattle.ring.proofs.Every.{every_all, every_of}
use Rattle.ring.proofs.Points.{parts, point_lt}
use Rattle.tables.specs.declared.Question.TheVariants.{FactGivens, FactState}
use Rattle.tables.specs.Questions.{Asked, asks, first_no}
use Rattle.tables.specs.Inner.Passed.{NoneNo, IsFirstNo}
use Rattle.tables.specs.Answered.{refused, answered, Buffer, call}
use Rattle.tables.proofs.FirstNo.{no_to, yes_counts, none_no}
use Rattle.tables.proofs.Answered.{as_lent, call_stops}
use Rattle.words.specs.Inner.Words.{bit_at, First}
use Rattle.words.proofs.Letters.{room}
use Rattle.words.proofs.Words.{at_known, size_words}
use Rattle.solution.specs.Fact.{has_no_unknown, value_in_state, some_state_counts}
use Rattle.solution.specs.Elimination.{is_zero}
use Rattle.solution.proofs.Blocked.{zero_values, no_true}
use Rattle.solution.proofs.UnderFact.{some_state_counts_lem, fact_in_lem}
use Rattle.calls.specs.Questions.{fact_questions}
use Rattle.calls.proofs.Questions.{front_givens, front_states}
use Rattle.facts.specs.Inner.Kept.{kept_words}

module _ (u g n : ℕ) (t : List ℕ) (en : n ≡ u + g) where
  -- the fact 0 has no unknown, and is 0 in every state
  pub zero_fact : is_zero n (present t) ≡ true → NoneNo (fact_questions u g t)
  unfolding fact_questions is_zero has_no_unknown value_in_state
  zero_fact zero =
      let z : is_zero (u + g) (present t) ≡ true = rw (← en) zero in
      none_no (fact_questions u g t) (
        every_of (2 ^ (u + g)) _ (λ m l. rw (not-true (present t m) (every_all (2 ^ (u + g)) (λ m. not (present t m)) z m l))),
        ((some_state_counts_lem u g (present t)).1 (record { 0 = 0 }, pow_pos g, zero_values (u + g) (present t) _ z), tt),
      )

  -- 22 is answered no
  pub letters_no : {said : Bool} → said ≡ has_no_unknown u n (present t) → said ≡ false → IsFirstNo (fact_questions u g t) FactGivens
  unfolding fact_questions
  letters_no es no-said =
      let no_unknown : has_no_unknown u (u + g) (present t) ≡ false = rw (← en) (sym es ∙ no-said) in
      sym (no_to FactGivens _ [] _ no_unknown)

  -- 22 is answered yes, and `kept` is looked through for a point that counts
  module _ {said : Bool} (kept : List ℕ) (r end : ℕ) (es : said ≡ has_no_unknown u n (present t)) (yes-said : said ≡ true)
      (ek : kept ≡ kept_words n t) (first : First (64 * length kept) (bit_at kept) r) (ee : end ≡ 2 ^ n) where
    no_unknown : has_no_unknown u (u + g) (present t) ≡ true
    no_unknown = rw (← en) (sym es ∙ yes-said)

    words_kept : kept ≡ kept_words (u + g) t
    words_kept = rw (← en) ek

    to_end : end ≡ 2 ^ (u + g)
    to_end = rw (← en) ee

    kept_at : (p : ℕ) → p < 2 ^ (u + g) → bit_at kept p ≡ not (value (u + g) (present t) p)
    kept_at p l = at_known _ _ kept words_kept p (omega (arith, room (u + g)))

    behind : first_no (fact_questions u g t) ≡ first_no (asks FactState (some_state_counts u g (present t)) ∷ [])
    unfolding fact_questions
    behind = yes_counts FactGivens _ [] _ no_unknown

    pub states_yes : ltb r end ≡ true → NoneNo (fact_questions u g t)
    states_yes yes-below =
        let below : r < end = ltb-true _ _ yes-below in
        let inside : r < 2 ^ (u + g) = omega (arith, to_end) in
        let at = parts u g r inside in
        let zero_there : value (u + g) (present t) (point u at.state at.choice) ≡ false =
        rw at.whole (not-true _ (sym (kept_at r inside) ∙ first.one (omega (arith, room (u + g), size_words _ _ kept words_kept)))) in
        behind ∙ none_no _ (
          (some_state_counts_lem u g (present t)).1
              (at.state, at.state_fits, sym (fact_in_lem u g t t no_unknown at.state at.choice at.choice_fits) ∙ zero_there),
          tt,
        )

    pub states_no : ltb r end ≡ false → IsFirstNo (fact_questions u g t) FactState
    unfolding value_in_state
    states_no no-below =
        let beyond : end ≤ r = ltb-false _ _ no-below in
        sym (behind ∙ no_to FactState _ [] [] (no_true (some_state_counts u g (present t)) (λ counted.
        let s = (some_state_counts_lem u g (present t)).0 counted in
        let inside = point_lt u g s.0 (record { 0 = 0 }) s.1 (pow_pos u) in
        never (kept_at _ inside ∙ ap not s.2) (first.zeros _ (omega (arith, to_end))))))

-- the questions turn on the table alone, and not on what stands behind it
pub fact_front : (u g : ℕ) (t : List ℕ) → fact_questions u g (take (2 ^ (u + g)) t) ≡ fact_questions u g t
unfolding fact_questions
fact_front u g t = rw (front_givens u g t, front_states u g t)

-- a no to one of them, in front of further questions: nothing has changed
pub fact_stops : (u g : ℕ) (t : List ℕ) (further : List Asked) (values : List ℕ) (buffers : List Buffer) (found : ℕ)
    → found ≡ first_no (fact_questions u g t) → (found ≡ 0 → ⊥)
    → answered (refused found []) (as_lent buffers) ≡ call (fact_questions u g t ++ further) values buffers
unfolding fact_questions
fact_stops u g t further values buffers found e n = call_stops (fact_questions u g t) further values buffers found refl e n
