-- The questions of a line as the code asks them: 1, 2, then those of the text, by way of reading it, then 15; and what follows for the
-- answer.
-- Assumes nothing.
use mathlib.Core.Path.{◌≡◌, refl, sym, ◌∙◌}
use mathlib.Core.Bool.{true, false}
use mathlib.Core.List.{List, [], ◌∷◌, ◌++◌}
use Prim.Native.Nat.{ℕ, zero, suc}
use lib.Dec.{ltb}
use Rattle.tables.specs.declared.Question.{Question}
use Rattle.tables.specs.declared.Question.TheVariants.{Letters, Route, TextLength, Rising}
use Rattle.tables.specs.Inner.Put.{Put}
use Rattle.tables.specs.Questions.{Asked, asks, number, first_no, letters_fit}
use Rattle.tables.proofs.FirstNo.{number_some, no_to, yes_to, yes_counts, none_no, first_counts, then_further}
use Rattle.grammar.specs.Text.{text_table}
use Rattle.calls.specs.Questions.{has_text_length}
use Rattle.notation.specs.Inner.Work.{symbol_questions, values_refusal}
use Rattle.solution.specs.Condition.{condition_of}
use Rattle.entry.specs.Entry.{archived_records}
use Rattle.entry.specs.Questions.{route_fits}
use Rattle.printing.specs.Print.{record_lines, refused_line}
use Rattle.sheet_lines.specs.declared.Line.{Line}
use Rattle.sheet_lines.specs.Sheet.{line_questions, line_refusal, answer_lines, route_behind}
use Rattle.sheet_lines.specs.Inner.Feeding.{Answers}

-- ---- the first no of a line
module _ (last route U G : ℕ) (text : List ℕ) where
  pub refused_letters : letters_fit U G ≡ false → number Letters ≡ line_refusal last route U G text
  unfolding line_refusal line_questions
  refused_letters e = sym (no_to Letters (letters_fit U G) [] _ e)

  -- those of the text, and 15 behind them
  abbrev text_asked : List Asked
  text_asked = asks TextLength (has_text_length text) ∷ symbol_questions U G text

  abbrev rising_asked : List Asked
  rising_asked = asks Rising (ltb last route) ∷ []

  module _ (l : letters_fit U G ≡ true) where
    behind_letters : line_refusal last route U G text ≡ first_no (asks Route (route_fits route) ∷ (text_asked ++ rising_asked))
    unfolding line_refusal line_questions symbol_questions
    behind_letters = yes_counts Letters (letters_fit U G) [] _ l

    pub refused_route : route_fits route ≡ false → number Route ≡ line_refusal last route U G text
    refused_route e = sym (behind_letters ∙ no_to Route (route_fits route) [] (text_asked ++ rising_asked) e)

    module _ (r : route_fits route ≡ true) where
      behind_route : line_refusal last route U G text ≡ first_no (text_asked ++ rising_asked)
      behind_route = behind_letters ∙ yes_counts Route (route_fits route) [] (text_asked ++ rising_asked) r

      pub refused_text : (question : Question) → number question ≡ values_refusal U G text
          → number question ≡ line_refusal last route U G text
      unfolding values_refusal
      refused_text question e =
          e ∙ sym (behind_route ∙ first_counts text_asked rising_asked (λ z. number_some question (e ∙ z)))

      module _ (none : values_refusal U G text ≡ 0) where
        behind_text : line_refusal last route U G text ≡ first_no rising_asked
        unfolding values_refusal
        behind_text = behind_route ∙ then_further text_asked rising_asked none

        pub refused_rising : ltb last route ≡ false → number Rising ≡ line_refusal last route U G text
        refused_rising e = sym (behind_text ∙ no_to Rising (ltb last route) [] [] e)

        pub passes : ltb last route ≡ true → line_refusal last route U G text ≡ 0
        passes e = behind_text ∙ none_no rising_asked (e, tt)

  -- what no refusal tells
  pub route_passes : line_refusal last route U G text ≡ 0 → route_fits route ≡ true
  unfolding line_refusal line_questions
  route_passes z =
      let behind = yes_to Letters (letters_fit U G) [] _ z in
      (yes_to Route (route_fits route) [] _ behind.1).0

-- ---- the answer
module _ (last : ℕ) (l : Line) (text out : List ℕ) (at : ℕ) {number : ℕ} (e : number ≡ line_refusal last l.route l.unknowns l.givens text)
    {next : ℕ} {new : List ℕ} where
  pub answers_refused : (number ≡ 0 → ⊥) → Put out at (refused_line number []) next new
      → Answers last l text out at (record { last = last; next = next }) new
  unfolding answer_lines route_behind
  answers_refused n p = go number n e p
    where
      go : (x : ℕ) → (x ≡ 0 → ⊥) → x ≡ line_refusal last l.route l.unknowns l.givens text → Put out at (refused_line x []) next new
          → Answers last l text out at (record { last = last; next = next }) new
      go zero n e p = absurd (n refl)
      go (suc x) n e p = record { last_is = rw (← e); put = rw (← e) p }

  pub answers_done : {t : List ℕ} → number ≡ 0 → t ≡ text_table l.unknowns l.givens text
      → Put out at (record_lines (archived_records l.route (condition_of l.unknowns l.givens t))) next new
      → Answers last l text out at (record { last = l.route; next = next }) new
  unfolding answer_lines route_behind
  answers_done {t} z et p = record { last_is = rw (← e, z); put = rw (← e, z, ← et) p }
