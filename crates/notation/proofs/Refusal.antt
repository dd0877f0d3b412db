-- The questions of a text as the code asks them, what it means that none of them is answered no, and how a call ends.
-- Assumes nothing.
use mathlib.Core.Path.{◌≡◌, refl, sym, ap, ap₂, ◌∙◌}
use mathlib.Core.Bool.{true, false}
use mathlib.Core.List.{List, [], ◌∷◌, ◌++◌}
use Prim.Native.Nat.{ℕ, ◌+◌, ◌^◌, ◌≤◌}
use lib.Dec.{leb}
use lib.ListN.{length, take, drop, take-append-drop}
use borrow.Author.Tests.{leb-true}
use Rattle.ring.proofs.Bool.{and_right}
use Rattle.tables.specs.declared.Question.{Question}
use Rattle.tables.specs.declared.Question.TheVariants.{TextLength, Signs, Declared, Grammar}
use Rattle.tables.specs.declared.Letters.{Letters}
use Rattle.tables.specs.Questions.{number, first_no, letters_fit, has_room, room_questions, bit_questions, buffer_questions}
use Rattle.tables.specs.Inner.Passed.{NoneNo, IsFirstNo, AreLetters}
use Rattle.tables.proofs.FirstNo.{number_some, no_to, yes_counts, none_no, first_counts, then_further}
use Rattle.tables.specs.Answered.{answered, accepted, refused, ◌into◌}
use Rattle.tables.proofs.Answered.{gives_nothing, call_no, call_done}
use Rattle.tables.proofs.Questions.{room_enough}
use Rattle.grammar.specs.Symbols.{all_signs, all_declared}
use Rattle.grammar.specs.Reader.{grammar_reads}
use Rattle.grammar.specs.Text.{text_table}
use Rattle.calls.specs.Questions.{has_text_length, text_questions}
use Rattle.calls.specs.Text.{text_call}
use Rattle.calls.proofs.Text.{text_is_table}
use Rattle.notation.specs.Inner.Work.{early_questions, symbol_questions, values_refusal}
use Rattle.notation.specs.Inner.Passed.{PassedEarly}

pub text_short : (text : List ℕ) → has_text_length text ≡ true → length text ≤ 200
unfolding has_text_length
text_short text h = leb-true (length text) 200 (and_right (leb 1 (length text)) (leb (length text) 200) h)

-- ---- a text's symbols: 5, 6 and 7
module _ (U G : ℕ) (text : List ℕ) where
  pub symbols_no5 : all_signs text ≡ false → IsFirstNo (symbol_questions U G text) Signs
  unfolding symbol_questions
  symbols_no5 n = sym (no_to Signs _ [] _ n)

  pub symbols_no6 : all_signs text ≡ true → all_declared U G text ≡ false → IsFirstNo (symbol_questions U G text) Declared
  unfolding symbol_questions
  symbols_no6 signs n = sym (yes_counts Signs _ [] _ signs ∙ no_to Declared _ [] _ n)

  pub symbols_no7 : all_signs text ≡ true → all_declared U G text ≡ true → grammar_reads text ≡ false
      → IsFirstNo (symbol_questions U G text) Grammar
  unfolding symbol_questions
  symbols_no7 signs declared n = sym (yes_counts Signs _ [] _ signs ∙ yes_counts Declared _ [] _ declared ∙ no_to Grammar _ [] _ n)

  pub symbols_yes : all_signs text ≡ true → all_declared U G text ≡ true → grammar_reads text ≡ true → NoneNo (symbol_questions U G text)
  unfolding symbol_questions
  symbols_yes signs declared reads = none_no _ (signs, (declared, (reads, tt)))

  -- with question 3 before them
  pub values_length : has_text_length text ≡ false → number TextLength ≡ values_refusal U G text
  unfolding values_refusal
  values_length t = sym (no_to TextLength _ [] _ t)

  pub values-symbols : has_text_length text ≡ true → values_refusal U G text ≡ first_no (symbol_questions U G text)
  unfolding values_refusal
  values-symbols t = yes_counts TextLength _ [] _ t

-- ---- 1, 3 and 4
pub early_yes : (u g : ℕ) (text : List ℕ) (room : ℕ) (l : Letters) → AreLetters u g l → letters_fit u g ≡ true → has_text_length text ≡ true
    → has_room l.table_len room ≡ true → PassedEarly u g text room l
unfolding early_questions buffer_questions room_questions bit_questions
early_yes u g text room l are letters bytes roomy =
    let e : l.table_len ≡ 2 ^ (u + g) = l.table_len_is ∙ ap (λ (n : ℕ). 2 ^ n) (l.n_is ∙ ap₂ ◌+◌ are.unknowns are.givens) in
    record {
      none_no = none_no (early_questions u g text room) (letters, (bytes, (rw (← e) roomy, tt)));
      letters = are;
      short = text_short text bytes;
      room_fits = room_enough _ _ roomy;
    }

-- ---- how the call ends: its questions are in two parts
module _ (U G : ℕ) (text lent : List ℕ) where
  pub text_plain : gives_nothing (text_questions U G text (length lent)) ≡ true
  unfolding text_questions buffer_questions room_questions bit_questions
  text_plain = refl

  pub first_early : (question : Question) → IsFirstNo (early_questions U G text (length lent)) question
      → IsFirstNo (text_questions U G text (length lent)) question
  unfolding text_questions early_questions symbol_questions buffer_questions room_questions bit_questions
  first_early question e =
      e ∙ sym (first_counts (early_questions U G text (length lent)) (symbol_questions U G text) (λ z. number_some question (e ∙ z)))

  behind_early : NoneNo (early_questions U G text (length lent))
      → first_no (text_questions U G text (length lent)) ≡ first_no (symbol_questions U G text)
  unfolding text_questions early_questions symbol_questions buffer_questions room_questions bit_questions
  behind_early z = then_further (early_questions U G text (length lent)) (symbol_questions U G text) z

  -- the work leaves `front` of the bytes that the table takes
  module _ (l : Letters) (front : List ℕ) (are : AreLetters U G l) (z : NoneNo (early_questions U G text (length lent))) where
    pub ends_refused : front ≡ take l.table_len lent → (question : Question)
        → IsFirstNo (symbol_questions l.unknowns l.givens text) question
        → answered (refused (number question) []) ((front ++ drop l.table_len lent) ∷ []) ≡ text_call U G text lent
    ends_refused left question first =
        rw (left, take-append-drop l.table_len lent)
        (call_no (text_questions U G text (length lent)) [] (text_table U G text into lent ∷ []) question text_plain
        ((rw (← are.unknowns, ← are.givens) first) ∙ sym (behind_early z)))

    pub ends_done : NoneNo (symbol_questions l.unknowns l.givens text) → front ≡ text_table l.unknowns l.givens text
        → answered (accepted []) ((front ++ drop l.table_len lent) ∷ []) ≡ text_call U G text lent
    ends_done none made =
        let filled : front ≡ text_table U G text = rw (← are.unknowns, ← are.givens) made in
        let no_late : first_no (symbol_questions U G text) ≡ 0 = rw (← are.unknowns, ← are.givens) none in
        let size : l.table_len ≡ length (text_table U G text) =
        l.table_len_is ∙ ap (λ (n : ℕ). 2 ^ n) (l.n_is ∙ ap₂ ◌+◌ are.unknowns are.givens) ∙ sym (text_is_table U G text).size in
        call_done (text_questions U G text (length lent)) [] (text_table U G text) lent front l.table_len (behind_early z ∙ no_late) filled size
