-- What reading a text does (`notation`), and which texts are accepted (document 01, 'The archive entry'). A text is a list of bytes.
-- Assumes nothing.
use Rattle.std.specs.Prelude.{◌≡◌, true, List, [], ◌∷◌, ℕ, length}
use Rattle.tables.specs.Questions.{letters_fit}
use Rattle.tables.specs.Answered.{Reply, Answered, call, ◌into◌}
use Rattle.grammar.specs.Symbols.{all_signs, all_declared}
use Rattle.grammar.specs.Reader.{grammar_reads}
use Rattle.grammar.specs.Text.{text_table}
use Rattle.calls.specs.Questions.{has_text_length, text_questions}

-- the condition buffer gets the table that the text is read into
abbrev pub text_call : ℕ → ℕ → List ℕ → List ℕ → Answered Reply
text_call U G text condition = call (text_questions U G text (length condition)) [] (text_table U G text into condition ∷ [])

-- 'A text is accepted, with its U and G, if questions 1, 3, 5, 6 and 7 are answered yes'
pub record Accepted (U G : ℕ) (text : List ℕ) : Type 0 where
  pub letters : letters_fit U G ≡ true
  pub bytes : has_text_length text ≡ true
  pub signs : all_signs text ≡ true
  pub declared : all_declared U G text ≡ true
  pub grammar : grammar_reads text ≡ true
