-- Which questions are asked first and which of a text's symbols, and what its words are.
-- Assumes nothing.
use Rattle.std.specs.Prelude.{List, [], ◌∷◌, ℕ, ◌+◌, ◌-◌, ◌^◌}
use Rattle.ring.specs.Polynomial.{value}
use Rattle.ring.specs.Table.{present}
use Rattle.tables.specs.declared.Question.TheVariants.{Letters, TextLength, Signs, Declared, Grammar}
use Rattle.tables.specs.Questions.{Asked, asks, first_no, letters_fit, writes, buffer_questions}
use Rattle.grammar.specs.Symbols.{all_signs, all_declared}
use Rattle.grammar.specs.Reader.{grammar_reads}
use Rattle.grammar.specs.Text.{text_table}
use Rattle.words.specs.Inner.Words.{words_of}
use Rattle.calls.specs.Questions.{has_text_length}

-- 'Text: 1, 3, 4, 5, 6, 7': 1, 3 and 4 are about numbers and lengths
unfoldable pub early_questions : ℕ → ℕ → List ℕ → ℕ → List Asked
early_questions U G text room =
    asks Letters (letters_fit U G) ∷ asks TextLength (has_text_length text) ∷ buffer_questions (writes (2 ^ (U + G)) room ∷ [])

-- 5, 6 and 7 are put to the text's symbols
unfoldable pub symbol_questions : ℕ → ℕ → List ℕ → List Asked
symbol_questions U G text = asks Signs (all_signs text) ∷ asks Declared (all_declared U G text) ∷ asks Grammar (grammar_reads text) ∷ []

-- the first no of these with 3 before them: those that are about the text alone, once the letters are declared
unfoldable pub values_refusal : ℕ → ℕ → List ℕ → ℕ
values_refusal U G text = first_no (asks TextLength (has_text_length text) ∷ symbol_questions U G text)

-- the values of the table that a text is read into, at every point, 64 points to a word
unfoldable pub text_words : ℕ → ℕ → List ℕ → List ℕ
text_words U G text = words_of (2 ^ (U + G - 6)) (value (U + G) (present (text_table U G text)))
