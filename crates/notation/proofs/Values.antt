-- The words of a text are the values of the table that it is read into, and they give it back.
-- Assumes nothing.
use mathlib.Core.Path.{◌≡◌, sym, ◌∙◌}
use mathlib.Core.Bool.{Bool, true, false}
use mathlib.Core.List.{List}
use Prim.Native.Nat.{ℕ, ◌+◌, ◌-◌, ◌^◌, ◌<◌}
use native.Mathlib.Omega.{arith}
use lib.ListN.{length, get_or}
use Rattle.ring.specs.Polynomial.{value}
use Rattle.ring.specs.Table.{present, table}
use Rattle.ring.proofs.Table.{present-table}
use Rattle.ring.proofs.Value.{value_cong}
use Rattle.grammar.specs.Symbols.{Symbol, symbols, every, all_signs, all_declared}
use Rattle.grammar.specs.Meaning.{normal_form}
use Rattle.grammar.specs.Reader.{sum, reads, is_whole, grammar_reads, tree_of}
use Rattle.grammar.specs.Text.{IsRead, text_table}
use Rattle.grammar.proofs.Points.{value_normal}
use Rattle.grammar.proofs.Theorems.{text_declared}
use Rattle.words.specs.Inner.Words.{bit_at}
use Rattle.words.proofs.Words.{words_cong, length_words, at_known}
use Rattle.words.proofs.Letters.{room, table_back}
use Rattle.parser.specs.Inner.Codes.{codes}
use Rattle.parser.specs.Inner.Blocks.{whole_words}
use Rattle.parser.specs.Inner.Questions.{is_known, is_letter_declared}
use Rattle.parser.proofs.Decoding.{signs_of_symbols, declared_of_symbols}
use Rattle.notation.specs.Inner.Work.{text_words}

-- questions 5 and 6, of a text whose symbols have the codes s
module _ (text s : List ℕ) (r : Bool) (e : s ≡ codes (symbols text)) (bytes : (i : ℕ) → get_or text i 0 < 256) where
  pub signs_text : r ≡ every is_known s → r ≡ all_signs text
  signs_text h = h ∙ rw e (signs_of_symbols text bytes)

  pub declared_text : (U G : ℕ) → r ≡ every (is_letter_declared U G) s → r ≡ all_declared U G text
  declared_text U G h = h ∙ rw e (declared_of_symbols U G text bytes)

-- 7
pub whole_text : (text : List ℕ) (l : List Symbol) (r : Bool) → l ≡ symbols text → r ≡ is_whole (reads sum l) → r ≡ grammar_reads text
unfolding grammar_reads
whole_text text l r e h = h ∙ rw e

pub length_text : (U G : ℕ) (text : List ℕ) → length (text_words U G text) ≡ 2 ^ (U + G - 6)
unfolding text_words
length_text U G text = length_words (2 ^ (U + G - 6)) _

-- at every point, those behind the table's end too, the table's value is that of the normal form
value-table : (U G : ℕ) (text : List ℕ) (p : ℕ)
    → value (U + G) (present (text_table U G text)) p ≡ value (U + G) (normal_form U G (tree_of text)) p
unfolding text_table
value-table U G text p = value_cong (U + G) _ _ p (λ m l. present-table (U + G) (normal_form U G (tree_of text)) m l)

-- what the readers leave, of a text whose symbols are l
module _ (U G : ℕ) (text : List ℕ) (l : List Symbol) (lent words : List ℕ) (e : words ≡ whole_words U (reads sum l) lent) where
  pub words_text : IsRead U G text → l ≡ symbols text → is_whole (reads sum l) ≡ true → length lent ≡ 2 ^ (U + G - 6)
      → words ≡ text_words U G text
  unfolding whole_words text_words tree_of
  words_text a el h size =
      e ∙ rw h (rw (size, el) (words_cong (2 ^ (U + G - 6)) _ _
      (λ p _. sym (value-table U G text p ∙ value_normal U G (tree_of text) p (text_declared U G text a)))))

pub words_kept : (U : ℕ) (l : List Symbol) (lent words : List ℕ) → words ≡ whole_words U (reads sum l) lent
    → is_whole (reads sum l) ≡ false → words ≡ lent
unfolding whole_words
words_kept U l lent words e h = e ∙ rw h

-- words that hold the text's values give its table
pub table_text : (U G : ℕ) (text words out : List ℕ) → words ≡ text_words U G text → out ≡ table (U + G) (value (U + G) (bit_at words))
    → out ≡ text_table U G text
unfolding text_words text_table
table_text U G text words out ew e =
    e ∙ table_back (U + G) (normal_form U G (tree_of text)) words
    (λ p l. at_known (2 ^ (U + G - 6)) _ words ew p (omega (arith, room (U + G))) ∙ value-table U G text p)
