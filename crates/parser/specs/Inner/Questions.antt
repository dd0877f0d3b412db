-- A text without its spaces, and questions 5 and 6 as they are put to the codes of a text's symbols. That this is the same as to
-- put them to its bytes is `signs_of_symbols` and `declared_of_symbols` (`proofs/Decoding.antt`).
-- Assumes nothing.
use Rattle.std.specs.Prelude.{Bool, true, not, cond, List, [], ◌∷◌, ℕ, ◌-◌, eqb, ltb}
use Rattle.grammar.specs.Symbols.{space, foreign}
use Rattle.parser.specs.Inner.Codes.{code}

-- the bytes of a text that are no spaces
unfoldable pub unspaced : List ℕ → List ℕ
unspaced [] = []
unspaced (byte ∷ text) = cond (eqb byte space) (unspaced text) (byte ∷ unspaced text)

-- 5, of a code: it stands for a sign
abbrev pub is_known : ℕ → Bool
is_known c = not (eqb c (code foreign))

-- 6, of a code: 'Only the first U and first G letters are declared'; a code that is no letter's passes
abbrev pub is_letter_declared : ℕ → ℕ → ℕ → Bool
is_letter_declared U G c = cond (ltb c 8) (ltb c U) (cond (ltb c 16) (ltb (c - 8) G) true)
