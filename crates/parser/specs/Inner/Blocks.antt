-- The readers write a tree's values to the front of a lent stack of words, a block of k words to a tree, and use what
-- lies behind it for the trees inside. The words are those of `words`: word w holds the values at the points from 64 * w on.
-- Assumes nothing.
use Rattle.std.specs.Prelude.{◌≡◌, Bool, cond, List, ℕ, ◌+◌, ◌-◌, ◌*◌, ◌≤◌, ◌<◌, eqb, ltb, length, get_or, drop, take}
use Rattle.std.specs.declared.option.Option.{Option}
use Rattle.std.specs.declared.option.Option.TheVariants.{Some, None}
use Rattle.std.specs.Int.Bits.{bit_or, bit_xor}
use Rattle.grammar.specs.Symbols.{or_sign}
use Rattle.grammar.specs.Grammar.{Tree}
use Rattle.grammar.specs.Meaning.{at_point}
use Rattle.grammar.specs.Reader.{Reading, nothing, found, Reader, reads, is_whole, tree_read}
use Rattle.parser.specs.Inner.Codes.{meanings}
use Rattle.words.specs.Inner.Words.{word_of, words_of}

-- 64 ones
abbrev pub ones : ℕ
ones = 0xffff_ffff_ffff_ffff

-- word w of the values h
unfoldable pub word_at : (ℕ → Bool) → ℕ → ℕ
word_at h w = word_of (λ i. h (64 * w + i))

-- the number of the letter that a code stands for, over U unknowns
unfoldable pub letter_of : ℕ → ℕ → ℕ
letter_of U c = cond (ltb c 8) c (U + (c - 8))

-- how a sign of sums joins two words
unfoldable pub sum_of : ℕ → ℕ → ℕ → ℕ
sum_of sign = cond (eqb sign or_sign) bit_or bit_xor

-- word i of the first block and word i of the second, joined
unfoldable pub paired : (ℕ → ℕ → ℕ) → ℕ → List ℕ → ℕ → ℕ
paired op k stack i = op (get_or stack i 0) (get_or stack (k + i) 0)

-- what may come of each of the first k words, by its number, is h of that number
abbrev pub Makes : ℕ → List ℕ → (ℕ → ℕ → ℕ → Type 0) → (ℕ → ℕ) → Type 0
Makes k stack gives h = (i v : ℕ) → i < k → gives i (get_or stack i 0) v → v ≡ h i

-- the reader reads a tree from `at` up to n, and its words stand at the front of the stack, which is as long as it was
pub record IsUpTo (reader : Reader) (U k : ℕ) (s : List ℕ) (at size : ℕ) (stack : List ℕ) (n : ℕ) : Type 0 where
  pub tree : Tree
  pub read : reads reader (meanings (drop at s)) ≡ found tree (meanings (drop n s))
  pub values : take k stack ≡ words_of k (at_point U tree)
  pub kept : length stack ≡ size
  pub past : at < n
  pub inside : n ≤ length s

-- it reads nothing from `at`
pub record IsMissing (reader : Reader) (s : List ℕ) (at : ℕ) : Type 0 where
  pub none : reads reader (meanings (drop at s)) ≡ nothing

abbrev pub Agrees : Reader → ℕ → ℕ → List ℕ → ℕ → ℕ → List ℕ → Option ℕ → Type 0
Agrees reader U k s at size stack None = IsMissing reader s at
Agrees reader U k s at size stack (Some n) = IsUpTo reader U k s at size stack n

-- words with the values of the tree of a text that the grammar reads whole; otherwise as they were
unfoldable pub whole_words : ℕ → Reading → List ℕ → List ℕ
whole_words U reading words = cond (is_whole reading) (words_of (length words) (at_point U (tree_read reading))) words
