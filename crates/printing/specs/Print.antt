-- What is printed (document 01, 'Programs'), as lists of bytes: numbers, records, refusals.
-- Assumes nothing.
use Rattle.std.specs.Prelude.{cond, List, [], ◌∷◌, ◌++◌, ℕ, zero, suc, ◌+◌, ◌/◌, ◌%◌, ltb}
use Rattle.grammar.specs.Symbols.{space}
use Rattle.tables.specs.Answered.{Reply, accepted, refused}
use Rattle.entry.specs.Record.{Record}

-- 'each line ends with a line feed'
abbrev pub line_feed : ℕ
line_feed = 10

-- a digit below 16: `0` to `9`, then 'lower-case' `a` to `f`
unfoldable pub digit_byte : ℕ → ℕ
digit_byte d = cond (ltb d 10) (48 + d) (87 + d)

-- the decimal digits of n, in k steps at most
unfoldable pub decimal_in : ℕ → ℕ → List ℕ
decimal_in zero n = []
decimal_in (suc k) n = cond (ltb n 10) (digit_byte n ∷ []) (decimal_in k (n / 10) ++ (digit_byte (n % 10) ∷ []))

-- 'the numbers decimal without leading zeros'; a number has no more digits than suc n
unfoldable pub decimal : ℕ → List ℕ
decimal n = decimal_in (suc n) n

-- 'two lower-case hexadecimal digits a byte'
unfoldable pub hexadecimal : List ℕ → List ℕ
hexadecimal [] = []
hexadecimal (byte ∷ bytes) = digit_byte (byte / 16) ∷ digit_byte (byte % 16) ∷ hexadecimal bytes

-- 'It prints each record of the entry on a line'
unfoldable pub record_lines : List Record → List ℕ
record_lines [] = []
record_lines (r ∷ rs) = hexadecimal r ++ (line_feed ∷ record_lines rs)

-- `unreadable`, and its line feed
abbrev pub unreadable_line : List ℕ
unreadable_line = 117 ∷ 110 ∷ 114 ∷ 101 ∷ 97 ∷ 100 ∷ 97 ∷ 98 ∷ 108 ∷ 101 ∷ line_feed ∷ []

-- `refused`
abbrev pub refused_word : List ℕ
refused_word = 114 ∷ 101 ∷ 102 ∷ 117 ∷ 115 ∷ 101 ∷ 100 ∷ []

-- 'Words and numbers on a printed line have one space between them': the rest of a line on which something stands already
unfoldable pub spaced : List ℕ → List ℕ
spaced [] = line_feed ∷ []
spaced (n ∷ ns) = space ∷ (decimal n ++ spaced ns)

-- 'Refusals print `refused` and the number', and what is given with it
unfoldable pub refused_line : ℕ → List ℕ → List ℕ
refused_line number given = refused_word ++ spaced (number ∷ given)

-- a call's answer as a line: the values that it gives, or the refusal
unfoldable pub reply_line : Reply → List ℕ
reply_line (accepted []) = line_feed ∷ []
reply_line (accepted (n ∷ ns)) = decimal n ++ spaced ns
reply_line (refused number given) = refused_line number given
