-- The symbols of a text (document 01, 'The notation'), and questions 5 and 6. A text is a list of bytes.
-- Assumes nothing.
use Rattle.std.specs.Prelude.{Bool, true, ◌&&◌, ◌||◌, cond, List, [], ◌∷◌, ℕ, ◌-◌, eqb, leb, ltb}

-- what a text is made of: letters by their numbers, single signs by their bytes, and bytes that are no sign
pub data Symbol : Type 0 where
  unknown_letter given_letter single : ℕ → Symbol
  foreign : Symbol

-- the bytes of the single signs: `0`
abbrev pub zero_sign : ℕ
zero_sign = 48

-- `1`
abbrev pub one_sign : ℕ
one_sign = 49

-- `!`
abbrev pub not_sign : ℕ
not_sign = 33

-- `(`
abbrev pub open_sign : ℕ
open_sign = 40

-- `)`
abbrev pub close_sign : ℕ
close_sign = 41

-- `*`
abbrev pub times_sign : ℕ
times_sign = 42

-- `+`
abbrev pub plus_sign : ℕ
plus_sign = 43

-- `|`
abbrev pub or_sign : ℕ
or_sign = 124

-- and the space, which is no sign
abbrev pub space : ℕ
space = 32

-- 'u v w x y z, numbered from 0': the bytes from 117 to 122
unfoldable pub is_unknown : ℕ → Bool
is_unknown byte = leb 117 byte && leb byte 122

-- 'a to h, numbered from 0': the bytes from 97 to 104
unfoldable pub is_given : ℕ → Bool
is_given byte = leb 97 byte && leb byte 104

-- one of the single signs
unfoldable pub is_single : ℕ → Bool
is_single byte =
    eqb byte zero_sign || (eqb byte one_sign || (eqb byte not_sign || (eqb byte open_sign
    || (eqb byte close_sign || (eqb byte times_sign || (eqb byte plus_sign || eqb byte or_sign))))))

-- 'Decoding goes by byte ranges: u to z, a to h, then the single signs'
unfoldable pub symbol : ℕ → Symbol
symbol byte =
    cond (is_unknown byte) (unknown_letter (byte - 117))
    (cond (is_given byte) (given_letter (byte - 97))
    (cond (is_single byte) (single byte) foreign))

-- the symbols of a text: 'A space may stand between any two symbols and at the ends', any number of them
unfoldable pub symbols : List ℕ → List Symbol
symbols [] = []
symbols (byte ∷ text) = cond (eqb byte space) (symbols text) (symbol byte ∷ symbols text)

-- a sign of the notation, declared or not, or a space
unfoldable pub is_sign : ℕ → Bool
is_sign byte = eqb byte space || (is_unknown byte || (is_given byte || is_single byte))

-- every byte of a text passes the test
unfoldable pub every : (ℕ → Bool) → List ℕ → Bool
every test [] = true
every test (byte ∷ text) = test byte && every test text

-- 5: 'Is every byte a sign of the notation or a space?'
unfoldable pub all_signs : List ℕ → Bool
all_signs text = every is_sign text

-- 'Only the first U and first G letters are declared'; a byte that is no letter passes
unfoldable pub is_declared : ℕ → ℕ → ℕ → Bool
is_declared U G byte = cond (is_unknown byte) (ltb (byte - 117) U) (cond (is_given byte) (ltb (byte - 97) G) true)

-- 6: 'Is every letter declared?'
unfoldable pub all_declared : ℕ → ℕ → List ℕ → Bool
all_declared U G text = every (is_declared U G) text
