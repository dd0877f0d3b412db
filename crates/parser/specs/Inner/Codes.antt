-- The readers keep a text's symbols in a lent buffer, a byte to a symbol. What `symbol` gives comes back from its code
-- (`meant-code`, `proofs/Decoding.antt`).
-- Assumes nothing.
use Rattle.std.specs.Prelude.{◌&&◌, cond, List, map, ℕ, ◌+◌, ◌-◌, leb, ltb}
use Rattle.grammar.specs.Symbols.{Symbol, unknown_letter, given_letter, single, foreign, is_single}

-- unknown j is j, given i is 8 + i, a single sign is its own byte
abbrev pub code : Symbol → ℕ
code (unknown_letter j) = j
code (given_letter i) = 8 + i
code (single byte) = byte
code foreign = 255

-- the symbol that a byte of the buffer stands for
unfoldable pub meant : ℕ → Symbol
meant c = cond (ltb c 6) (unknown_letter c) (cond (leb 8 c && ltb c 16) (given_letter (c - 8)) (cond (is_single c) (single c) foreign))

abbrev pub codes : List Symbol → List ℕ
codes l = map code l

abbrev pub meanings : List ℕ → List Symbol
meanings s = map meant s
