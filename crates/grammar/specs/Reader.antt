-- The grammar in executable form: reading by descent, as a function. `grammar_reads` is question 7 and `tree_of` the tree of a text;
-- that they are what the derivations say is proved in `proofs/Theorems.antt`. `step` says what each reader does, by the readers
-- that it calls, and `read_with` runs it.
-- Assumes nothing.
use Rattle.std.specs.Prelude.{ℕ, zero, suc, ◌+◌, ◌*◌, Bool, true, false, ◌||◌, cond, List, [], ◌∷◌, eqb, length}
use Rattle.grammar.specs.Symbols.{Symbol, unknown_letter, given_letter, single, foreign, symbols}
use Rattle.grammar.specs.Symbols.{zero_sign, one_sign, not_sign, open_sign, close_sign, times_sign, plus_sign, or_sign}
use Rattle.grammar.specs.Grammar.{Tree, constant, unknown, given, negation, times, plus, either}

-- what a reader finds: nothing, or a tree and the symbols behind it
pub data Reading : Type 0 where
  nothing : Reading
  found : Tree → List Symbol → Reading

-- the readers; the last two go on from the tree that has been read so far
pub data Reader : Type 0 where
  sum product factor : Reader
  sum_from product_from : Tree → Reader

-- a second reader goes on where the first has stopped
unfoldable pub and_then : Reading → (Tree → List Symbol → Reading) → Reading
and_then nothing next = nothing
and_then (found t rest) next = next t rest

-- the symbol is this single sign
abbrev pub is : ℕ → Symbol → Bool
is sign (unknown_letter j) = false
is sign (given_letter i) = false
is sign (single byte) = eqb byte sign
is sign foreign = false

-- `+` or `|`
abbrev pub joins_sum : Symbol → Bool
joins_sum c = is plus_sign c || is or_sign c

-- `|` joins by or, the other sign of sums by exclusive or
abbrev pub joined : Bool → Tree → Tree → Tree
joined true s t = either s t
joined false s t = plus s t

-- behind the sum in brackets
abbrev pub closed : Tree → List Symbol → Reading
closed t [] = nothing
closed t (c ∷ rest) = cond (is close_sign c) (found t rest) nothing

-- a factor that begins with the symbol
abbrev pub factor_at : (Reader → List Symbol → Reading) → Symbol → List Symbol → Reading
factor_at read (unknown_letter j) rest = found (unknown j) rest
factor_at read (given_letter i) rest = found (given i) rest
factor_at read (single byte) rest =
    cond (eqb byte zero_sign) (found (constant false) rest)
    (cond (eqb byte one_sign) (found (constant true) rest)
    (cond (eqb byte not_sign) (and_then (read factor rest) (λ t behind. found (negation t) behind))
    (cond (eqb byte open_sign) (and_then (read sum rest) closed) nothing)))
factor_at read foreign rest = nothing

-- what each reader finds, where `read` says what the readers find that it calls
abbrev pub step : (Reader → List Symbol → Reading) → Reader → List Symbol → Reading
step read sum l = and_then (read product l) (λ t rest. read (sum_from t) rest)
step read product l = and_then (read factor l) (λ t rest. read (product_from t) rest)
step read factor [] = nothing
step read factor (c ∷ rest) = factor_at read c rest
step read (sum_from s) [] = found s []
step read (sum_from s) (c ∷ rest) =
    cond (joins_sum c) (and_then (read product rest) (λ t behind. read (sum_from (joined (is or_sign c) s t)) behind)) (found s (c ∷ rest))
step read (product_from s) [] = found s []
step read (product_from s) (c ∷ rest) =
    cond (is times_sign c) (and_then (read factor rest) (λ t behind. read (product_from (times s t)) behind)) (found s (c ∷ rest))

-- reading with at most k calls inside each other
unfoldable pub read_with : ℕ → Reader → List Symbol → Reading
read_with zero reader l = nothing
read_with (suc k) reader l = step (read_with k) reader l

-- how many readers can call each other on the same symbols
abbrev pub depth : Reader → ℕ
depth sum = 3
depth product = 2
depth factor = 1
depth (sum_from t) = 1
depth (product_from t) = 1

-- so many calls are always enough
abbrev pub calls : Reader → List Symbol → ℕ
calls reader l = 3 * length l + depth reader

-- what a reader finds in a list of symbols; it meets its own equation, `reads ≡ step reads` (`proofs/Fixed.antt`)
unfoldable pub reads : Reader → List Symbol → Reading
reads reader l = read_with (calls reader l) reader l

-- nothing is left
abbrev pub is_whole : Reading → Bool
is_whole nothing = false
is_whole (found t []) = true
is_whole (found t (c ∷ rest)) = false

-- the tree that was read; where there is none, any
abbrev pub tree_read : Reading → Tree
tree_read nothing = constant false
tree_read (found t rest) = t

-- 7: 'Does the grammar read the whole text?'
unfoldable pub grammar_reads : List ℕ → Bool
grammar_reads text = is_whole (reads sum (symbols text))

-- the tree of a text that the grammar reads
unfoldable pub tree_of : List ℕ → Tree
tree_of text = tree_read (reads sum (symbols text))
