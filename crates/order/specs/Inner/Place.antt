-- Places in the written order (document 01, 'The table of a polynomial'), and that order as one number. Callers cite `order` and `before`.
-- Assumes nothing.
use Rattle.std.specs.Prelude.{◌≡◌, List, ℕ, ◌+◌, ◌*◌, ◌^◌, length}
use Rattle.ring.specs.Lists.{listed}
use Rattle.order.specs.Order.{letters, groups}

-- the place at which the masks that have k letters begin, in the order for n
unfoldable pub start : ℕ → ℕ → ℕ
start n k = length (groups n k)

-- a table of these places for o letters; behind the last, the end
abbrev pub AreStarts : ℕ → List ℕ → Type 0
AreStarts o t = t ≡ listed (o + 2) (start o)

-- a table of the numbers of letters of the masks below 32
abbrev pub AreLetters : List ℕ → Type 0
AreLetters t = t ≡ listed 32 letters

-- the written order in one number, for masks below 2 ^ n: m stands before k where its rank is the smaller
unfoldable pub rank : ℕ → ℕ → ℕ
rank n m = letters m * 2 ^ n + m
