-- The values of 1 + g and of f*(1 + g), 64 points to a word, for tables f and g in n letters.
-- Assumes nothing.
use Rattle.std.specs.Prelude.{not, List, ℕ, ◌-◌, ◌^◌}
use Rattle.ring.specs.Polynomial.{value}
use Rattle.ring.specs.Table.{present}
use Rattle.words.specs.Inner.Words.{words_of}
use Rattle.solution.specs.Condition.{table_where_zero}

-- the values of 1 + g, which are 1 at the points that count
abbrev pub kept_words : ℕ → List ℕ → List ℕ
kept_words n g = words_of (2 ^ (n - 6)) (λ p. not (value n (present g) p))

-- the values of f*(1 + g)
abbrev pub where_words : ℕ → List ℕ → List ℕ → List ℕ
where_words n f g = words_of (2 ^ (n - 6)) (value n (present (table_where_zero n f g)))
