-- An order as it is lent and archived (document 02, C-11): 'six bytes as in kind 6, first eliminated first', 'the unknown numbers in order,
-- then 255 in unused places'.
-- Assumes nothing.
use Rattle.std.specs.Prelude.{Bool, ◌&&◌, List, ℕ, ◌+◌, ◌-◌, ◌^◌, eqb, length, take, get_or}
use Rattle.ring.specs.Polynomial.{every_below}
use Rattle.ring.specs.Lists.{listed, times}
use Rattle.solution.specs.Condition.{Condition, under_fact, default_order}

-- 'the unknown numbers in order, then 255 in unused places': the six bytes of an order
unfoldable pub order_bytes : List ℕ → List ℕ
order_bytes order = listed 6 (λ i. get_or order i 255)

-- those of the order 0, 1, 2 and so on
abbrev pub default_bytes : ℕ → List ℕ
default_bytes U = order_bytes (default_order U)

-- 17: 'does the order hold each unknown once and then only 255', of bytes, which have to be six
unfoldable pub order_fits : ℕ → List ℕ → Bool
order_fits U bytes =
    eqb (length bytes) 6
    && (every_below U (λ x. eqb (times x (take U bytes)) 1) && every_below (6 - U) (λ i. eqb (get_or bytes (U + i) 0) 255))

-- the condition in a lent buffer, under the fact in another, both read as far as question 4's length, its unknowns in the order of lent
-- bytes
abbrev pub lent_condition : ℕ → ℕ → List ℕ → List ℕ → List ℕ → Condition
lent_condition U G bytes fact buffer = under_fact U G (take U bytes) (take (2 ^ (U + G)) fact) (take (2 ^ (U + G)) buffer)
