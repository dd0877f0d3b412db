-- Letters, states and choices (document 01, the section of this name).
-- There are U unknowns, numbered from 0, then G givens, numbered from 0: n = U + G letters.
-- A point gives every letter a value: letter j has the value of bit j.
-- Assumes nothing.
use Rattle.std.specs.Prelude.{Bool, true, false, ℕ, zero, suc, ◌+◌, ◌*◌, ◌/◌, ◌%◌, ◌^◌, eqb}
use Rattle.ring.specs.declared.State.{State}
use Rattle.ring.specs.declared.Choice.{Choice}

-- 0 or 1
abbrev pub digit : Bool → ℕ
digit true = 1
digit false = 0

-- bit j of a number
unfoldable pub bit : ℕ → ℕ → Bool
bit m j = eqb (m / 2 ^ j % 2) 1

-- the point of a state and a choice: bit j is that of the choice, bit U + i is bit i of the state
unfoldable pub point : ℕ → State → Choice → ℕ
point U state choice = state.0 * 2 ^ U + choice.0

-- the point of n letters at which letter j has the value b j
unfoldable pub point_where : ℕ → (ℕ → Bool) → ℕ
point_where zero b = 0
point_where (suc n) b = point_where n (λ j. b (suc j)) * 2 + digit (b 0)

-- the point p with the value b for letter j
unfoldable pub assign : ℕ → ℕ → Bool → ℕ
assign p zero b = p / 2 * 2 + digit b
assign p (suc j) b = assign (p / 2) j b * 2 + p % 2
