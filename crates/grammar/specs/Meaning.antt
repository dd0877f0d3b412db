-- What a tree means (document 01, 'The notation'): its value at a state and a choice, in the two-element Boolean ring, and its normal form, a polynomial.
-- '`+` is exclusive or, `*` is and, `!t` is t + 1, `s|t` is s + t + s*t'.
-- Assumes nothing.
use Rattle.std.specs.Prelude.{Bool, true, ◌&&◌, ℕ, ◌+◌, ◌<◌}
use Rattle.ring.specs.declared.State.{State}
use Rattle.ring.specs.declared.Choice.{Choice}
use Rattle.ring.specs.Letters.{bit}
use Rattle.ring.specs.Polynomial.{Polynomial, ◌⊕◌, letter, sum, product}
use Rattle.ring.specs.Polynomial as polynomial
use Rattle.grammar.specs.Grammar.{Tree, constant, unknown, given, negation, times, plus, either}

-- the value of a tree: bit j of the choice for unknown j, bit i of the state for given i
unfoldable pub value_at : Tree → State → Choice → Bool
value_at (constant b) state choice = b
value_at (unknown j) state choice = bit choice.0 j
value_at (given i) state choice = bit state.0 i
value_at (negation t) state choice = value_at t state choice ⊕ true
value_at (times s t) state choice = value_at s state choice && value_at t state choice
value_at (plus s t) state choice = value_at s state choice ⊕ value_at t state choice
value_at (either s t) state choice = value_at s state choice ⊕ value_at t state choice ⊕ (value_at s state choice && value_at t state choice)

-- the value of a tree over U unknowns at a point, where letter j has bit j; at the point of a state and a choice it is the value there (`at_point_lem`)
unfoldable pub at_point : ℕ → Tree → ℕ → Bool
at_point U (constant b) p = b
at_point U (unknown j) p = bit p j
at_point U (given i) p = bit p (U + i)
at_point U (negation t) p = at_point U t p ⊕ true
at_point U (times s t) p = at_point U s p && at_point U t p
at_point U (plus s t) p = at_point U s p ⊕ at_point U t p
at_point U (either s t) p = at_point U s p ⊕ at_point U t p ⊕ (at_point U s p && at_point U t p)

-- the normal form of a tree over U unknowns and G givens: 'bit j for unknown j, bit U + i for given i'
unfoldable pub normal_form : ℕ → ℕ → Tree → Polynomial
normal_form U G (constant b) = polynomial.constant b
normal_form U G (unknown j) = letter j
normal_form U G (given i) = letter (U + i)
normal_form U G (negation t) = sum (normal_form U G t) (polynomial.constant true)
normal_form U G (times s t) = product (U + G) (normal_form U G s) (normal_form U G t)
normal_form U G (plus s t) = sum (normal_form U G s) (normal_form U G t)
normal_form U G (either s t) = sum (sum (normal_form U G s) (normal_form U G t)) (product (U + G) (normal_form U G s) (normal_form U G t))

-- every letter of a tree is declared
abbrev pub Declared : ℕ → ℕ → Tree → Type 0
Declared U G (constant b) = Unit {0}
Declared U G (unknown j) = j < U
Declared U G (given i) = i < G
Declared U G (negation t) = Declared U G t
Declared U G (times s t) = Declared U G s × Declared U G t
Declared U G (plus s t) = Declared U G s × Declared U G t
Declared U G (either s t) = Declared U G s × Declared U G t
