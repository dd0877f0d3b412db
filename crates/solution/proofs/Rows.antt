-- The starred rows of the bench table hold, and further ones, with orders and facts, and rows for question 21, by computation.
-- Assumes nothing.
use mathlib.Core.Path.{◌≡◌, refl}
use mathlib.Core.Bool.{true, false}
use mathlib.Core.List.{[], ◌∷◌}
use Rattle.ring.specs.Letters.{bit, point}
use Rattle.ring.specs.Polynomial.{count, odd, within, value, constant, letter, sum, product, restrict, monomial, substitute, every_below}
use Rattle.ring.specs.Table.{present, tabulate, held, answer_table, for_unknowns, table}
use Rattle.ring.specs.Lists.{listed}
use Rattle.solution.specs.Letters.{place}
use Rattle.solution.specs.Substitution.{letter_at, own_letters, put_in}
use Rattle.solution.specs.Condition.{default_order, table_where_zero}
use Rattle.solution.specs.Elimination.{next_condition, remains, answer_from, boole_answers, particular, lowenheim, own_lowenheim}
use Rattle.solution.specs.Elimination.{smallest_below, blocked, smallest_blocked, is_zero, handed_solves, solvable, boole_table, lowenheim_table, solve}
use Rattle.solution.specs.BenchTable.{starred_rows, further_rows, order_rows, fact_rows, no_fact_rows, AllHold, end, ◌also◌}
use Rattle.solution.specs.Fact.{no_fact, where_zero}

pub starred_rows_hold : AllHold starred_rows
unfolding starred_rows solve boole_table lowenheim_table solvable is_zero every_below remains next_condition product restrict odd count present bit default_order listed answer_table tabulate boole_answers answer_from sum letter constant substitute monomial smallest_blocked smallest_below blocked point value within own_lowenheim lowenheim particular put_in place own_letters letter_at table_where_zero table where_zero no_fact
starred_rows_hold =
    record { boole = refl; own = tt }
    also record { boole = refl; own = tt }
    also record { boole = refl; own = tt }
    also record { boole = refl; own = tt }
    also record { boole = refl; own = refl }
    also record { boole = refl; own = tt }
    also record { boole = refl; own = refl }
    also record { boole = refl; own = tt }
    also record { boole = refl; own = tt }
    also record { boole = refl; own = tt }
    also record { boole = refl; own = tt }
    also end

pub further_rows_hold : AllHold further_rows
unfolding further_rows solve boole_table lowenheim_table solvable is_zero every_below remains next_condition product restrict odd count present bit default_order listed answer_table tabulate boole_answers answer_from sum letter constant substitute monomial smallest_blocked smallest_below blocked point value within own_lowenheim lowenheim particular put_in place own_letters letter_at table_where_zero table where_zero no_fact
further_rows_hold = record { boole = refl; own = refl } also record { boole = refl; own = tt } also end

pub order_rows_hold : AllHold order_rows
unfolding order_rows solve boole_table lowenheim_table solvable is_zero every_below remains next_condition product restrict odd count present bit listed answer_table tabulate boole_answers answer_from sum letter constant substitute monomial smallest_blocked smallest_below blocked point value within own_lowenheim lowenheim particular put_in place own_letters letter_at table_where_zero table where_zero no_fact
order_rows_hold =
    record { boole = refl; own = tt }
    also record { boole = refl; own = tt }
    also record { boole = refl; own = refl }
    also record { boole = refl; own = tt }
    also end

pub fact_rows_hold : AllHold fact_rows
unfolding fact_rows solve boole_table lowenheim_table solvable is_zero every_below remains next_condition product restrict odd count present bit listed answer_table tabulate boole_answers answer_from sum letter constant substitute monomial smallest_blocked smallest_below blocked point value within own_lowenheim lowenheim particular put_in place own_letters letter_at table_where_zero table where_zero no_fact
fact_rows_hold =
    record { boole = refl; own = refl }
    also record { boole = refl; own = tt }
    also record { boole = refl; own = tt }
    also record { boole = refl; own = tt }
    also end

pub no_fact_rows_hold : AllHold no_fact_rows
unfolding no_fact_rows solve boole_table lowenheim_table solvable is_zero every_below remains next_condition product restrict odd count present bit listed answer_table tabulate boole_answers answer_from sum letter constant substitute monomial smallest_blocked smallest_below blocked point value within own_lowenheim lowenheim particular put_in place own_letters letter_at table_where_zero table where_zero no_fact
no_fact_rows_hold = record { boole = refl; own = tt } also record { boole = refl; own = tt } also end

-- question 21 (document 02, C-15) on literal tables, by masks 1, u, a, u*a or 1, u, v, u*v: which handed ones solve
pub handed_rows :
    -- `u+a`: a does, 0 only in state 0
    (handed_solves 1 1 (present (0 ∷ 1 ∷ 1 ∷ 0 ∷ [])) (held 2 (0 ∷ 0 ∷ 1 ∷ 0 ∷ [])) ≡ true)
    × (handed_solves 1 1 (present (0 ∷ 1 ∷ 1 ∷ 0 ∷ [])) (held 2 (0 ∷ 0 ∷ 0 ∷ 0 ∷ [])) ≡ false)
    -- `u+v`: v for both does, and so it mentions an unknown; v for u and u for v would only if they were put in one after the other
    × (handed_solves 2 0 (present (0 ∷ 1 ∷ 1 ∷ 0 ∷ [])) (held 2 (0 ∷ 0 ∷ 1 ∷ 0 ∷ 0 ∷ 0 ∷ 1 ∷ 0 ∷ [])) ≡ true)
    × (handed_solves 2 0 (present (0 ∷ 1 ∷ 1 ∷ 0 ∷ [])) (held 2 (0 ∷ 0 ∷ 1 ∷ 0 ∷ 0 ∷ 1 ∷ 0 ∷ 0 ∷ [])) ≡ false)
    -- `u`: u only with the unknown at 0; of 1 + u the formula makes u = 0, and yet it does not itself
    × (handed_solves 1 0 (present (0 ∷ 1 ∷ [])) (held 1 (0 ∷ 1 ∷ [])) ≡ false)
    × (handed_solves 1 0 (present (0 ∷ 1 ∷ [])) (held 1 (1 ∷ 1 ∷ [])) ≡ false)
    -- without unknowns nothing is put in: `0` is zero, `1` is not
    × (handed_solves 0 0 (present (0 ∷ [])) (held 0 []) ≡ true)
    × (handed_solves 0 0 (present (1 ∷ [])) (held 0 []) ≡ false)
unfolding handed_solves is_zero every_below substitute monomial product odd count constant letter bit present held for_unknowns lowenheim sum put_in place own_letters letter_at listed
handed_rows = (refl, refl, refl, refl, refl, refl, refl, refl)
