-- What some bytes hold (document 01, 'The archive entry'; document 02, C-11 and C-16): their records, and what these say of a condition and its
-- answers. Every definition is total, on any bytes.
-- Assumes nothing.
use Rattle.std.specs.Prelude.{Bool, false, ◌&&◌, ◌||◌, cond, List, [], ◌∷◌, ℕ, zero, suc, ◌+◌, eqb, leb, length, take, drop}
use Rattle.ring.specs.Letters.{digit}
use Rattle.ring.specs.Polynomial.{Polynomial}
use Rattle.ring.specs.Table.{table, answer_table}
use Rattle.solution.specs.Substitution.{Substitution}
use Rattle.solution.specs.Condition.{Condition, under_fact}
use Rattle.solution.specs.Order.{default_bytes}
use Rattle.solution.specs.Elimination.{Verdict, solved, none}
use Rattle.entry.specs.Record.{Record, route_field, unknowns_field, givens_field, mask_field, state_field, size, kind, value_of, is_end}
use Rattle.entry.specs.Record.{is_answer, is_none, is_order, is_monomial, table_in}

-- the record that the bytes begin with, no bytes where there is no whole one
unfoldable pub next : List ℕ → Record
next bs = cond (leb (size (kind bs)) (length bs)) (take (size (kind bs)) bs) []

-- a record and those behind it: nothing behind 'kind 4 .. end of entry', and nothing where no whole record stands
unfoldable pub until_end : Record → List Record → List Record
until_end [] rs = []
until_end (b ∷ r) rs = (b ∷ r) ∷ cond (is_end (b ∷ r)) [] rs

-- the records that bytes begin with, k at most
unfoldable pub first_records : ℕ → List ℕ → List Record
first_records zero bs = []
first_records (suc k) bs = until_end (next bs) (first_records k (drop (length (next bs)) bs))

-- the records that bytes hold: to the first kind 4, or to where no whole record stands
unfoldable pub records : List ℕ → List Record
records bs = first_records (length bs) bs

-- the first record
abbrev pub first : List Record → Record
first [] = []
first (r ∷ rs) = r

-- the route, U and G
abbrev pub route_of : List Record → ℕ
route_of rs = value_of route_field (first rs)

abbrev pub unknowns_of : List Record → ℕ
unknowns_of rs = value_of unknowns_field (first rs)

abbrev pub givens_of : List Record → ℕ
givens_of rs = value_of givens_field (first rs)

-- the order, in bytes: those of the kind 6 record that 'follows kind 1'. 'It is left out for the order 0, 1, 2 and so on'
abbrev pub second : List Record → Record
second [] = []
second (r ∷ rs) = first rs

unfoldable pub order_in : List Record → List ℕ
order_in rs = cond (is_order (second rs)) (drop 1 (second rs)) (default_bytes (unknowns_of rs))

-- is the monomial with the mask m in the records, for the fact, 0, the condition, 1, or the answer of unknown j, j + 2?
unfoldable pub has_monomial : ℕ → ℕ → List Record → Bool
has_monomial i m [] = false
has_monomial i m (r ∷ rs) = (is_monomial r && (eqb i (table_in r) && eqb m (value_of mask_field r))) || has_monomial i m rs

-- the fact: 'Kind 7, two bytes, holds a monomial of g'. 'Without them g is 0'
unfoldable pub fact_in : List Record → Polynomial
fact_in rs m = has_monomial 0 m rs

-- the condition: 'kind 2 .. a monomial of the condition'
unfoldable pub condition_in : List Record → Polynomial
condition_in rs m = has_monomial 1 m rs

-- 'the answer that it holds for an unknown is the polynomial whose monomials stand in the kind 3 records with that unknown's number,
-- 0 if there are none'
unfoldable pub answers_in : List Record → Substitution
answers_in rs j m = has_monomial (suc (suc j)) m rs

-- how many records are of kind 3: 'judge a circuit by its monomials' (document 02, C-17)
unfoldable pub answer_count : List Record → ℕ
answer_count [] = 0
answer_count (r ∷ rs) = digit (is_answer r) + answer_count rs

-- 'It says 'none' and the state by kind 5. Without kind 5', it says that a is the answer
unfoldable pub unless_none : {A : Type 0} → A → List Record → Verdict A
unless_none a [] = solved a
unless_none a (r ∷ rs) = cond (is_none r) (none (record { 0 = value_of state_field r })) (unless_none a rs)

-- what an entry says, in polynomials
unfoldable pub says : List Record → Verdict Substitution
says rs = unless_none (answers_in rs) rs

-- the same in tables: the condition with its fact, and the answers or 'none' and the state
unfoldable pub held_condition : List Record → Condition
held_condition rs =
    under_fact (unknowns_of rs) (givens_of rs) (take (unknowns_of rs) (order_in rs))
    (table (unknowns_of rs + givens_of rs) (fact_in rs)) (table (unknowns_of rs + givens_of rs) (condition_in rs))

unfoldable pub held_verdict : List Record → Verdict (List ℕ)
held_verdict rs = unless_none (answer_table (unknowns_of rs) (unknowns_of rs + givens_of rs) (answers_in rs)) rs
