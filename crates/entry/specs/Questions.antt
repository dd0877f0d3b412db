-- The questions that are put to an entry: 2, 10, 11, 12 and 13 (document 01, 'The questions, and the number if the answer is no';
-- document 02, C-11 and C-16). Their order is in `calls`.
-- Each is a Bool function, total on any records, and so on any bytes.
-- Assumes nothing.
use Rattle.std.specs.Prelude.{Bool, true, false, ◌&&◌, ◌||◌, not, cond, List, [], ◌∷◌, ℕ, zero, suc, eqb, leb, ltb, get_or}
use Rattle.ring.specs.Lists.{has}
use Rattle.order.specs.Order.{before}
use Rattle.solution.specs.Elimination.{Verdict, solved, none, solve}
use Rattle.entry.specs.Record.{Record, route_field, mask_field, kind, value_of, is_end, is_monomial, table_in, in_bounds, same_bytes}
use Rattle.entry.specs.Held.{route_of, unknowns_of, givens_of, held_condition, held_verdict}

-- 2: 'Is the route 1 to 250?'
unfoldable pub route_fits : ℕ → Bool
route_fits route = leb 1 route && leb route 250

-- 10: 'Does every record, to the first kind 4, have kind 1 to 5 and a whole body, and is there a kind 4?' 'Question 10 accepts kind 6',
-- and kind 7 stands 'under questions 10 to 12'.
-- Records go to the first kind 4 or to where no whole record stands, so that the question is whether there is a kind 4 among them
unfoldable pub has_end : List Record → Bool
has_end [] = false
has_end (r ∷ rs) = is_end r || has_end rs

-- 'An entry is one kind 1; kind 2 ..; kind 3 .., or one kind 5; one kind 4', 'A kind 6 record .. follows kind 1', and those of kind 7
-- 'follow kind 6 or kind 1': the kinds that may stand right behind each kind, kind 1 first
abbrev pub followers : List (List ℕ)
followers =
    (2 ∷ 3 ∷ 4 ∷ 5 ∷ 6 ∷ 7 ∷ [])
    ∷ (2 ∷ 3 ∷ 4 ∷ 5 ∷ [])
    ∷ (3 ∷ 4 ∷ [])
    ∷ []
    ∷ (4 ∷ [])
    ∷ (2 ∷ 3 ∷ 4 ∷ 5 ∷ 7 ∷ [])
    ∷ (2 ∷ 3 ∷ 4 ∷ 5 ∷ 7 ∷ [])
    ∷ []

-- may kind k stand right behind kind p, or first, where p is 0?
unfoldable pub may_follow : ℕ → ℕ → Bool
may_follow zero k = eqb k 1
may_follow (suc p) k = has k (get_or followers p [])

-- 11, behind a record of kind p, or first, where p is 0: each kind may follow the one before, and kind 4 has the route
unfoldable pub kinds_follow : ℕ → ℕ → List Record → Bool
kinds_follow p again [] = false
kinds_follow p again (r ∷ rs) = may_follow p (kind r) && cond (is_end r) (eqb (value_of route_field r) again) (kinds_follow (kind r) again rs)

-- 11: 'Are the kinds in the entry's order, both routes equal?'
unfoldable pub kinds_fit : List Record → Bool
kinds_fit rs = kinds_follow 0 (route_of rs) rs

-- 12, of every record: 'Are masks below 2^n, unknowns below U, the state below 2^G'
unfoldable pub all_in_bounds : ℕ → ℕ → List Record → Bool
all_in_bounds U G [] = true
all_in_bounds U G (r ∷ rs) = in_bounds U G r && all_in_bounds U G rs

-- does r stand before s by table, the fact, the condition and then the unknowns, and within a table in written order?
unfoldable pub stands_before : Record → Record → Bool
stands_before r s = ltb (table_in r) (table_in s) || (eqb (table_in r) (table_in s) && before (value_of mask_field r) (value_of mask_field s))

-- 12, of two records, one right behind the other: 'all in order, none twice' of two monomials
unfoldable pub in_order : Record → Record → Bool
in_order r s = not (is_monomial r && is_monomial s) || stands_before r s

unfoldable pub all_in_order : List Record → Bool
all_in_order [] = true
all_in_order (r ∷ []) = true
all_in_order (r ∷ (s ∷ rs)) = in_order r s && all_in_order (s ∷ rs)

-- 12: 'Are masks below 2^n, unknowns below U, the state below 2^G, all in order, none twice?'
unfoldable pub numbers_fit : List Record → Bool
numbers_fit rs = all_in_bounds (unknowns_of rs) (givens_of rs) rs && all_in_order rs

-- both are solved, with the same answers, or both 'none', with the same state
abbrev pub same_verdict : Verdict (List ℕ) → Verdict (List ℕ) → Bool
same_verdict (solved a) (solved b) = same_bytes a b
same_verdict (solved a) (none state) = false
same_verdict (none state) (solved b) = false
same_verdict (none state) (none other) = eqb state.0 other.0

-- 13: 'Do the answers, or the state, equal those solved afresh?'
unfoldable pub answers_hold : List Record → Bool
answers_hold rs = same_verdict (held_verdict rs) (solve (held_condition rs))
