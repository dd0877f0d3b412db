-- Question 12 by one rising number for each monomial, its table and then its rank in the written order, as the code asks it.
-- Assumes nothing.
use Rattle.std.specs.Prelude.{Bool, true, ◌&&◌, ◌||◌, cond, List, [], ◌∷◌, ℕ, suc, ◌+◌, ◌*◌, eqb, ltb}
use Rattle.order.specs.Inner.Place.{rank}
use Rattle.entry.specs.Record.{Record, mask_field, value_of, is_monomial, table_in, in_bounds}

-- the place of the monomial m of table i among all of an entry's; 0 is no place
unfoldable pub place : ℕ → ℕ → ℕ
place i m = suc (16384 * i + rank 10 m)

-- the place of a record, 0 if it holds no monomial
unfoldable pub place_of : Record → ℕ
place_of r = cond (is_monomial r) (place (table_in r) (value_of mask_field r)) 0

-- may a record with the place p stand right behind one with the place q?
unfoldable pub stands_behind : ℕ → ℕ → Bool
stands_behind q p = eqb p 0 || ltb q p

-- question 12 of the records behind one with the place q
unfoldable pub fits_behind : ℕ → ℕ → ℕ → List Record → Bool
fits_behind U G q [] = true
fits_behind U G q (r ∷ rs) = in_bounds U G r && (stands_behind q (place_of r) && fits_behind U G (place_of r) rs)
