-- The written order on literals, and tables that the test refuses. Assumes nothing.
use mathlib.Core.Path.{◌≡◌, refl, ap}
use mathlib.Core.Bool.{true, false}
use mathlib.Core.List.{[], ◌∷◌}
use Prim.Native.Nat.{ℕ}
use native.Mathlib.Omega.{arith}
use lib.Dec.{leb}
use lib.ListN.{length}
use Rattle.ring.specs.Letters.{bit}
use Rattle.ring.specs.Lists.{listed}
use Rattle.ring.specs.Polynomial.{count}
use Rattle.order.specs.Order.{letters, keep, below, groups, order}
use Rattle.order.proofs.Letters.{letters_in}
use Rattle.order.proofs.Places.{rank_in, climbs, is_order}

-- no letter, one, two, three
pub order_of_three : order 3 ≡ 0 ∷ 1 ∷ 2 ∷ 4 ∷ 3 ∷ 5 ∷ 6 ∷ 7 ∷ []
unfolding order groups keep below listed letters count bit
order_of_three = refl

pub table_passes : is_order 3 (0 ∷ 1 ∷ 2 ∷ 4 ∷ 3 ∷ 5 ∷ 6 ∷ 7 ∷ []) ≡ true
unfolding is_order climbs rank_in letters_in
table_passes = refl

-- two masks exchanged
pub exchanged_refused : is_order 3 (0 ∷ 1 ∷ 2 ∷ 4 ∷ 5 ∷ 3 ∷ 6 ∷ 7 ∷ []) ≡ false
unfolding is_order climbs rank_in letters_in
exchanged_refused = refl

-- one mask twice, in place of another and beside it
pub twice_refused : is_order 3 (0 ∷ 1 ∷ 2 ∷ 4 ∷ 3 ∷ 3 ∷ 6 ∷ 7 ∷ []) ≡ false
unfolding is_order climbs rank_in letters_in
twice_refused = refl

pub longer_refused : is_order 3 (0 ∷ 1 ∷ 2 ∷ 4 ∷ 3 ∷ 5 ∷ 5 ∷ 6 ∷ 7 ∷ []) ≡ false
unfolding is_order climbs rank_in letters_in
longer_refused = refl

-- one mask left out
pub missing_refused : is_order 3 (0 ∷ 1 ∷ 2 ∷ 4 ∷ 3 ∷ 5 ∷ 7 ∷ []) ≡ false
unfolding is_order climbs rank_in letters_in
missing_refused = refl

-- a mask that is too large
pub large_refused : is_order 3 (0 ∷ 1 ∷ 2 ∷ 4 ∷ 3 ∷ 5 ∷ 6 ∷ 11 ∷ []) ≡ false
unfolding is_order climbs rank_in letters_in
large_refused = refl

-- two letters skip 4 and more of three; a walk that lets 4 pass has one mask too many
pub too_large_refuted : keep (λ m. leb m 4) (order 3) ≡ order 2 → ⊥
unfolding order groups keep below listed letters count bit
too_large_refuted e = let l : ◌≡◌ {A = ℕ} 5 4 = ap length e in omega arith
