-- The present table with another joined to it: the join looks at the front parts alone.
-- Assumes nothing.
use mathlib.Core.Path.{◌≡◌, ap, ◌∙◌}
use mathlib.Core.List.{List, ◌++◌}
use Prim.Native.Nat.{ℕ, ◌^◌, ◌≤◌}
use lib.ListN.{length, take, drop}
use lib.Seq.{length-take-le}
use Rattle.ring.specs.Join.{join}
use Rattle.ring.specs.Table.{AreBits, IsTable, present, table}
use Rattle.ring.proofs.Join.{join_cong}
use Rattle.ring.proofs.Table.{table_cong, present-take}

pub front_table : (n k : ℕ) (t : List ℕ) → k ≡ 2 ^ n → k ≤ length t → AreBits (take k t) → IsTable n (take k t)
front_table n k t e l b = record { size = length-take-le k t l ∙ e; bits = b }

joined_front : (n k : ℕ) (t h : List ℕ) → k ≡ 2 ^ n
    → table n (join n (present (take k t)) (present (take k h))) ≡ table n (join n (present t) (present h))
joined_front n k t h e =
    table_cong n _ _
    (join_cong n (present (take k t)) (present t) (present (take k h)) (present h) (λ m l. present-take k t m (rw e l))
    (λ m l. present-take k h m (rw e l)))

pub joined_all : (n k : ℕ) (t h new : List ℕ) → k ≡ 2 ^ n → new ≡ table n (join n (present (take k t)) (present (take k h)))
    → new ++ drop k t ≡ table n (join n (present t) (present h)) ++ drop k t
joined_all n k t h new e f = ap (λ (l : List ℕ). l ++ drop k t) (f ∙ joined_front n k t h e)
