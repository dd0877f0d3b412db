-- The bytes of the records that some bytes hold are these bytes, as far as the records go.
-- Assumes nothing.
use mathlib.Core.Path.{◌≡◌, refl}
use mathlib.Core.Bool.{Bool, true, false, cond}
use mathlib.Core.List.{List, [], ◌∷◌, ◌++◌}
use Prim.Native.Nat.{ℕ, zero, suc}
use lib.ListN.{length, take, drop, length-append}
use lib.Seq.{take-add}
use Rattle.entry.specs.Record.{Record, bytes, is_end}
use Rattle.entry.specs.Held.{next, until_end, first_records, records}
use Rattle.entry.proofs.Records.{next_front}

-- bytes in two parts, the second behind the first
joined : (r rest bs : List ℕ) → r ≡ take (length r) bs → rest ≡ take (length rest) (drop (length r) bs)
    → r ++ rest ≡ take (length (r ++ rest)) bs
joined r rest bs e f = rw (length-append r rest, take-add (length r) (length rest) bs, ← e, ← f)

-- those of a record and the ones behind it
until_bytes : (r : Record) (rs : List Record) (bs : List ℕ) → r ≡ take (length r) bs
    → bytes rs ≡ take (length (bytes rs)) (drop (length r) bs)
    → bytes (until_end r rs) ≡ take (length (bytes (until_end r rs))) bs
unfolding bytes until_end
until_bytes [] rs bs e f = refl
until_bytes (b ∷ r) rs bs e f = go (is_end (b ∷ r))
  where
    go : (end : Bool) → (b ∷ r) ++ bytes (cond end [] rs) ≡ take (length ((b ∷ r) ++ bytes (cond end [] rs))) bs
    go true = joined (b ∷ r) [] bs e refl
    go false = joined (b ∷ r) (bytes rs) bs e f

first_bytes : (k : ℕ) (bs : List ℕ) → bytes (first_records k bs) ≡ take (length (bytes (first_records k bs))) bs
unfolding first_records bytes
first_bytes zero bs = refl
first_bytes (suc k) bs =
    until_bytes (next bs) (first_records k (drop (length (next bs)) bs)) bs (next_front bs) (first_bytes k (drop (length (next bs)) bs))

pub records-bytes : (bs : List ℕ) → bytes (records bs) ≡ take (length (bytes (records bs))) bs
unfolding records
records-bytes bs = first_bytes (length bs) bs
