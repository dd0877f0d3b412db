-- The bytes that are 1 by the loops over them: one byte more, and one block more.
-- Assumes nothing.
use mathlib.Core.Path.{◌≡◌, sym, ap, ap₂, subst, ◌∙◌}
use mathlib.Core.List.{List, ◌++◌}
use Prim.Native.Nat.{ℕ, ◌+◌, ◌*◌, ◌^◌, ◌≤◌, ◌<◌}
use native.Mathlib.Omega.{arith}
use lib.Dec.{eqb}
use lib.ListN.{length, get_or, take, length-append, get_or-append}
use lib.Seq.{length-take-le, get_or-append-add}
use Rattle.ring.specs.Polynomial.{count}
use Rattle.ring.specs.Length.{total_count}
use Rattle.ring.specs.Table.{AreBits, held, present}
use Rattle.ring.proofs.Length.{total_bytes, total_take}
use Rattle.ring.proofs.Parity.{count_next, count_add, count_cong}
use Rattle.tables.proofs.Bits.{byte_digit}

-- a byte that is 0 or 1 adds itself
pub byte_more : (t : List ℕ) (i found : ℕ) → AreBits t → found ≡ count i (present t) → found + get_or t i 0 ≡ count (i + 1) (present t)
unfolding present
byte_more t i found bits e = count_next (present t) i found (get_or t i 0) e (byte_digit (get_or t i 0) (bits i))

-- the bytes that are 1 in two parts
count_apart : (b r : List ℕ) → count (length (b ++ r)) (present (b ++ r)) ≡ count (length b) (present b) + count (length r) (present r)
unfolding present
count_apart b r =
    ap (λ (k : ℕ). count k (present (b ++ r))) (length-append b r)
    ∙ count_add (length b) (length r) (present (b ++ r))
    ∙ ap₂ ◌+◌ (count_cong (length b) _ _ (λ i l. ap (λ (x : ℕ). eqb x 1) (get_or-append b r 0 i l)))
    (count_cong (length r) _ _ (λ i l. ap (λ (x : ℕ). eqb x 1) (get_or-append-add b r i 0)))

-- a block adds the count of its bytes
module _ (t block rest : List ℕ) (total found few : ℕ) (parts : t ≡ block ++ rest) (left : found + count (length t) (present t) ≡ total)
    (counted : few ≡ count (length block) (present block)) where
  pub block_more : found + few + count (length rest) (present rest) ≡ total
  block_more = omega (arith, ap (λ (l : List ℕ). count (length l) (present l)) parts, count_apart block rest)

  pub bits_left : AreBits t → AreBits rest
  bits_left bits m = subst (λ (x : ℕ). x < 2) (ap (λ (l : List ℕ). get_or l (length block + m) 0) parts ∙ get_or-append-add block rest m 0) (bits (length block + m))

-- nothing is left
pub none_left : (t : List ℕ) → length t ≡ 0 → count (length t) (present t) ≡ 0
unfolding count
none_left t e = rw e

-- the bytes of U tables are the total over the unknowns
pub part_total : (u n : ℕ) (t part : List ℕ) {found : ℕ} → u * 2 ^ n ≤ length t → part ≡ take (u * 2 ^ n) t
    → found ≡ count (length part) (present part)
    → found ≡ total_count u n (held n t)
part_total u n t part h ep e =
    e ∙ rw (ep, length-take-le (u * 2 ^ n) t h) (sym (total_bytes u n (take (u * 2 ^ n) t)) ∙ total_take u n t)
