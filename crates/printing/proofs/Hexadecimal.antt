-- Bytes in hexadecimal: the loop that puts two digits for each.
-- Assumes nothing.
use mathlib.Core.Path.{◌≡◌, refl, ap}
use mathlib.Core.List.{List, [], ◌∷◌, ◌++◌}
use Prim.Native.Nat.{ℕ, ◌+◌, ◌*◌, ◌/◌, ◌%◌, ◌≤◌, ◌<◌}
use native.Mathlib.Numerals.{add-one}
use native.Mathlib.Omega.{arith}
use lib.ListN.{length, get_or, set, take}
use lib.Seq.{take-suc, length-take-le}
use Rattle.tables.specs.Inner.Put.{Put}
use Rattle.tables.proofs.Put.{put_length, put_both, put_two}
use Rattle.printing.specs.Print.{digit_byte, hexadecimal}

hex_snoc : (xs : List ℕ) (x : ℕ) → hexadecimal (xs ++ (x ∷ [])) ≡ hexadecimal xs ++ (digit_byte (x / 16) ∷ digit_byte (x % 16) ∷ [])
unfolding hexadecimal
hex_snoc [] x = refl
hex_snoc (y ∷ xs) x = ap (λ (l : List ℕ). digit_byte (y / 16) ∷ digit_byte (y % 16) ∷ l) (hex_snoc xs x)

pub hex_length : (xs : List ℕ) → length (hexadecimal xs) ≡ 2 * length xs
unfolding hexadecimal
hex_length [] = refl
hex_length (x ∷ xs) = omega (arith, hex_length xs)

module _ (bytes : List ℕ) (i : ℕ) {old new : List ℕ} {at end : ℕ} (p : Put old at (hexadecimal (take i bytes)) end new) (l : i < length bytes)
    (room : at + 2 * length bytes ≤ length old) where
  pub hex_room : end + 2 ≤ length new
  hex_room = omega (arith, p.place, put_length p, hex_length (take i bytes), length-take-le i bytes (omega arith))

  pub hex_more : {high low : ℕ} → high ≡ digit_byte (get_or bytes i 0 / 16) → low ≡ digit_byte (get_or bytes i 0 % 16)
      → Put old at (hexadecimal (take (i + 1) bytes)) (end + 2) (set (set new end high) (end + 1) low)
  hex_more {high} {low} eh el =
      rw (add-one i, take-suc bytes i 0 l, hex_snoc, ← eh, ← el) (put_both p (put_two new end high low hex_room))
