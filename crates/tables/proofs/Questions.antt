-- What a yes to questions 1, 4 and 8 tells.
-- Assumes nothing.
use mathlib.Core.Path.{◌≡◌, refl, sym, ◌∙◌}
use mathlib.Core.Bool.{Bool, true, false, not}
use mathlib.Core.List.{List, [], ◌∷◌}
use Prim.Native.Nat.{ℕ, ◌+◌, ◌*◌, ◌^◌, ◌≤◌}
use native.Mathlib.Nat.{mul-le-mul}
use native.Mathlib.Omega.{arith}
use lib.Dec.{leb}
use lib.Pow.{pow_mono}
use lib.ListN.{length, take}
use lib.Seq.{length-take-le}
use borrow.Author.Tests.{leb-true, not-true, not-false}
use Rattle.ring.specs.Table.{AreBits, IsTable}
use Rattle.ring.proofs.Bool.{and_left, and_right}
use Rattle.tables.specs.Questions.{first_no, letters_fit, has_room, are_bits, holds_bits, reads, writes, room_questions, bit_questions, buffer_questions}
use Rattle.tables.proofs.Bits.{are_bits_lem}

-- a question's answer as the code has it, in a bool that a branch then tests
pub failed : {r x : Bool} → r ≡ x → not r ≡ true → x ≡ false
failed {r} {x} e t = sym e ∙ not-true r t

pub passed : {r x : Bool} → r ≡ x → not r ≡ false → x ≡ true
passed {r} {x} e t = sym e ∙ not-false r t

-- ---- question 1
pub letters_small : (u g : ℕ) → letters_fit u g ≡ true → u + g ≤ 10
unfolding letters_fit
letters_small u g e = leb-true _ _ (and_right (leb g 8) (leb (u + g) 10) (and_right (leb u 6) _ e))

pub unknowns_small : (u g : ℕ) → letters_fit u g ≡ true → u ≤ 6
unfolding letters_fit
unknowns_small u g e = leb-true _ _ (and_left (leb u 6) _ e)

pub givens_small : (u g : ℕ) → letters_fit u g ≡ true → g ≤ 8
unfolding letters_fit
givens_small u g e = leb-true _ _ (and_left (leb g 8) (leb (u + g) 10) (and_right (leb u 6) _ e))

-- the number of points of at most ten letters is small enough for every sum and product that the code forms of it
pub pow_small : (k n : ℕ) → k ≡ 2 ^ n → n ≤ 10 → k ≤ 1024
pow_small k n e h = rw e (pow_mono h)

-- so many tables are a number of bytes that the code can hold
pub tables_fit : (count k u g : ℕ) → count ≤ u + 1 → k ≡ 2 ^ (u + g) → letters_fit u g ≡ true → count * k ≤ 7168
tables_fit count k u g h e l =
    let c : count ≤ 7 = omega (arith, unknowns_small u g l) in
    let b : k ≤ 1024 = pow_small k (u + g) e (letters_small u g l) in
    mul-le-mul c b

-- ---- questions 4 and 8
pub room_enough : (k size : ℕ) → has_room k size ≡ true → k ≤ size
unfolding has_room
room_enough k size e = leb-true k size e

pub room_length_lem : (k : ℕ) (t : List ℕ) → has_room k (length t) ≡ true → length (take k t) ≡ k
room_length_lem k t e = length-take-le k t (room_enough k (length t) e)

pub held_bits : (k : ℕ) (t : List ℕ) → holds_bits k t ≡ true → AreBits (take k t)
unfolding holds_bits
held_bits k t e = are_bits_lem (take k t) e

-- a table that is lent with room and with bits
pub lent_table : (n k : ℕ) (t : List ℕ) → k ≡ 2 ^ n → has_room (2 ^ n) (length t) ≡ true → holds_bits (2 ^ n) t ≡ true → IsTable n (take k t)
lent_table n k t e room bits = rw e (record { size = room_length_lem (2 ^ n) t room; bits = held_bits (2 ^ n) t bits })

-- 4 goes to every buffer before 8 goes to any table
pub rooms_first : first_no (buffer_questions (reads 1 (2 ∷ []) ∷ writes 1 0 ∷ [])) ≡ 4
unfolding first_no buffer_questions room_questions bit_questions has_room holds_bits are_bits
rooms_first = refl
