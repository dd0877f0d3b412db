-- Numbers in decimal: what std's `decimal` says of a number's text is what `decimal` here says.
-- Assumes nothing.
use mathlib.Core.Path.{◌≡◌, sym}
use mathlib.Core.Bool.{cond}
use mathlib.Core.List.{[], ◌∷◌, ◌++◌}
use Prim.Native.Nat.{ℕ, suc, ◌+◌, ◌*◌, ◌/◌, ◌%◌, ◌^◌, ◌≤◌, ◌<◌}
use native.Mathlib.Decide.{dec_le}
use native.Mathlib.Omega.{arith}
use lib.Dec.{ltb}
use borrow.Author.Tests.{lt-ltb, le-ltb}
use Rattle.std.specs.Fmt.{decimal as std_decimal}
use Rattle.std.proofs.lemmas.Fmt.{AppendsLastDigit, decimal_from_appends, length-decimal-le_succ}
use Rattle.printing.specs.Print.{digit_byte, decimal_in, decimal}

-- a digit without a branch: from 10 on it stands 39 further on
pub digit_at : (d : ℕ) → d < 16 → 48 + d + 39 * ((d + 6) / 16) ≡ digit_byte d
unfolding digit_byte
digit_at d h = go (dec_le 10 d)
  where
    go : Dec (10 ≤ d) → 48 + d + 39 * ((d + 6) / 16) ≡ cond (ltb d 10) (48 + d) (87 + d)
    go (yes l) = let e : (d + 6) / 16 ≡ 1 = omega arith in rw (le-ltb d 10 l, e) (omega arith)
    go (no l) =
        let s : d < 10 = omega arith in
        let e : (d + 6) / 16 ≡ 0 = omega arith in
        rw (lt-ltb d 10 s, e) (omega arith)

-- the digits here are appended one by one, the last behind those before it
appends : AppendsLastDigit decimal_in
unfolding decimal_in digit_byte
appends = record { one = λ k n h. rw (lt-ltb n 10 h); more = more }
  where
    more : (k n : ℕ) → 10 ≤ n → decimal_in (suc k) n ≡ decimal_in k (n / 10) ++ ((48 + n % 10) ∷ [])
    more k n l = let s : n % 10 < 10 = omega arith in rw (le-ltb n 10 l, lt-ltb (n % 10) 10 s)

pub std_digits : (n : ℕ) → n < 2 ^ 64 → std_decimal n ≡ decimal n
unfolding decimal
std_digits n h = sym (decimal_from_appends decimal_in appends (suc n) n h (omega (arith, length-decimal-le_succ n h)))
