-- The laws of Boole's ring on Bool, how two Bools are shown equal, and what a test that is true or false tells.
-- Assumes nothing.
use mathlib.Core.Path.{◌≡◌, refl, sym, ◌∙◌}
use mathlib.Core.Logic.{◌⊎◌, inl, inr}
use mathlib.Core.Bool.{Bool, true, false, not, ◌&&◌, ◌||◌, and_comm, and_assoc, and-false, and-true, and_self, or-true, beq}
use mathlib.Core.Bool.{true≢false}
use Prim.Native.Nat.{◌<◌}
use native.Mathlib.Omega.{arith}
use lib.Dec.{eqb}
use Rattle.ring.specs.Letters.{digit}
use Rattle.ring.specs.Polynomial.{◌⊕◌}

pub xor_false : (a : Bool) → (a ⊕ false) ≡ a
xor_false true = refl
xor_false false = refl

pub xor_self : (a : Bool) → (a ⊕ a) ≡ false
xor_self true = refl
xor_self false = refl

pub xor_comm : (a b : Bool) → (a ⊕ b) ≡ (b ⊕ a)
xor_comm true true = refl
xor_comm true false = refl
xor_comm false true = refl
xor_comm false false = refl

pub xor_assoc : (a b c : Bool) → (a ⊕ b ⊕ c) ≡ (a ⊕ (b ⊕ c))
xor_assoc true true c = not-not c
  where
    not-not : (x : Bool) → x ≡ not (not x)
    not-not true = refl
    not-not false = refl
xor_assoc true false c = refl
xor_assoc false b c = refl

pub xor_left_comm : (a b c : Bool) → (a ⊕ (b ⊕ c)) ≡ (b ⊕ (a ⊕ c))
xor_left_comm true true c = refl
xor_left_comm true false c = refl
xor_left_comm false true c = refl
xor_left_comm false false c = refl

pub and_left_comm : (a b c : Bool) → (a && (b && c)) ≡ (b && (a && c))
and_left_comm true true c = refl
and_left_comm true false c = refl
and_left_comm false true c = refl
and_left_comm false false c = refl

pub and_xor : (a b c : Bool) → (a && (b ⊕ c)) ≡ ((a && b) ⊕ (a && c))
and_xor true b c = refl
and_xor false b c = refl

pub xor_and : (a b c : Bool) → ((a ⊕ b) && c) ≡ ((a && c) ⊕ (b && c))
xor_and true true true = refl
xor_and true true false = refl
xor_and true false true = refl
xor_and true false false = refl
xor_and false b c = refl

pub bool_iff : (a b : Bool) → (a ≡ true → b ≡ true) → (b ≡ true → a ≡ true) → a ≡ b
bool_iff true true f g = refl
bool_iff true false f g = sym (f refl)
bool_iff false true f g = g refl
bool_iff false false f g = refl

pub ruleset ac = (xor_assoc, xor_comm, xor_left_comm, and_assoc, and_comm, and_left_comm)

pub ruleset ring =
    (xor_assoc, xor_comm, xor_left_comm, and_assoc, and_comm, and_left_comm, and_xor, xor_and, xor_false, and-false, and-true, and_self)

-- `s|t` is s + t + s*t
pub or_ring : (a b : Bool) → (a ⊕ b ⊕ (a && b)) ≡ (a || b)
or_ring true true = refl
or_ring true false = refl
or_ring false true = refl
or_ring false false = refl

-- a program's `^` on bools
pub xor_code : (a b : Bool) → not (beq a b) ≡ (a ⊕ b)
xor_code true true = refl
xor_code true false = refl
xor_code false true = refl
xor_code false false = refl

-- ---- a Bool as a byte
pub digit_lt : (b : Bool) → digit b < 2
digit_lt true = omega arith
digit_lt false = omega arith

-- a digit read as a Bool
pub bit-digit : (b : Bool) → eqb (digit b) 1 ≡ b
bit-digit true = refl
bit-digit false = refl

-- ---- tests
pub and_left : (p q : Bool) → (p && q) ≡ true → p ≡ true
and_left true q e = refl
and_left false q e = e

pub and_right : (p q : Bool) → (p && q) ≡ true → q ≡ true
and_right true q e = e
and_right false q e = absurd (true≢false (sym e))

pub both : {p q : Bool} → p ≡ true → q ≡ true → (p && q) ≡ true
both e f = rw (e, f)

pub or_cases : (p q : Bool) → (p || q) ≡ true → (p ≡ true) ⊎ (q ≡ true)
or_cases true q e = inl refl
or_cases false q e = inr e

pub or_right : (p : Bool) {q : Bool} → q ≡ true → (p || q) ≡ true
or_right p e = rw e (or-true p)

pub bool_cases : (p : Bool) → (p ≡ true) ⊎ (p ≡ false)
bool_cases true = inl refl
bool_cases false = inr refl

pub never : {A : Type 0} {p : Bool} → p ≡ true → p ≡ false → A
never e f = absurd (true≢false (sym e ∙ f))

-- the code's test of two bools
pub same_bool : (a b : Bool) → beq a b ≡ true → a ≡ b
same_bool true true h = refl
same_bool true false h = sym h
same_bool false true h = h
same_bool false false h = refl
