-- An order that lists each unknown once has no letter twice, and no more slots than the scratch words hold.
-- Assumes nothing.
use mathlib.Core.Path.{◌≡◌, refl}
use mathlib.Core.Bool.{true}
use mathlib.Core.List.{List, [], ◌∷◌}
use Prim.Native.Nat.{ℕ, ◌*◌, ◌≤◌}
use native.Mathlib.Nat.{mul-le-mul}
use native.Mathlib.Omega.{arith}
use lib.Dec.{ltb}
use lib.ListN.{length}
use borrow.Author.Tests.{eq-eqb}
use Rattle.ring.specs.Lists.{times}
use Rattle.ring.proofs.Bool.{digit_lt}
use Rattle.solution.specs.Condition.{ListsEach}
use Rattle.solution.proofs.Order.{absent_times, each_length}
use Rattle.elimination.specs.Inner.Stages.{no_repeats}

-- a list in which each letter stands at most once
once : (order : List ℕ) → ((x : ℕ) → times x order ≤ 1) → no_repeats order ≡ true
unfolding no_repeats times
once [] most = refl
once (y ∷ order) most =
    let self : times y order ≡ 0 = omega (arith, (rw (eq-eqb y y refl) at (most y))) in
    rw (absent_times y order self) (once order (λ x. omega (arith, most x)))

pub each_once : (U : ℕ) (order : List ℕ) → ListsEach U order → no_repeats order ≡ true
each_once U order each = once order (λ x. omega (arith, each x, digit_lt (ltb x U)))

-- six unknowns at most, and sixteen words to each
pub slots_fit : (u k : ℕ) (order : List ℕ) → ListsEach u order → u ≤ 6 → k ≤ 16 → length order * k ≤ 96
slots_fit u k order each h l = let few : length order ≤ 6 = omega (arith, each_length u order each) in mul-le-mul few l
