-- The particular solution and the own Löwenheim answers by their values, in any order: from Boole's answers where every unknown is 0.
-- Assumes nothing.
use mathlib.Core.Path.{◌≡◌, refl, sym, ap, ◌∙◌}
use mathlib.Core.Bool.{Bool, true, false, ◌&&◌, cond}
use mathlib.Core.List.{List}
use Prim.Native.Nat.{ℕ, ◌+◌, ◌*◌, ◌/◌, ◌%◌, ◌^◌, ◌<◌, ◌≤◌}
use native.Mathlib.Nat.{add-zero, zero-div}
use native.Mathlib.Omega.{arith}
use lib.Dec.{ltb}
use lib.Pow.{split, shl-shr}
use borrow.Author.Tests.{ltb-true, ltb-false, ne_eqb}
use Rattle.ring.specs.Letters.{bit}
use Rattle.ring.specs.Polynomial.{Polynomial, ◌⊕◌, value, constant, substitute}
use Rattle.ring.specs.Table.{for_unknowns}
use Rattle.ring.proofs.Points.{bit_low, point_where_cong, point_where_bits, bit_above}
use Rattle.ring.proofs.Value.{same_values}
use Rattle.ring.proofs.Substitute.{value-constant, value-for_unknowns}
use Rattle.solution.specs.Substitution.{Substitution, own_letters, put_in}
use Rattle.solution.specs.Elimination.{boole_answers, particular, own_lowenheim}
use Rattle.solution.specs.Inner.ByPoints.{zero_choice}
use Rattle.solution.proofs.Values.{value-lowenheim}
use Rattle.solution.proofs.General.{led, value_put_in_own}

-- every unknown at 0
zero_bit : (j : ℕ) → bit 0 j ≡ false
unfolding bit
zero_bit j = ne_eqb (0 / 2 ^ j % 2) 1 (let z : 0 / 2 ^ j ≡ 0 = zero-div (2 ^ j) in omega arith)

zero_choice_lt : (n U p : ℕ) → p < 2 ^ n → zero_choice U p < 2 ^ n
unfolding zero_choice
zero_choice_lt n U p h = omega (arith, split p U)

zero_choice_low : (U p j : ℕ) → j < U → bit (zero_choice U p) j ≡ false
unfolding zero_choice
zero_choice_low U p j h = ap (λ (x : ℕ). bit x j) (sym (add-zero (p / 2 ^ U * 2 ^ U))) ∙ bit_low (p / 2 ^ U) 0 U j h ∙ zero_bit j

zero_choice_high : (U p j : ℕ) → U ≤ j → bit (zero_choice U p) j ≡ bit p j
unfolding zero_choice
zero_choice_high U p j h = bit_above U j (p / 2 ^ U * 2 ^ U) p h (shl-shr (p / 2 ^ U) U)

module _ (U G : ℕ) (f : Polynomial) where
  abbrev n : ℕ
  n = U + G

  led_zero : (p : ℕ) → p < 2 ^ n → led U G (λ i. constant false) p ≡ zero_choice U p
  unfolding led
  led_zero p h = point_where_cong n _ _ (λ j l. go j (ltb j U) refl) ∙ point_where_bits n (zero_choice U p) (zero_choice_lt n U p h)
    where
      go : (j : ℕ) (b : Bool) → ltb j U ≡ b → cond b (value n (constant false) p) (bit p j) ≡ bit (zero_choice U p) j
      go j true e = value-constant n false p ∙ sym (zero_choice_low U p j (ltb-true j U e))
      go j false e = sym (zero_choice_high U p j (ltb-false j U e))

  -- the value of the particular solution, in any order: that of Boole's answer with every unknown at 0
  pub value-particular : (order : List ℕ) (j p : ℕ) → p < 2 ^ n
      → value n (particular U G order f j) p ≡ value n (boole_answers n f order j) (zero_choice U p)
  unfolding particular
  value-particular order j p h =
      value_put_in_own U G (boole_answers n f order j) (λ i. constant false) p h ∙ ap (value n (boole_answers n f order j)) (led_zero p h)

  -- the value of the own Löwenheim answer, in any order
  pub value-own_lowenheim : (order : List ℕ) (j p : ℕ) → j < n → p < 2 ^ n
      → value n (own_lowenheim U G order f j) p
      ≡ (bit p j ⊕ (value n f p && (bit p j ⊕ value n (boole_answers n f order j) (zero_choice U p))))
  unfolding own_lowenheim
  value-own_lowenheim order j p l h =
      value-lowenheim n f (particular U G order f) j p l
      ∙ ap (λ (b : Bool). bit p j ⊕ (value n f p && (bit p j ⊕ b))) (value-particular order j p h)

  -- handed polynomials put into f, over the engine's own list: the call's substitution
  pub put_in_own : (b : Substitution) (m : ℕ) → m < 2 ^ n → put_in U G (own_letters U G) f b m ≡ substitute n n f (for_unknowns U b) m
  unfolding led
  put_in_own b = same_values n _ _ (λ p h. value_put_in_own U G f b p h ∙ sym (value-for_unknowns n U f b p))
