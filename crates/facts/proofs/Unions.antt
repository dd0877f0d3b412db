-- A loop that takes the union of bytes of a table: it is 0 exactly if every number so far passes a test, where a byte that is looked at
-- passes if its monomial is absent.
-- Assumes nothing.
use mathlib.Core.Path.{◌≡◌, refl, sym, ap, ap₂, ◌∙◌}
use mathlib.Core.Bool.{Bool, true, not, ◌&&◌, and-true, and-false}
use mathlib.Core.List.{List}
use Prim.Native.Nat.{ℕ, zero, suc, ◌+◌, ◌-◌, ◌%◌, ◌^◌, ◌<◌}
use native.Mathlib.Numerals.{add-one}
use native.Mathlib.Omega.{arith}
use lib.Dec.{eqb}
use lib.Bits.{bit_and, bit_or, or_add_and, and_le_l, and_le_r, and_mask}
use lib.ListN.{get_or}
use borrow.Author.Tests.{eqb-true, eq-eqb, ne_eqb}
use Rattle.ring.specs.Polynomial.{Polynomial, every_below}
use Rattle.ring.specs.Table.{AreBits, present}
use Rattle.ring.proofs.Bool.{bool_iff, and_left, and_right, both}

-- a union is 0 exactly if both bytes are
or_zero : (a b : ℕ) → eqb (bit_or a b) 0 ≡ (eqb a 0 && eqb b 0)
or_zero a b =
    bool_iff (eqb (bit_or a b) 0) (eqb a 0 && eqb b 0)
    (λ e.
    let h : bit_or a b ≡ 0 = eqb-true _ _ e in
    both (eq-eqb a 0 (omega (arith, or_add_and a b, and_le_r a b))) (eq-eqb b 0 (omega (arith, or_add_and a b, and_le_l a b))))
    (λ e.
    let ha : a ≡ 0 = eqb-true _ _ (and_left (eqb a 0) (eqb b 0) e) in
    let hb : b ≡ 0 = eqb-true _ _ (and_right (eqb a 0) (eqb b 0) e) in
    eq-eqb (bit_or a b) 0 (omega (arith, or_add_and a b)))

byte_absent : (b : ℕ) → b < 2 → eqb b 0 ≡ not (eqb b 1)
byte_absent zero h = refl
byte_absent (suc zero) h = refl
byte_absent (suc (suc b)) h = absurd (omega arith)

module _ (t : List ℕ) (test : ℕ → Bool) (union m : ℕ) (e : eqb union 0 ≡ every_below m test) where
  -- a byte that is looked at
  pub union_more : AreBits t → test m ≡ not (present t m) → eqb (bit_or union (get_or t m 0)) 0 ≡ every_below (m + 1) test
  unfolding every_below present
  union_more bits told = or_zero union (get_or t m 0) ∙ rw add-one (ap₂ ◌&&◌ e (byte_absent (get_or t m 0) (bits m) ∙ sym told))

  -- one that is passed over
  pub union_skip : test m ≡ true → eqb union 0 ≡ every_below (m + 1) test
  unfolding every_below
  union_skip told = e ∙ rw (add-one, told) (sym (and-true (every_below m test)))

-- question 22 of one monomial, and how it is answered where the monomial has an unknown and where it has none
abbrev pub monomial_fits : ℕ → Polynomial → ℕ → Bool
monomial_fits u g m = not (g m && not (eqb (m % 2 ^ u) 0))

-- the letters below u of a mask are those that it has in common with the mask of all unknowns
module _ (u m size : ℕ) (e : size ≡ 2 ^ u) (g : Polynomial) where
  unknowns_of_lem : bit_and m (size - 1) ≡ m % 2 ^ u
  unknowns_of_lem = ap (λ (x : ℕ). bit_and m (x - 1)) e ∙ and_mask m u

  pub with_unknown : (bit_and m (size - 1) ≡ 0 → ⊥) → monomial_fits u g m ≡ not (g m)
  with_unknown n = rw (ne_eqb (m % 2 ^ u) 0 (λ z. n (unknowns_of_lem ∙ z))) (ap not (and-true (g m)))

  pub without_unknown : bit_and m (size - 1) ≡ 0 → monomial_fits u g m ≡ true
  without_unknown z = rw (eq-eqb (m % 2 ^ u) 0 (sym unknowns_of_lem ∙ z)) (ap not (and-false (g m)))
