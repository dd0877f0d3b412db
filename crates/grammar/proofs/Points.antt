-- The value of a tree at a point, which has the bits of the choice first and then those of the state: it is the value at the state and the
-- choice, and the value of the normal form. Equal values make equal tables.
-- Assumes nothing.
use mathlib.Core.Path.{◌≡◌, refl, ap, ap₂, ◌∙◌}
use mathlib.Core.Bool.{Bool, true, ◌&&◌}
use Prim.Native.Nat.{ℕ, ◌+◌, ◌^◌, ◌<◌}
use native.Mathlib.Omega.{arith}
use Rattle.ring.specs.declared.State.{State}
use Rattle.ring.specs.declared.Choice.{Choice}
use Rattle.ring.specs.Letters.{point}
use Rattle.ring.specs.Polynomial.{◌⊕◌, value}
use Rattle.ring.proofs.Points.{bit_choice, bit_state}
use Rattle.ring.proofs.Value.{value-sum, value-product}
use Rattle.ring.proofs.Substitute.{value-constant, value-letter}
use Rattle.ring.specs.Polynomial as polynomial
use Rattle.grammar.specs.Grammar.{Tree, constant, unknown, given, negation, times, plus, either}
use Rattle.grammar.specs.Meaning.{value_at, at_point, normal_form, Declared}

module _ (U G : ℕ) (state : State) (choice : Choice) (h : choice.0 < 2 ^ U) where
  pub at_point_lem : (t : Tree) → Declared U G t → at_point U t (point U state choice) ≡ value_at t state choice
  unfolding at_point value_at
  at_point_lem (constant b) d = refl
  at_point_lem (unknown j) d = bit_choice U state choice j d
  at_point_lem (given i) d = bit_state U state choice i h
  at_point_lem (negation t) d = ap (λ (x : Bool). x ⊕ true) (at_point_lem t d)
  at_point_lem (times s t) d = ap₂ ◌&&◌ (at_point_lem s d.0) (at_point_lem t d.1)
  at_point_lem (plus s t) d = ap₂ ◌⊕◌ (at_point_lem s d.0) (at_point_lem t d.1)
  at_point_lem (either s t) d = simp (at_point_lem s d.0, at_point_lem t d.1)

-- 'the value of the normal form is the tree's'
pub value_normal : (U G : ℕ) (t : Tree) (p : ℕ) → Declared U G t → value (U + G) (normal_form U G t) p ≡ at_point U t p
unfolding at_point normal_form
value_normal U G (constant b) p d = value-constant (U + G) b p
value_normal U G (unknown j) p d = value-letter (U + G) j p (omega arith)
value_normal U G (given i) p d = value-letter (U + G) (U + i) p (omega arith)
value_normal U G (negation t) p d =
    value-sum (U + G) (normal_form U G t) (polynomial.constant true) p ∙ ap₂ ◌⊕◌ (value_normal U G t p d) (value-constant (U + G) true p)
value_normal U G (times s t) p d =
    value-product (U + G) (normal_form U G s) (normal_form U G t) p ∙ ap₂ ◌&&◌ (value_normal U G s p d.0) (value_normal U G t p d.1)
value_normal U G (plus s t) p d =
    value-sum (U + G) (normal_form U G s) (normal_form U G t) p ∙ ap₂ ◌⊕◌ (value_normal U G s p d.0) (value_normal U G t p d.1)
value_normal U G (either s t) p d = simp (value-sum, value-product, value_normal U G s p d.0, value_normal U G t p d.1)
