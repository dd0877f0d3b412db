-- Handed solutions (document 02, C-15): question 21 is exact, and what passes it gives a general solution by Löwenheim's formula.
-- The test goes through the values: a polynomial has no monomial exactly if its value is 0 at every point.
-- Assumes nothing.
use mathlib.Core.Path.{◌≡◌, refl, sym, ap, ◌∙◌}
use mathlib.Core.Logic.{◌↔◌}
use mathlib.Core.Bool.{Bool, true, false, not, true≢false}
use mathlib.Core.List.{List}
use Prim.Native.Nat.{ℕ, ◌+◌, ◌^◌, ◌<◌}
use Rattle.ring.specs.Polynomial.{Polynomial, substitute}
use Rattle.ring.specs.Table.{for_unknowns}
use Rattle.ring.proofs.Bool.{never}
use Rattle.ring.proofs.Every.{every_cong}
use Rattle.ring.proofs.Substitute.{value-for_unknowns, substitute_cong, for_unknowns_cong}
use Rattle.solution.specs.Substitution.{Substitution, own_letters, MakesZero}
use Rattle.solution.specs.Condition.{IsOrder}
use Rattle.solution.specs.Elimination.{lowenheim, is_zero, handed_solves, solvable}
use Rattle.solution.specs.General.{General}
use Rattle.solution.proofs.Letters.{own_holds, own_point}
use Rattle.solution.proofs.General.{led, own_led, zero_at, leads_same, general, lowenheim_leads}
use Rattle.solution.proofs.Blocked.{zero_values, not_zero, no_true}
use Rattle.solution.proofs.Theorems.{solvable_exactly}

module _ (U G : ℕ) (f : Polynomial) (b : Substitution) where
  -- 21 is answered yes exactly if the handed substitution makes the condition zero
  pub handed_exactly : (handed_solves U G f b ≡ true) ↔ MakesZero U G f (own_letters U G) b
  unfolding handed_solves led own_point
  handed_exactly = (
    λ z v. own_led U G f b v ∙ sym (value-for_unknowns (U + G) U f b (own_point U G v)) ∙ zero_values (U + G) _ (own_point U G v) z,
    λ z. go z (handed_solves U G f b) refl,
  )
    where
      go : MakesZero U G f (own_letters U G) b → (yes-said : Bool) → handed_solves U G f b ≡ yes-said → yes-said ≡ true
      go z true e = refl
      go z false e =
          let r = not_zero (U + G) (substitute (U + G) (U + G) f (for_unknowns U b)) e in
          absurd (true≢false (sym r.2 ∙ value-for_unknowns (U + G) U f b r.0 ∙ zero_at U G f b z r.0 r.1))

  -- 'An accepted one gives a general solution', wherever the answers are held
  pub accepted_general : handed_solves U G f b ≡ true → (a : Substitution)
      → ((j m : ℕ) → j < U → m < 2 ^ (U + G) → a j m ≡ lowenheim (U + G) f b j m) → General U G f a
  accepted_general z a same =
      general U G f a (leads_same U G f (lowenheim (U + G) f b) a same (lowenheim_leads U G f b (handed_exactly.0 z)))

  -- what is accepted has a solution, so that where there is 'none' nothing is accepted
  module _ (order : List ℕ) (is_the_order : IsOrder U order) where
    pub accepted_solvable : handed_solves U G f b ≡ true → solvable (U + G) f order ≡ true
    accepted_solvable z = (solvable_exactly U G f order is_the_order (own_letters U G) (own_holds U G)).1 (b, handed_exactly.0 z)

    pub none_accepted : solvable (U + G) f order ≡ false → handed_solves U G f b ≡ false
    none_accepted z = no_true (handed_solves U G f b) (λ e. never (accepted_solvable e) z)

-- the test turns on the monomials in n letters alone
pub handed_cong : (U G : ℕ) (f g : Polynomial) (b c : Substitution) → ((m : ℕ) → m < 2 ^ (U + G) → f m ≡ g m)
    → ((j : ℕ) → j < U → (m : ℕ) → m < 2 ^ (U + G) → b j m ≡ c j m) → handed_solves U G f b ≡ handed_solves U G g c
unfolding handed_solves is_zero
handed_cong U G f g b c ef eb =
    every_cong (2 ^ (U + G)) _ _
    (λ m _. ap not (substitute_cong (U + G) (U + G) f g _ _ ef (λ j _ i l. for_unknowns_cong (U + G) U b c eb j i l) m))
