-- The laws that the volume stands on: no choice is left out, and 'none' is said only where there is none.
-- They hold for every condition f, every order that lists the unknowns and every list of letters L that holds the givens:
-- the givens alone, forty further letters, or another order of the letters are all instances. `right_verdict` gathers them for the bytes of a table.
-- Assumes nothing.
use mathlib.Core.Path.{◌≡◌, refl, sym, ◌∙◌}
use mathlib.Core.Logic.{◌↔◌}
use mathlib.Core.Bool.{Bool, true, false}
use mathlib.Core.List.{List}
use Prim.Native.Nat.{ℕ, ◌+◌, ◌<◌}
use Rattle.ring.specs.Polynomial.{Polynomial, constant}
use Rattle.ring.specs.Table.{held}
use Rattle.ring.proofs.Bool.{bool_iff}
use Rattle.ring.proofs.Table.{held-answer_table}
use Rattle.solution.specs.Letters.{Letter, HoldsGivens, Valuation, value_over}
use Rattle.solution.specs.Substitution.{Substitution, own_letters, put_in, MakesZero}
use Rattle.solution.specs.Condition.{Condition, width, polynomial, IsOrder}
use Rattle.solution.specs.Elimination.{boole_answers, particular, lowenheim, own_lowenheim, smallest_blocked, solvable, boole_table}
use Rattle.solution.specs.Elimination.{lowenheim_table, solve}
use Rattle.solution.specs.General.{SmallestBlocked, General, InstancesOfEachOther, RightVerdict, in_polynomials}
use Rattle.solution.proofs.Letters.{own_holds, same_without_unknowns}
use Rattle.solution.proofs.General.{each_other, lowenheim_general, particular_zero, leads_reproductive}
use Rattle.solution.proofs.Blocked.{remains-blocked, blocked_none, smallest_blocked_lem}
use Rattle.solution.proofs.Verdict.{AreBooles, boole_leads_all, booles_general, own_general, own_table_general, right}

module _ (U G : ℕ) (f : Polynomial) (order : List ℕ) (is_the_order : IsOrder U order) where
  -- 'If it is 0, go back': then Boole's answers are a general solution; so 'the answers .. make t zero' (`makes_zero`),
  -- and 'Every substitution over any list that holds the givens which makes t zero is an instance of them' (`every_instance`)
  pub boole_general : solvable (U + G) f order ≡ true → General U G f (boole_answers (U + G) f order)
  unfolding AreBooles
  boole_general z = booles_general U G order is_the_order f z _ (λ j m l h. refl)

  -- ''none' if and only if there is no substitution over that list': what remains is 0 exactly when some substitution over L makes f zero
  pub solvable_exactly : (L : List Letter) → HoldsGivens G L
      → (solvable (U + G) f order ≡ true) ↔ ((σ : Substitution) × MakesZero U G f L σ)
  solvable_exactly L holds = (
    λ z. (
      (λ j. put_in U G L (boole_answers (U + G) f order j) (λ i. constant false)),
      (boole_general z).each_makes_zero L holds
          (λ i. constant false),
    ),
    λ s. go (solvable (U + G) f order) refl s,
  )
    where
      go : (b : Bool) → solvable (U + G) f order ≡ b → (σ : Substitution) × MakesZero U G f L σ → b ≡ true
      go true z s = refl
      go false z s =
          let r = remains-blocked U G f order is_the_order z in absurd (blocked_none U G f r.0 r.1 r.2 L holds s.0 s.1)

  -- 'If it is not 0, the answer is 'none' with the smallest state in which every choice gives the original condition the value 1':
  -- there is one, and it is the one named
  pub none_names_smallest : solvable (U + G) f order ≡ false → SmallestBlocked U G f (smallest_blocked U G f)
  none_names_smallest z = let r = remains-blocked U G f order is_the_order z in smallest_blocked_lem U G f r.0 r.1 r.2

  -- Boole's answers are reproductive: a substitution that makes the condition zero, put into them, gives itself
  pub boole_reproductive : (L : List Letter) → HoldsGivens G L → (σ : Substitution) → MakesZero U G f L σ
      → (j : ℕ) → j < U → (v : Valuation) → value_over L (put_in U G L (boole_answers (U + G) f order j) σ) v ≡ value_over L (σ j) v
  boole_reproductive L holds σ z =
      leads_reproductive U G f _ (boole_leads_all U G order is_the_order f ((solvable_exactly L holds).1 (σ, z))) L holds σ z

  -- the particular solution makes the condition zero
  pub particular_solves : solvable (U + G) f order ≡ true → MakesZero U G f (own_letters U G) (particular U G order f)
  particular_solves z = particular_zero U G order f (boole_general z)

  -- 'Boole's answers and the own Löwenheim answers for t are instances of each other'
  pub boole_and_lowenheim : solvable (U + G) f order ≡ true
      → InstancesOfEachOther U G (boole_answers (U + G) f order) (own_lowenheim U G order f)
  boole_and_lowenheim z = each_other U G f _ _ (boole_general z) (own_general U G order is_the_order f z)

-- 'A designer may hand over other polynomials': those that make the condition zero give a general solution by Löwenheim's formula ..
pub handed_general : (U G : ℕ) (f : Polynomial) (b : Substitution) → MakesZero U G f (own_letters U G) b
    → General U G f (lowenheim (U + G) f b)
handed_general = lowenheim_general

-- .. and so the same instances as Boole's
pub handed_and_boole : (U G : ℕ) (f : Polynomial) (order : List ℕ) → IsOrder U order → (b : Substitution)
    → MakesZero U G f (own_letters U G) b
    → InstancesOfEachOther U G (boole_answers (U + G) f order) (lowenheim (U + G) f b)
handed_and_boole U G f order is_the_order b z =
    each_other U G f _ _ (boole_general U G f order is_the_order
    ((solvable_exactly U G f order is_the_order (own_letters U G) (own_holds U G)).1 (b, z))) (handed_general U G f b z)

-- two orders agree on whether there is a solution ..
pub orders_agree : (U G : ℕ) (f : Polynomial) (a b : List ℕ) → IsOrder U a → IsOrder U b → solvable (U + G) f a ≡ solvable (U + G) f b
orders_agree U G f a b is-a is_b =
    bool_iff _ _ (λ z. (exactly b is_b).1 ((exactly a is-a).0 z)) (λ z. (exactly a is-a).1 ((exactly b is_b).0 z))
  where
    exactly : (order : List ℕ) → IsOrder U order
        → (solvable (U + G) f order ≡ true) ↔ ((σ : Substitution) × MakesZero U G f (own_letters U G) σ)
    exactly order is = solvable_exactly U G f order is (own_letters U G) (own_holds U G)

-- .. and their answers are instances of each other
pub orders_each_other : (U G : ℕ) (f : Polynomial) (a b : List ℕ) → IsOrder U a → IsOrder U b → solvable (U + G) f a ≡ true
    → InstancesOfEachOther U G (boole_answers (U + G) f a) (boole_answers (U + G) f b)
orders_each_other U G f a b is-a is_b z =
    each_other U G f _ _ (boole_general U G f a is-a z) (boole_general U G f b is_b (sym (orders_agree U G f a b is-a is_b) ∙ z))

-- demand 3 of the bytes: what `solve` says of a condition is right, in every part
pub right_verdict : (c : Condition) → IsOrder c.U c.order → RightVerdict c (in_polynomials (width c) (solve c))
right_verdict = right

-- Boole's answer table and the engine's own Löwenheim answer table, as bytes
pub tables_each_other : (c : Condition) → IsOrder c.U c.order → solvable (width c) (polynomial c) c.order ≡ true
    → InstancesOfEachOther c.U c.G (held (width c) (boole_table c)) (held (width c) (lowenheim_table c))
unfolding AreBooles boole_table lowenheim_table
tables_each_other c is z =
    each_other c.U c.G (polynomial c) _ _
    (booles_general c.U c.G c.order is (polynomial c) z _
    (held-answer_table c.U (width c) (boole_answers (width c) (polynomial c) c.order)))
    (own_table_general c.U c.G c.order is (polynomial c) z)

-- 'Where U is 0 there is one substitution, the empty one': any two do the same
pub empty_substitution : (G : ℕ) (f : Polynomial) (L : List Letter) → HoldsGivens G L → (σ τ : Substitution) (v : Valuation)
    → value_over L (put_in 0 G L f σ) v ≡ value_over L (put_in 0 G L f τ) v
empty_substitution = same_without_unknowns
