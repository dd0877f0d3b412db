-- What the engine says of a condition is right: `right_verdict`, by the two cases of what remains.
-- Assumes nothing.
use mathlib.Core.Path.{◌≡◌, refl, sym}
use mathlib.Core.Bool.{Bool, true, false, cond}
use mathlib.Core.List.{List}
use Prim.Native.Nat.{ℕ, ◌+◌, ◌^◌, ◌<◌}
use native.Mathlib.Omega.{arith}
use Rattle.ring.specs.declared.State.{State}
use Rattle.ring.specs.Polynomial.{Polynomial, constant}
use Rattle.ring.specs.Table.{held, answer_table}
use Rattle.solution.specs.Substitution.{Substitution, put_in}
use Rattle.solution.specs.Condition.{Condition, width, polynomial, IsOrder}
use Rattle.solution.specs.Elimination.{boole_answers, own_lowenheim, smallest_blocked, solvable, Verdict, solved, none, boole_table}
use Rattle.solution.specs.Elimination.{solve}
use Rattle.solution.specs.General.{SmallestBlocked, General, RightVerdict, in_polynomials}
use Rattle.solution.proofs.Blocked.{zero_values, remains-blocked, blocked_none, smallest_blocked_lem}
use Rattle.solution.proofs.General.{Leads, leads_same, general, each_other, boole_leads, lowenheim_leads, particular_zero}
use Rattle.ring.proofs.Table.{held-answer_table}

solved_none : {B : Type 0} (a : Substitution) (state : State) → solved a ≡ none state → B
solved_none a state e = let z : ◌≡◌ {A = ℕ} 0 1 = cc in absurd (omega arith)

-- answers that are Boole's, wherever they are held
unfoldable pub AreBooles : ℕ → ℕ → List ℕ → Polynomial → Substitution → Type 0
AreBooles U G order f a = (j m : ℕ) → j < U → m < 2 ^ (U + G) → a j m ≡ boole_answers (U + G) f order j m

module _ (U G : ℕ) (order : List ℕ) (is : IsOrder U order) (f : Polynomial) (z : solvable (U + G) f order ≡ true) where
  pub boole_leads_all : Leads U G f (boole_answers (U + G) f order)
  unfolding solvable
  boole_leads_all = boole_leads U G f order is (λ p h. zero_values (U + G) _ p z)

  pub booles_general : (a : Substitution) → AreBooles U G order f a → General U G f a
  unfolding AreBooles
  booles_general a same = general U G f a (leads_same U G f (boole_answers (U + G) f order) a same boole_leads_all)

  own_leads : Leads U G f (own_lowenheim U G order f)
  unfolding own_lowenheim
  own_leads = lowenheim_leads U G f _ (particular_zero U G order f (general U G f _ boole_leads_all))

  pub own_general : General U G f (own_lowenheim U G order f)
  own_general = general U G f _ own_leads

  -- the engine's own Löwenheim answers, wherever they are held ..
  pub owns_general : (a : Substitution) → ((j m : ℕ) → j < U → m < 2 ^ (U + G) → a j m ≡ own_lowenheim U G order f j m) → General U G f a
  owns_general a same = general U G f a (leads_same U G f (own_lowenheim U G order f) a same own_leads)

  -- .. as in a table of bytes
  pub own_table_general : General U G f (held (U + G) (answer_table U (U + G) (own_lowenheim U G order f)))
  own_table_general = owns_general _ (held-answer_table U (U + G) (own_lowenheim U G order f))

-- the same of a condition
module _ (c : Condition) (is : IsOrder c.U c.order) where
  pub right_solved : solvable (width c) (polynomial c) c.order ≡ true
      → (a : Substitution) → AreBooles c.U c.G c.order (polynomial c) a → RightVerdict c (solved a)
  unfolding AreBooles
  right_solved z a same =
      record {
        exactly = λ L g. (
          λ e. solved_none _ _ e.1,
          λ h. absurd (h (λ j. put_in c.U c.G L (a j) (λ i. constant false)) (is_general.each_makes_zero L g (λ i. constant false))),
        );
        state = λ s e. solved_none _ _ e;
        booles = λ b e. rw (which b e) same;
        general = λ b e. rw (which b e) is_general;
        lowenheims = λ b e. rw (which b e) (each_other c.U c.G (polynomial c) _ _ is_general own);
      }
    where
      is_general : General c.U c.G (polynomial c) a
      is_general = booles_general c.U c.G c.order is (polynomial c) z a same

      own : General c.U c.G (polynomial c) (own_lowenheim c.U c.G c.order (polynomial c))
      own = own_general c.U c.G c.order is (polynomial c) z

      which : (b : Substitution) → ◌≡◌ {A = Verdict Substitution} (solved a) (solved b) → b ≡ a
      which b e = cc

  pub right_none : solvable (width c) (polynomial c) c.order ≡ false
      → RightVerdict c (none (smallest_blocked c.U c.G (polynomial c)))
  right_none z =
      let named : State = smallest_blocked c.U c.G (polynomial c) in
      let r = remains-blocked c.U c.G (polynomial c) c.order is z in
      let least : SmallestBlocked c.U c.G (polynomial c) named = smallest_blocked_lem c.U c.G (polynomial c) r.0 r.1 r.2 in
      record {
        exactly = λ L g. (λ e σ. blocked_none c.U c.G (polynomial c) r.0 r.1 r.2 L g σ, λ h. (named, refl));
        state = λ s e. let k : s ≡ named = cc in rw k least;
        booles = λ a e. solved_none _ _ (sym e);
        general = λ a e. solved_none _ _ (sym e);
        lowenheims = λ a e. solved_none _ _ (sym e);
      }

  pub right : RightVerdict c (in_polynomials (width c) (solve c))
  unfolding solve boole_table in_polynomials AreBooles
  right = go (solvable (width c) (polynomial c) c.order) refl
    where
      go : (b : Bool) → solvable (width c) (polynomial c) c.order ≡ b
          → RightVerdict c (in_polynomials (width c) (cond b (solved (boole_table c)) (none (smallest_blocked c.U c.G (polynomial c)))))
      go true z = right_solved z _ (held-answer_table c.U (width c) (boole_answers (width c) (polynomial c) c.order))
      go false z = right_none z
