-- Boole's answers, for every order, and Löwenheim's, from every solution, are general solutions; two general solutions are instances of each other.
-- An answer leads from each point to another (`led`). It is general if it leads to points where the condition is 0 and leaves such points
-- alone (`Leads`): every substitution that makes the condition zero, put into it, then gives itself.
-- Assumes nothing.
use mathlib.Core.Path.{◌≡◌, refl, sym, ap, ap₂, ◌∙◌}
use mathlib.Core.Bool.{Bool, true, false, cond}
use mathlib.Core.List.{List}
use Prim.Native.Nat.{ℕ, ◌+◌, ◌^◌, ◌<◌}
use native.Mathlib.Omega.{arith}
use lib.Dec.{ltb}
use lib.ListN.{length}
use borrow.Author.Tests.{ltb-true}
use Rattle.ring.specs.Letters.{bit, point_where}
use Rattle.ring.specs.Polynomial.{Polynomial, ◌⊕◌, value, constant}
use Rattle.ring.specs.Lists.{has}
use Rattle.ring.proofs.Bool.{xor_false}
use Rattle.ring.proofs.Value.{value_cong}
use Rattle.ring.proofs.Substitute.{substitute_cong}
use Rattle.ring.proofs.Points.{point_where_cong, bit-point_where, point_where_lt, point_where_bits}
use Rattle.solution.specs.Letters.{Letter, HoldsGivens, Valuation, point_of, value_over}
use Rattle.solution.specs.Substitution.{Substitution, letter_at, own_letters, put_in, MakesZero, InstanceOf}
use Rattle.solution.specs.Condition.{IsOrder}
use Rattle.solution.specs.Elimination.{boole_answers, remains, lowenheim, particular}
use Rattle.solution.specs.General.{General, InstancesOfEachOther}
use Rattle.solution.specs.Inner.ByPoints.{remains_through, answered_through}
use Rattle.solution.proofs.Elimination.{solves, reproduces, answered_lt, answered_kept}
use Rattle.solution.proofs.Values.{value-remains, value_answers, value-lowenheim}
use Rattle.solution.proofs.Letters.{replaced_value, replaced_value_unknown, value-put_in, own_holds, own_point, value_own, valuation}
use Rattle.solution.proofs.Letters.{own_point_valuation}

-- the point to which the answer a leads from p
unfoldable pub led : ℕ → ℕ → Substitution → ℕ → ℕ
led U G a p = point_where (U + G) (λ j. cond (ltb j U) (value (U + G) (a j) p) (bit p j))

-- what makes an answer general, at points: it leads to solutions, and from a solution to itself
pub record Leads (U G : ℕ) (f : Polynomial) (a : Substitution) : Type 0 where
  pub to_zero : (p : ℕ) → p < 2 ^ (U + G) → value (U + G) f (led U G a p) ≡ false
  pub stays : (p : ℕ) → p < 2 ^ (U + G) → value (U + G) f p ≡ false → (j : ℕ) → j < U → value (U + G) (a j) p ≡ bit p j

-- the same of answers with the same monomials
pub leads_same : (U G : ℕ) (f : Polynomial) (a b : Substitution) → ((j m : ℕ) → j < U → m < 2 ^ (U + G) → b j m ≡ a j m) → Leads U G f a
    → Leads U G f b
unfolding led
leads_same U G f a b same h =
    record {
      to_zero = λ p l. ap (value (U + G) f) (point_where_cong (U + G) _ _ (λ j k. go p j (ltb j U) refl)) ∙ h.to_zero p l;
      stays = λ p l z j k. at p j k ∙ h.stays p l z j k;
    }
  where
    at : (p j : ℕ) → j < U → value (U + G) (b j) p ≡ value (U + G) (a j) p
    at p j k = value_cong (U + G) _ _ p (λ m l. same j m k l)

    go : (p j : ℕ) (t : Bool) → ltb j U ≡ t → cond t (value (U + G) (b j) p) (bit p j) ≡ cond t (value (U + G) (a j) p) (bit p j)
    go p j true e = at p j (ltb-true j U e)
    go p j false e = refl

module _ (U G : ℕ) (f : Polynomial) (a : Substitution) where
  abbrev n : ℕ
  n = U + G

  -- a over the engine's own list, put into f
  pub own_led : (v : Valuation) → value_over (own_letters U G) (put_in U G (own_letters U G) f a) v ≡ value n f (led U G a (own_point U G v))
  unfolding replaced_value led own_point
  own_led v =
      value-put_in U G (own_letters U G) (own_holds U G) f a v
      ∙ ap (value n f) (point_where_cong n _ _
      (λ j l. ap₂ (λ (x y : Bool). cond (ltb j U) x y) (value_own U G (a j) v) (sym (bit-point_where n (λ i. v (letter_at U i)) j l))))

  -- the same at a point
  pub value_put_in_own : (p : ℕ) → p < 2 ^ n → value n (put_in U G (own_letters U G) f a) p ≡ value n f (led U G a p)
  value_put_in_own p h =
      ap (value n (put_in U G (own_letters U G) f a)) (sym (own_point_valuation U G p h))
      ∙ sym (value_own U G (put_in U G (own_letters U G) f a) (valuation U p))
      ∙ own_led (valuation U p) ∙ ap (λ (q : ℕ). value n f (led U G a q)) (own_point_valuation U G p h)

  -- a substitution that makes f zero, put into a, gives itself
  pub leads_reproductive : Leads U G f a → (L : List Letter) → HoldsGivens G L → (σ : Substitution) → MakesZero U G f L σ
      → (j : ℕ) → j < U → (v : Valuation) → value_over L (put_in U G L (a j) σ) v ≡ value_over L (σ j) v
  leads_reproductive h L g σ z j l v =
      value-put_in U G L g (a j) σ v
      ∙ h.stays (point_where n (replaced_value U L σ v)) (point_where_lt n _) (sym (value-put_in U G L g f σ v) ∙ z v) j l
      ∙ bit-point_where n (replaced_value U L σ v) j (omega arith) ∙ replaced_value_unknown U L σ v j l

  pub general : Leads U G f a → General U G f a
  unfolding replaced_value led own_point
  general h =
      record {
        makes_zero = λ v. own_led v ∙ h.to_zero (own_point U G v) (point_where_lt n _);
        each_makes_zero = λ L g τ v.
            let P : ℕ = point_where n (replaced_value U L τ v) in
            value-put_in U G L g f (λ j. put_in U G L (a j) τ) v
            ∙ ap (value n f) (point_where_cong n _ _ (λ j l. go L g τ v j l (ltb j U) refl))
            ∙ h.to_zero P (point_where_lt n _);
        every_instance = λ L g σ z. (σ, leads_reproductive h L g σ z);
      }
    where
      go : (L : List Letter) → HoldsGivens G L → (τ : Substitution) (v : Valuation) (j : ℕ) → j < n → (b : Bool) → ltb j U ≡ b
          → cond b (value_over L (put_in U G L (a j) τ) v) (v (letter_at U j))
          ≡ cond b (value n (a j) (point_where n (replaced_value U L τ v))) (bit (point_where n (replaced_value U L τ v)) j)
      go L g τ v j l true e = value-put_in U G L g (a j) τ v
      go L g τ v j l false e = sym (bit-point_where n (replaced_value U L τ v) j l ∙ rw e)

  -- a solution over the engine's own list, at points
  pub zero_at : MakesZero U G f (own_letters U G) a → (p : ℕ) → p < 2 ^ n → value n f (led U G a p) ≡ false
  zero_at z p h =
      ap (λ (q : ℕ). value n f (led U G a q)) (sym (own_point_valuation U G p h)) ∙ sym (own_led (valuation U p)) ∙ z (valuation U p)

-- what makes a condition zero turns on its monomials in n letters alone ..
makes_zero_same : (U G : ℕ) (f g : Polynomial) → ((m : ℕ) → m < 2 ^ (U + G) → g m ≡ f m) → (L : List Letter) (σ : Substitution)
    → MakesZero U G f L σ → MakesZero U G g L σ
unfolding value_over put_in
makes_zero_same U G f g same L σ z v =
    value_cong (length L) _ _ (point_of L v) (λ m _. substitute_cong (U + G) (length L) g f _ _ same (λ j _ i _. refl) m) ∙ z v

-- .. and so does what is a general solution of it
pub general_same : (U G : ℕ) (f g : Polynomial) → ((m : ℕ) → m < 2 ^ (U + G) → g m ≡ f m) → (a : Substitution) → General U G f a
    → General U G g a
general_same U G f g same a h =
    record {
      makes_zero = makes_zero_same U G f g same (own_letters U G) a h.makes_zero;
      each_makes_zero = λ L holds τ. makes_zero_same U G f g same L (λ j. put_in U G L (a j) τ) (h.each_makes_zero L holds τ);
      every_instance = λ L holds σ z. h.every_instance L holds σ (makes_zero_same U G g f (λ m l. sym (same m l)) L σ z);
    }

-- two general solutions are instances of each other
pub each_other : (U G : ℕ) (f : Polynomial) (a b : Substitution) → General U G f a → General U G f b → InstancesOfEachOther U G a b
each_other U G f a b ga gb =
    record {
      forth = ga.every_instance (own_letters U G) (own_holds U G) b gb.makes_zero;
      back = gb.every_instance (own_letters U G) (own_holds U G) a ga.makes_zero;
      instances = λ L g σ. (over a b ga gb L g σ, over b a gb ga L g σ);
    }
  where
    over : (a b : Substitution) → General U G f a → General U G f b → (L : List Letter) → HoldsGivens G L → (σ : Substitution)
        → InstanceOf U G a L σ → InstanceOf U G b L σ
    over a b ga gb L g σ i =
        let τ : Substitution = i.0 in
        let k : InstanceOf U G b L (λ j. put_in U G L (a j) τ) = gb.every_instance L g (λ j. put_in U G L (a j) τ)
        (ga.each_makes_zero L g τ) in
        (k.0, λ j l v. k.1 j l v ∙ i.1 j l v)

-- Boole's answers, for every order of the unknowns
module _ (U G : ℕ) (f : Polynomial) (order : List ℕ) (is_the_order : IsOrder U order) where
  pub in_order : (x : ℕ) → has x order ≡ true → x < U + G
  in_order x e = omega (arith, ltb-true x U (sym (is_the_order x) ∙ e))

  pub remains-values : (p : ℕ) → value (U + G) (remains (U + G) f order) p ≡ remains_through (value (U + G) f) order p
  remains-values p = ap (λ (g : ℕ → Bool). g p) (value-remains (U + G) f order in_order)

  led_answered : (p : ℕ) → p < 2 ^ (U + G) → led U G (boole_answers (U + G) f order) p ≡ answered_through (value (U + G) f) order p
  unfolding led
  led_answered p h =
      point_where_cong (U + G) _ _ (λ j l. go j l (ltb j U) refl)
      ∙ point_where_bits (U + G) _ (answered_lt (U + G) (value (U + G) f) order p in_order h)
    where
      go : (j : ℕ) → j < U + G → (b : Bool) → ltb j U ≡ b
          → cond b (value (U + G) (boole_answers (U + G) f order j) p) (bit p j) ≡ bit (answered_through (value (U + G) f) order p) j
      go j l true e = value_answers (U + G) f order in_order j p l h
      go j l false e = sym (answered_kept (value (U + G) f) order p j (is_the_order j ∙ e))

  pub boole_leads : ((p : ℕ) → p < 2 ^ (U + G) → value (U + G) (remains (U + G) f order) p ≡ false)
      → Leads U G f (boole_answers (U + G) f order)
  boole_leads z =
      record {
        to_zero = λ p h. ap (value (U + G) f) (led_answered p h) ∙ solves (value (U + G) f) order p (sym (remains-values p) ∙ z p h);
        stays =
            λ p h k j l. value_answers (U + G) f order in_order j p (omega arith) h
            ∙ ap (λ (q : ℕ). bit q j) (reproduces (value (U + G) f) order p k);
      }

-- Löwenheim's answers, from whatever solution is handed over
module _ (U G : ℕ) (f : Polynomial) (b : Substitution) (z : MakesZero U G f (own_letters U G) b) where
  pub lowenheim_leads : Leads U G f (lowenheim (U + G) f b)
  unfolding led
  lowenheim_leads =
      record {
        to_zero = λ p h. go p h (value (U + G) f p) refl;
        stays = λ p h k j l. value-lowenheim (U + G) f b j p (omega arith) ∙ rw (k, xor_false);
      }
    where
      cancel : (x y : Bool) → (x ⊕ (x ⊕ y)) ≡ y
      cancel true true = refl
      cancel true false = refl
      cancel false y = refl

      same_as : (p : ℕ) → p < 2 ^ (U + G) → (t : Bool) → value (U + G) f p ≡ t → (j : ℕ) → (c : Bool) → ltb j U ≡ c
          → cond c (value (U + G) (lowenheim (U + G) f b j) p) (bit p j) ≡ cond t (cond c (value (U + G) (b j) p) (bit p j)) (bit p j)
      same_as p h true e j true k =
          value-lowenheim (U + G) f b j p (omega (arith, ltb-true j U k)) ∙ rw e (cancel (bit p j) (value (U + G) (b j) p))
      same_as p h false e j true k = value-lowenheim (U + G) f b j p (omega (arith, ltb-true j U k)) ∙ rw (e, xor_false)
      same_as p h true e j false k = refl
      same_as p h false e j false k = refl

      go : (p : ℕ) → p < 2 ^ (U + G) → (t : Bool) → value (U + G) f p ≡ t → value (U + G) f (led U G (lowenheim (U + G) f b) p) ≡ false
      go p h true e =
          ap (value (U + G) f) (point_where_cong (U + G) _ _ (λ j l. same_as p h true e j (ltb j U) refl)) ∙ zero_at U G f b z p h
      go p h false e =
          ap (value (U + G) f) (point_where_cong (U + G) _ _ (λ j l. same_as p h false e j (ltb j U) refl) ∙ point_where_bits (U + G) p h) ∙ e

  pub lowenheim_general : General U G f (lowenheim (U + G) f b)
  lowenheim_general = general U G f (lowenheim (U + G) f b) lowenheim_leads

-- the particular solution is an instance of Boole's answer, and so makes the condition zero
pub particular_zero : (U G : ℕ) (order : List ℕ) (f : Polynomial) → General U G f (boole_answers (U + G) f order)
    → MakesZero U G f (own_letters U G) (particular U G order f)
unfolding particular
particular_zero U G order f g = g.each_makes_zero (own_letters U G) (own_holds U G) (λ i. constant false)
