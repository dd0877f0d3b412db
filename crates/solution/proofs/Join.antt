-- Joined conditions (document 02, C-12): a substitution makes the join zero exactly if it makes each member zero, over any list of letters
-- (`zero_joined`). By values: what is put in has the value of the join at one point, which is 'f or h' there.
-- Assumes nothing.
use mathlib.Core.Path.{◌≡◌, refl, sym, ap₂, ◌∙◌}
use mathlib.Core.Logic.{◌↔◌}
use mathlib.Core.Bool.{Bool, true, false, ◌||◌, true≢false}
use mathlib.Core.List.{List, [], ◌∷◌}
use Prim.Native.Nat.{ℕ, ◌+◌}
use Rattle.ring.specs.Letters.{point_where}
use Rattle.ring.specs.Polynomial.{Polynomial, constant}
use Rattle.ring.specs.Join.{join, joined, Member, here, behind}
use Rattle.ring.proofs.Join.{value-join}
use Rattle.ring.proofs.Substitute.{value-constant}
use Rattle.solution.specs.Letters.{Letter, HoldsGivens, Valuation, value_over}
use Rattle.solution.specs.Substitution.{Substitution, put_in, MakesZero}
use Rattle.solution.proofs.Letters.{replaced_value, value-put_in}

neither : (a b : Bool) → (a || b) ≡ false → (a ≡ false) × (b ≡ false)
neither true b e = absurd (true≢false e)
neither false b e = (refl, e)

module _ (U G : ℕ) (L : List Letter) (holds : HoldsGivens G L) (σ : Substitution) where
  abbrev at : Polynomial → Valuation → Bool
  at k v = value_over L (put_in U G L k σ) v

  either_value : (f h : Polynomial) (v : Valuation) → at (join (U + G) f h) v ≡ (at f v || at h v)
  either_value f h v =
      value-put_in U G L holds (join (U + G) f h) σ v ∙ value-join (U + G) f h (point_where (U + G) (replaced_value U L σ v))
      ∙ sym (ap₂ ◌||◌ (value-put_in U G L holds f σ v) (value-put_in U G L holds h σ v))

  -- of two
  pub zero_join : (f h : Polynomial) → MakesZero U G (join (U + G) f h) L σ ↔ (MakesZero U G f L σ × MakesZero U G h L σ)
  zero_join f h = (
    λ z. (λ v. (neither (at f v) (at h v) (sym (either_value f h v) ∙ z v)).0, λ v. (neither (at f v) (at h v) (sym (either_value f h v) ∙ z v)).1),
    λ z v. either_value f h v ∙ ap₂ ◌||◌ (z.0 v) (z.1 v),
  )

  each_zero : {h : Polynomial} {hs : List Polynomial} → MakesZero U G (joined (U + G) hs) L σ → Member h hs → MakesZero U G h L σ
  unfolding joined
  each_zero {hs = []} z m = elim m [ ]
  each_zero {hs = h ∷ hs} z here = ((zero_join (joined (U + G) hs) h).0 z).1
  each_zero {hs = k ∷ hs} z (behind m) = each_zero ((zero_join (joined (U + G) hs) k).0 z).0 m

  all_zero : (hs : List Polynomial) → ((h : Polynomial) → Member h hs → MakesZero U G h L σ) → MakesZero U G (joined (U + G) hs) L σ
  unfolding joined
  all_zero [] z v = value-put_in U G L holds (constant false) σ v ∙ value-constant (U + G) false (point_where (U + G) (replaced_value U L σ v))
  all_zero (h ∷ hs) z v = (zero_join (joined (U + G) hs) h).1 (all_zero hs (λ k m. z k (behind m)), z h here) v

  -- of any list of conditions
  pub zero_joined : (hs : List Polynomial) → MakesZero U G (joined (U + G) hs) L σ ↔ ((h : Polynomial) → Member h hs → MakesZero U G h L σ)
  zero_joined hs = (λ z h m. each_zero z m, all_zero hs)
