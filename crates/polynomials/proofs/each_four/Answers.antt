-- `polynomials::each_four` meets its contract. Assumes nothing.
use mathlib.Core.Path.{refl, ap, ◌∙◌}
use Prim.Native.Nat.{ℕ}
use native.Mathlib.Omega.{arith}
use borrow.Author.Rules.{rules}
use Rattle.ring.specs.Letters.{bit}
use Rattle.ring.specs.Lists.{listed}
use Rattle.tables.proofs.Filled.{filled-start, filled_more, filled_end}
use Rattle.words.specs.Inner.Words.{word_of}
use Rattle.polynomials.specs.Inner.LookUp.{place_of}
use Rattle.polynomials.proofs.each_four.Goals as goal

pub loop-x-init : goal.loop-x-init
loop-x-init c = (search rules, filled-start _ _ _ refl, refl)

pub loop-x-preserved : goal.loop-x-preserved
loop-x-preserved c = (
  search rules,
  filled_more _ _ _ _ c.loop-x.invariant.1 _ (omega (arith, c.requires))
      c.four.ensures,
  search rules,
)

pub returns : goal.returns
returns c = let f : ℕ → ℕ = λ x. word_of (λ i. bit x (place_of c.args.a c.args.b i)) in
    filled_end _ f _ _ c.loop-x.invariant.1 (omega (arith, c.requires))
    (omega (arith, c.requires)) ∙ ap (λ (k : ℕ). listed k f) (c.requires)
