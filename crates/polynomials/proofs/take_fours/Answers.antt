-- `polynomials::take_fours` meets its contract. Assumes nothing.
use mathlib.Core.Path.{refl, ap, ◌∙◌}
use Prim.Native.Nat.{ℕ, ◌*◌, ◌/◌, ◌%◌, ◌^◌}
use native.Mathlib.Omega.{arith}
use borrow.Author.Rules.{rules}
use lib.Bits.{and_mask}
use lib.ListN.{get_or}
use Rattle.ring.specs.Lists.{listed}
use Rattle.tables.proofs.Filled.{filled-start, filled_more, filled_end}
use Rattle.polynomials.proofs.take_fours.Goals as goal

pub loop-q-init : goal.loop-q-init
loop-q-init c = (search rules, filled-start _ _ _ refl, refl)

pub loop-q-preserved : goal.loop-q-preserved
loop-q-preserved c = (
  search rules,
  filled_more _ _ _ _ c.loop-q.invariant.1 _
      (omega (arith, c.requires.1, c.loop-q-test.true))
      (ap (λ (x : ℕ). get_or c.args.s.now x 0)
      (and_mask (c.args.word / 2 ^ (4 * c.loop-q.q)) 4)),
  search rules,
)

pub returns : goal.returns
returns c = let f : ℕ → ℕ = λ q. get_or c.args.s.now (c.args.word / 2 ^ (4 * q) % 16) 0 in
    filled_end _ f _ _ c.loop-q.invariant.1 (omega (arith, c.requires.1)) (omega (arith, c.requires.1))
    ∙ ap (λ (k : ℕ). listed k f) c.requires.1
