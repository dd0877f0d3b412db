-- `solver::put_zeros` meets its contract: the unknowns below x are at 0. Assumes nothing.
use mathlib.Core.Path.{refl, ◌∙◌}
use native.Mathlib.Omega.{arith}
use borrow.Author.Rules.{rules}
use Rattle.words.proofs.Words.{size_words}
use Rattle.words.proofs.Turned.{machine_words}
use Rattle.solver.proofs.Written.{zeros-start, zeros_more, zeros_end}
use Rattle.solver.proofs.put_zeros.Goals as goal

pub loop-x-init : goal.loop-x-init
loop-x-init c = (
  search rules,
  zeros-start _ c.args.words.now
      (machine_words _ c.args.words.now refl (λ i. search rules)) refl,
  refl,
)

pub put_zero-requires : goal.put_zero-requires
put_zero-requires c = omega (arith, c.loop-x-test.true, c.requires)

pub loop-x-preserved : goal.loop-x-preserved
loop-x-preserved c = (
  search rules,
  zeros_more _ c.args.words.now _ _ c.loop-x.invariant.1 c.put_zero.ensures,
  size_words _ _ _
      c.put_zero.ensures ∙ c.loop-x.invariant.2,
)

pub returns : goal.returns
returns c = zeros_end _ _ c.args.words.now _ (omega (arith, c.loop-x.invariant.0, c.loop-x-test.false)) c.loop-x.invariant.1
