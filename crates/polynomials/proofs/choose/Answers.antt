-- `polynomials::choose` meets its contract. Assumes nothing.
use Rattle.std.proofs.Common.{get_or, rules, refl, arith, ap, ◌∙◌}
use Rattle.tables.proofs.Filled.{filled-start, filled_more, filled_read}
use Rattle.polynomials.specs.Inner.LookUp.{chosen}
use Rattle.polynomials.proofs.LookUp.{choose_end}
use Rattle.polynomials.proofs.choose.Goals as goal

pub loop-p-init : goal.loop-p-init
loop-p-init c = (filled-start _ _ _ refl, refl)

pub loop-p-preserved : goal.loop-p-preserved
unfolding chosen
loop-p-preserved c = (
  filled_more _ _ _ _ c.loop-p.invariant.0 _ c.loop-p-test.true
      (c.pick.ensures
      ∙ ap (λ x. chosen c.args.b x (get_or c.split_at_mut-clear.result.1.now c.loop-p.p 0)) (filled_read _ _ _ _ c.loop-p.invariant.0 c.loop-p-test.true)),
  search rules,
)

pub returns : goal.returns
returns c =
    let cut = c.split_at_mut-clear.ensures in
    choose_end c.args.b c.args.half _ c.args.t.now _ _ _ cut.front cut.back cut.front_len (omega (arith, cut.front_len)) c.loop-p.invariant.0
