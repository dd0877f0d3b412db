-- `words::gather_few` meets its contract. Assumes nothing.
use Rattle.std.proofs.Common.{arith, length, ◌/◌}
use Rattle.ring.specs.Table.{present}
use Rattle.words.proofs.Crossing.{rows_start, rows_bound, rows_next, rows_end}
use Rattle.words.proofs.gather_few.Goals as goal

pub loop-j-init : goal.loop-j-init
loop-j-init c = rows_start (present c.args.t.now) _

pub overflow_mul-word : goal.overflow_mul-word
overflow_mul-word c = omega (arith, rows_bound (present c.args.t.now) _ _ _ c.loop-j.invariant c.loop-j-test.true (omega (arith, c.requires.0)))

pub overflow_add-word : goal.overflow_add-word
overflow_add-word c =
    omega (arith, c.eight.ensures.1, rows_bound (present c.args.t.now) _ _ _ c.loop-j.invariant c.loop-j-test.true (omega (arith, c.requires.0)))

pub loop-j-preserved : goal.loop-j-preserved
loop-j-preserved c = rows_next (present c.args.t.now) _ _ _ c.loop-j.invariant c.loop-j-test.true (omega (arith, c.requires.0)) _ c.loop-j.auto.j c.eight.ensures.0

pub returns : goal.returns
returns c = rows_end c.args.t.now (length c.args.t.now / 8) c.loop-j.j _ c.loop-j.invariant (omega arith) (omega (arith, c.requires.0)) (omega (arith, c.requires.1))
