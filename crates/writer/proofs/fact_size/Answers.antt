-- The invariant: so many of the monomials so far are present. Assumes nothing.
use mathlib.Core.Path.{ap₂, ◌∙◌}
use Prim.Native.Nat.{◌+◌}
use native.Mathlib.Omega.{arith}
use Rattle.ring.specs.Table.{present}
use Rattle.ring.proofs.Parity.{count_most}
use Rattle.writer.proofs.Parts.{counted_none, counted_more, counted_all}
use Rattle.writer.proofs.fact_size.Goals as goal

pub loop-byte-init : goal.loop-byte-init
loop-byte-init c = counted_none _

pub overflow_add-count : goal.overflow_add-count
overflow_add-count c = let turn = c.loop-byte in
    omega (arith, turn.invariant, count_most turn.byte-index (present c.args.fact.now), c.from-count.ensures, c.requires.0 turn.byte-index)

pub loop-byte-preserved : goal.loop-byte-preserved
loop-byte-preserved c = ap₂ ◌+◌ c.loop-byte.invariant c.from-count.ensures ∙ counted_more _ c.requires.0 c.loop-byte.byte-index

pub overflow_mul-result : goal.overflow_mul-result
overflow_mul-result c = let turn = c.loop-byte in omega (arith, turn.invariant, count_most turn.byte-index (present c.args.fact.now), c.requires.1)

pub returns : goal.returns
returns c = let turn = c.loop-byte in (
  counted_all _ (omega arith, turn.invariant) (omega arith),
  omega (arith, turn.invariant, count_most turn.byte-index (present c.args.fact.now), c.requires.1),
)
