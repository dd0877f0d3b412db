-- `polynomials::take_part` meets its contract. Assumes nothing.
use native.Mathlib.Omega.{arith}
use Rattle.words.proofs.Parts.{part_fits}
use Rattle.polynomials.proofs.Work.{handed_table_lem, unknown_part, given_part}
use Rattle.polynomials.proofs.take_part.Goals as goal

pub overflow_mul-start : goal.overflow_mul-start
overflow_mul-start c = omega (arith, part_fits _ _ _ _ _ c.pow2-size.ensures c.if-j-u.true c.requires.2)

pub overflow_add-end : goal.overflow_add-end
overflow_add-end c = omega (arith, part_fits _ _ _ _ _ c.pow2-size.ensures c.if-j-u.true c.requires.2)

pub slice_bounds-take_values-end : goal.slice_bounds-take_values-end
slice_bounds-take_values-end c = part_fits _ _ _ _ _ c.pow2-size.ensures c.if-j-u.true c.requires.2

pub take_values-requires : goal.take_values-requires
take_values-requires c = (
  c.requires.0,
  handed_table_lem _ _ _
      c.args.handed.now c.pow2-size.ensures
      (part_fits _ _ _ _ _ c.pow2-size.ensures c.if-j-u.true
      c.requires.2)
      c.requires.3,
  c.requires.4,
)

pub returns-then-j-u : goal.returns-then-j-u
returns-then-j-u c = unknown_part _ _ _ c.args.handed.now
    c.pow2-size.ensures _ _ _ c.if-j-u.true
    c.take_values.ensures

pub returns-else-j-u : goal.returns-else-j-u
returns-else-j-u c = given_part _ _ _ _ _ c.args.handed.now _
    c.if-j-u.false c.letter.ensures
    c.requires.4
