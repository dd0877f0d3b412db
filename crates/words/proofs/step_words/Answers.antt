-- `words::step_words` meets its contract. Assumes nothing.
use Rattle.std.proofs.Common.{◌+◌, ◌*◌, ◌≤◌, length, arith, rules, refl, zero-mul}
use Rattle.tables.proofs.Filled.{filled-start}
use Rattle.words.proofs.Parts.{part_length_lem}
use Rattle.words.proofs.Steps.{block_more, block_room, blocks_done}
use Rattle.words.proofs.Turned.{machine_words}
use Rattle.words.proofs.step_words.Goals as goal

pub loop-b-init : goal.loop-b-init
loop-b-init c = (filled-start _ _ _ (zero-mul _), refl)

pub slice_bounds-add_half-end : goal.slice_bounds-add_half-end
slice_bounds-add_half-end c =
    omega (arith, c.requires.2, c.loop-b.invariant.1, block_room _ _ _ _ c.pow2-half.ensures c.pow2-blocks.ensures c.requires.0 _ c.loop-b-test.true)

pub loop-b-preserved : goal.loop-b-preserved
loop-b-preserved c =
    let room : c.loop-b.b * (2 * c.pow2-half.result) + 2 * c.pow2-half.result ≤ length c.args.t.now =
    omega (arith, c.requires.2, block_room _ _ _ _ c.pow2-half.ensures c.pow2-blocks.ensures c.requires.0 _ c.loop-b-test.true) in (
      block_more c.args.j c.loop-b.b _ c.args.t.now c.pow2-half.ensures c.loop-b.t room (machine_words _ _ refl (λ i. search rules)) c.loop-b.invariant.0
          _ (part_length_lem c.loop-b.b (2 * c.pow2-half.result) c.loop-b.t (omega (arith, room))) c.add_half.ensures,
      search rules,
    )

pub returns : goal.returns
returns c = blocks_done _ _ _ _ c.pow2-half.ensures c.pow2-blocks.ensures c.requires.0 _ _ _ (omega arith) c.requires.2 c.loop-b.invariant.0
