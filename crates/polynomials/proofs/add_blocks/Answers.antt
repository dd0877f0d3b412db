-- `polynomials::add_blocks` meets its contract: the blocks below w are made, and counted. Assumes nothing.
use mathlib.Core.Path.{◌≡◌, refl, sym, ap, ◌∙◌}
use Prim.Native.Nat.{ℕ, ◌≤◌, ◌*◌, ◌+◌}
use native.Mathlib.Omega.{arith}
use borrow.Author.Rules.{rules}
use lib.ListN.{length}
use Rattle.ring.specs.Polynomial.{count, sum}
use Rattle.ring.specs.Table.{present, tabulate}
use Rattle.ring.proofs.Lists.{listed-tabulate}
use Rattle.ring.proofs.Parity.{count_most}
use Rattle.tables.proofs.Filled.{filled-start}
use Rattle.words.proofs.Parts.{part_length_lem, parts_end}
use Rattle.polynomials.proofs.Sums.{block_added, block_counted}
use Rattle.polynomials.proofs.add_blocks.Goals as goal

pub loop-w-init : goal.loop-w-init
unfolding count
loop-w-init c = (omega arith, filled-start _ _ _ refl, refl, refl)

-- the counter is at most the number of bytes passed
pub overflow_add-ones : goal.overflow_add-ones
overflow_add-ones c = let turn = c.loop-w in
    omega (
      arith,
      c.requires.0,
      turn.invariant.0,
      turn.invariant.3,
      count_most (turn.w * 128) (sum (present c.args.a.now) (present c.args.b.now)),
    )

pub loop-w-preserved : goal.loop-w-preserved
loop-w-preserved c = let turn = c.loop-w in
    let w = turn.w in
    let in-out : w * 128 + 128 ≤ length turn.out = omega (arith, turn.invariant.2, c.requires.0, c.requires.1, c.loop-w-test.true) in
    let size = part_length_lem w 128 turn.out in-out in (
      omega (arith, c.requires.1, c.loop-w-test.true),
      block_added w 128 c.args.a.now c.args.b.now _ _ _ _ size turn.invariant.1 c.add_few.ensures.0,
      search rules,
      block_counted w 128 c.args.a.now c.args.b.now _ _ _ size turn.invariant.3 c.add_few.ensures.1,
    )

pub returns : goal.returns
returns c = let last = c.loop-w in
    let all : last.w * 128 ≡ length c.args.out.now = omega (arith, c.requires.1, last.invariant.0, c.loop-w-test.false) in (
      parts_end last.w 128 last.w 128 _ c.args.out.now _ refl refl (sym all) last.invariant.1
          ∙ listed-tabulate (last.w * 128) _ (sum (present c.args.a.now) (present c.args.b.now)) (λ m _. refl)
          ∙ ap (λ (x : ℕ). tabulate x (sum (present c.args.a.now) (present c.args.b.now))) all,
      last.invariant.3 ∙ ap (λ (x : ℕ). count x (sum (present c.args.a.now) (present c.args.b.now))) all,
    )
