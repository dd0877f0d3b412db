-- `polynomials::add_few` meets its contract: the bytes below i are made, and counted. Assumes nothing.
use mathlib.Core.Path.{◌≡◌, refl, ap, ◌∙◌}
use Prim.Native.Nat.{ℕ, ◌≤◌}
use native.Mathlib.Omega.{arith}
use borrow.Author.Rules.{rules}
use lib.ListN.{length}
use Rattle.ring.specs.Polynomial.{count, sum}
use Rattle.ring.specs.Table.{present}
use Rattle.ring.proofs.Bool.{digit_lt}
use Rattle.ring.proofs.Parity.{count_most, count_next}
use Rattle.tables.proofs.Filled.{filled-start, filled_more, filled_whole}
use Rattle.polynomials.proofs.Sums.{sum_byte}
use Rattle.polynomials.proofs.add_few.Goals as goal

pub loop-i-init : goal.loop-i-init
unfolding count
loop-i-init c = (search rules, filled-start _ _ _ refl, refl, refl)

-- the counter is at most the number of bytes passed, and the byte at most 1
pub overflow_add-ones : goal.overflow_add-ones
overflow_add-ones c = omega (
  arith,
  c.loop-i.invariant.0,
  c.loop-i.invariant.3,
  c.requires.0,
  c.loop-i-test.true,
  count_most c.loop-i.i (sum (present c.args.a.now) (present c.args.b.now)),
  sum_byte c.args.a.now c.args.b.now c.loop-i.i c.requires.3 c.requires.4,
  digit_lt (sum (present c.args.a.now) (present c.args.b.now) c.loop-i.i),
)

pub loop-i-preserved : goal.loop-i-preserved
loop-i-preserved c = let byte = sum_byte c.args.a.now c.args.b.now c.loop-i.i c.requires.3 c.requires.4 in (
  search rules,
  filled_more _ _ _ _ c.loop-i.invariant.1 _ (omega (arith, c.loop-i.invariant.2, c.loop-i-test.true)) byte,
  search rules,
  count_next _ _ _ _ c.loop-i.invariant.3 byte,
)

pub returns : goal.returns
returns c = let last = c.loop-i in
    let all : length c.args.out.now ≤ last.i = omega (arith, last.invariant.2, c.loop-i-test.false) in
    let end : last.i ≡ length c.args.out.now = omega (arith, last.invariant.0, all) in (
      filled_whole (sum (present c.args.a.now) (present c.args.b.now)) c.args.out.now _ _ last.invariant.1
          last.invariant.0 all,
      last.invariant.3 ∙ ap (λ (k : ℕ). count k (sum (present c.args.a.now) (present c.args.b.now))) end,
    )
