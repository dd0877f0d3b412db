-- `polynomials::take_parts` meets its contract. Assumes nothing.
use Prim.Native.Nat.{◌-◌}
use native.Mathlib.Omega.{arith}
use native.Mathlib.Nat.{zero-mul}
use borrow.Author.Rules.{rules}
use lib.Pow.{pow_pos}
use Rattle.tables.proofs.Filled.{filled-start}
use Rattle.words.proofs.Parts.{parts_more}
use Rattle.polynomials.specs.Inner.LookUp.{put_for}
use Rattle.polynomials.proofs.Work.{part_put, parts_taken}
use Rattle.polynomials.proofs.take_parts.Goals as goal

pub loop-j-init : goal.loop-j-init
loop-j-init c = (search rules, filled-start _ _ _ (zero-mul c.word_count-k.result), search rules)

pub loop-j-preserved : goal.loop-j-preserved
loop-j-preserved c = (
  search rules,
  parts_more _ _ _ _ _ _ c.loop-j.invariant.1
      (part_put _ _ _ (put_for c.args.u
      c.args.n
      c.args.handed.now) _
      c.take_part.ensures c.word_count-k.ensures),
  search rules,
)

pub returns : goal.returns
returns c = parts_taken _ _ _ (put_for c.args.u c.args.n
    c.args.handed.now) c.args.parts.now _
    c.word_count-k.ensures (omega arith) c.requires.4 c.loop-j.invariant.1
    (pow_pos (c.args.n - 6))
