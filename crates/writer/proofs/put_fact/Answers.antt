-- The invariant: the records of the masks so far are put. Assumes nothing.
use native.Mathlib.Omega.{arith}
use mathlib.Core.Path.{refl}
use Rattle.writer.proofs.Parts.{facts_start, mask_inside, part_fits_there, facts_more, facts_end, facts_all}
use Rattle.writer.proofs.put_fact.Goals as goal

pub loop-m-init : goal.loop-m-init
loop-m-init c = facts_start _ _ _ c.requires.0 c.requires.1

pub returns-then-end-at : goal.returns-then-end-at
returns-then-end-at c = facts_end _ _ _ _ c.args.heads.now.written c.loop-m.invariant c.requires.0 c.if-end-at.true

pub put_if_present-at-requires : goal.put_if_present-at-requires
put_if_present-at-requires c =
    let h = c.args.heads.now in (
      mask_inside _ _ _ _ h.written c.loop-m.invariant c.requires.0 c.if-end-at.false refl h.of_fact.size,
      part_fits_there _ _ _ _ h.written c.loop-m.invariant c.requires.0 c.if-end-at.false refl,
    )

pub loop-m-preserved : goal.loop-m-preserved
loop-m-preserved c =
    facts_more _ _ _ _ c.args.heads.now.written c.loop-m.invariant c.requires.0 c.if-end-at.false refl c.put_if_present-at.ensures

pub returns : goal.returns
returns c = facts_all _ _ _ _ c.args.heads.now.written c.loop-m.invariant (omega arith)
