-- Each record of the row puts its monomial in. Assumes nothing.
use mathlib.Core.Path.{sym}
use native.Mathlib.Omega.{arith}
use Rattle.records.proofs.Standing.{behind_it, some_size, lent_of, moved}
use Rattle.records.proofs.OneRecord.{length_small}
use Rattle.records.proofs.Filling.{row_start, row_put}
use Rattle.records.proofs.put_row.Goals as goal

pub loop-kind-init : goal.loop-kind-init
loop-kind-init c = row_start _ _ _ _ _ _ c.requires.0 c.requires.2

pub byte_in-requires : goal.byte_in-requires
byte_in-requires c = (lent_of _ _ _ c.loop-kind-test.ensures.there.stands (behind_it _ c.size.ensures), c.requires.1, length_small c.args.letters)

pub loop-kind-smaller : goal.loop-kind-smaller
loop-kind-smaller c = omega (arith, c.size.ensures, some_size c.args.kind, c.loop-kind-test.ensures.there.inside)

pub loop-kind-preserved : goal.loop-kind-preserved
loop-kind-preserved c =
    row_put _ c.requires.1 _ c.args.letters _ _ _ _ c.loop-kind.invariant c.loop-kind-test.ensures.there.stands (behind_it _ c.size.ensures)
    c.byte_in.ensures c.put_one.ensures

pub returns-clause-onward : goal.returns-clause-onward
returns-clause-onward c h = moved _ _ _ _ c.loop-kind.invariant.own.onward (sym c.loop-kind-test.ensures.value) h
