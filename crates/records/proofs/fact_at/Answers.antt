-- Behind the start, and behind a kind 6 that stands there. Assumes nothing.
use mathlib.Core.Path.{sym}
use Rattle.records.proofs.Standing.{behind_it}
use Rattle.records.proofs.Facts.{start_inside, row_first, row_second}
use Rattle.records.proofs.fact_at.Goals as goal

pub is_there-requires : goal.is_there-requires
is_there-requires c = start_inside _ c.requires c.size-at.ensures

pub returns-then-is_there : goal.returns-then-is_there
returns-then-is_there c u g t f = row_second _ c.requires c.size-at.ensures u g t f c.if-is_there.ensures.there.stands (behind_it _ c.size.ensures)

pub returns : goal.returns
returns c u g t f = row_first _ c.requires c.size-at.ensures u g t f (sym c.if-is_there.ensures.value)
