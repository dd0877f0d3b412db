-- One byte more. Assumes nothing.
use Rattle.sheet_lines.proofs.Feeding.{took_none, took_more}
use Rattle.sheet_lines.proofs.Printer.feed.Goals as goal

pub loop-used-init : goal.loop-used-init
loop-used-init c = took_none _ _ _ _ c.requires

pub loop-used-preserved : goal.loop-used-preserved
loop-used-preserved c = took_more _ _ _ _ c.loop-used-test.true c.loop-used.invariant c.take_byte-next.ensures
