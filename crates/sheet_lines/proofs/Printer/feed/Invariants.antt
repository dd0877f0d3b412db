-- The invariant: the bytes passed did what `Took` says, and the output keeps its length. Assumes nothing.
use Rattle.sheet_lines.specs.Inner.Feeding.{Took}
use Rattle.sheet_lines.proofs.Printer.feed.Given as goal

abbrev pub invariant-loop-used : goal.invariant-loop-used
invariant-loop-used l = Took l.initial.self l.piece l.initial.out l.at l.used l.next l.self l.out
