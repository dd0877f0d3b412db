-- The invariant: the piece is printed but for the rest, and the output keeps its length. The measure is the rest, which falls since the output
-- has room for a line. Assumes nothing.
use Rattle.std.proofs.Common.{length}
use Rattle.sheet.proofs.Running.{Passed}
use Rattle.sheet.proofs.print_piece.Given as goal

abbrev pub invariant-loop-rest : goal.invariant-loop-rest
invariant-loop-rest g l = Passed l.fn.before l.initial.printer l.piece l.rest l.written l.printer

abbrev pub decreases-loop-rest : goal.decreases-loop-rest
decreases-loop-rest g l = length l.rest
