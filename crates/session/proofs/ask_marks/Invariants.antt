-- `session::ask_marks` meets its contract. The invariant: the names so far pass.
-- Assumes nothing.
use lib.ListN.{take}
use Rattle.tables.specs.Inner.Passed.{NoneNo}
use Rattle.session.specs.Inner.Asking.{marked_questions}
use Rattle.session.proofs.ask_marks.Given as goal

abbrev pub invariant-loop-mark : goal.invariant-loop-mark
invariant-loop-mark l = NoneNo (marked_questions l.k (take l.mark-index l.marks))
