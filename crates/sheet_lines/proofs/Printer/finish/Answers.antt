-- What is printed, in the terms of the fields. Assumes nothing.
use Rattle.std.proofs.Common.{arith}
use Rattle.sheet_lines.proofs.Feeding.{counted_yes, counted_no, last_none, last_line}
use Rattle.sheet_lines.proofs.Printer.finish.Goals as goal

pub returns-then-is_empty : goal.returns-then-is_empty
returns-then-is_empty c =
    rw (← c.self.view_is) (last_none _ _ _ (counted_yes _ _ c.is_empty.ensures c.if-is_empty.true) (omega arith))

pub returns : goal.returns
returns c =
    let line = rw c.deref.ensures.0 at c.sheet_line-printed.ensures in
    rw (← c.self.view_is) (last_line _ _ _ (counted_no _ _ c.is_empty.ensures c.if-is_empty.false) line)
