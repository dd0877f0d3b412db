-- A line feed, a byte that is kept, and one too many. Assumes nothing.
use Rattle.std.proofs.Common.{◌≤◌, ◌≢◌, length, arith}
use Rattle.sheet_lines.proofs.Feeding.{counted_yes, counted_no, took_line, took_kept, took_full}
use Rattle.sheet_lines.proofs.Printer.take_byte.Goals as goal

pub returns-then-byte-eq10 : goal.returns-then-byte-eq10
returns-then-byte-eq10 c =
    let line = rw c.deref.ensures.0 at c.sheet_line-printed.ensures in
    rw (← c.self.view_is, c.clear.ensures) (took_line _ _ _ _ c.if-byte-eq10.true line)

pub returns-then-not-is_full : goal.returns-then-not-is_full
returns-then-not-is_full c =
    let few : length c.self.inside.begun.items ≤ 301 = c.is_full.ensures.fits in
    let not_all : length c.self.inside.begun.items ≢ 301 = counted_no _ _ c.is_full.ensures.value c.if-not-is_full.true in
    rw (← c.self.view_is, c.push.ensures.items) (took_kept _ _ _ _ c.if-byte-eq10.false (omega arith) (omega arith))

pub returns-else-not-is_full : goal.returns-else-not-is_full
returns-else-not-is_full c =
    rw (← c.self.view_is) (took_full _ _ _ _ c.if-byte-eq10.false (omega arith) (counted_yes _ _ c.is_full.ensures.value c.if-not-is_full.false))
