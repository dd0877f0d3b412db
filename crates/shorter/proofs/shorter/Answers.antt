-- `shorter::shorter` meets its contract: no bytes where a question is answered no, or the part of the shorter table.
-- Assumes nothing.
use mathlib.Core.Bool.{true, false}
use Rattle.shorter.proofs.Calls.{part_none, part_taken}
use Rattle.shorter.proofs.shorter.Goals as goal

pub returns-in_default : goal.returns-in_default
returns-in_default c =
    let part = part_none _ _ _ _ c.in_default.field-0 c.in_default.ensures in
    record { contents = part.contents; place = rw part.place }

pub returns-in-Boole : goal.returns-in-Boole
returns-in-Boole c =
    let passed = c.in-Ok.ensures in
    let part = part_taken _ _ _ _ _ _ passed.0 false c.in-Boole.ensures in
    record { contents = part.contents; place = rw part.place passed.1 }

pub returns-in-Lowenheim : goal.returns-in-Lowenheim
returns-in-Lowenheim c =
    let passed = c.in-Ok.ensures in
    let part = part_taken _ _ _ _ _ _ passed.0 true c.in-Lowenheim.ensures in
    record { contents = part.contents; place = rw part.place passed.2 }
