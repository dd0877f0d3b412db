-- Too few bytes are left, or the first byte tells. Assumes nothing.
use mathlib.Core.Path.{◌≡◌, sym, ◌∙◌}
use native.Mathlib.Omega.{arith}
use lib.Dec.{leb, eqb}
use lib.ListN.{get_or}
use borrow.Author.Tests.{lt-leb}
use Rattle.records.specs.Inner.Kinds.{stands}
use Rattle.records.proofs.Standing.{some_size, too_short, by_first_byte, told}
use Rattle.records.proofs.is_there.Goals as goal

pub bounds-s-at : goal.bounds-s-at
bounds-s-at c = omega (arith, some_size c.args.kind)

pub returns-then-size-s : goal.returns-then-size-s
returns-then-size-s c =
    let same : eqb (get_or c.args.s.now c.args.at 0) c.byte.result ≡ stands c.args.s.now c.args.at c.args.kind =
    rw c.byte.ensures (by_first_byte c.args.s.now c.args.at c.args.kind (omega arith)) in
    record { value = same; there = told c.args.s.now c.args.at c.args.kind c.requires _ same }

pub returns-else-size-s : goal.returns-else-size-s
returns-else-size-s c =
    let same : leb c.size.result _ ≡ stands c.args.s.now c.args.at c.args.kind =
    lt-leb _ _ c.if-size-s.false ∙ sym (too_short c.args.s.now c.args.at c.args.kind (omega arith)) in
    record { value = same; there = told c.args.s.now c.args.at c.args.kind c.requires _ same }
