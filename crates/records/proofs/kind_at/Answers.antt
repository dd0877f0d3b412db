-- The byte of kind fixes the size, and the bytes that are left tell whether the record is whole. Assumes nothing.
use mathlib.Core.Path.{sym, ap, ◌∙◌}
use Rattle.entry.specs.Record.{size}
use native.Mathlib.Omega.{arith}
use Rattle.entry.proofs.Records.{sized_out, sized_short, sized_whole}
use Rattle.records.proofs.Standing.{decoded, not_decoded, first_byte_tells, is_whole}
use Rattle.records.proofs.kind_at.Goals as goal

pub returns-then-s-at : goal.returns-then-s-at
returns-then-s-at c = sym (sized_out _ _ c.if-s-at.true)

pub returns-in_err-kind : goal.returns-in_err-kind
returns-in_err-kind c =
    let none = not_decoded _ _ c.try_from.ensures c.ok.ensures.value c.in_err-kind.was in
    rw c.from_residual.ensures (sym (sized_whole c.args.s.now c.args.at (sym none) (omega arith)))

pub returns-then-s-at-2 : goal.returns-then-s-at-2
returns-then-s-at-2 c =
    let e = c.size.ensures ∙ ap size (sym (decoded _ _ c.try_from.ensures c.ok.ensures.value c.in_ok-kind.was)) in
    sym (sized_short c.args.s.now c.args.at e c.if-s-at-2.true)

pub returns : goal.returns
returns c = is_whole _ _ _ c.requires (first_byte_tells c.args.s.now c.args.at _ (decoded _ _ c.try_from.ensures c.ok.ensures.value c.in_ok-kind.was) (omega arith))
