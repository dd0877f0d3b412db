-- The first bytes fit. Assumes nothing.
use mathlib.Core.Path.{◌≡◌, ap, ◌∙◌}
use mathlib.Core.List.{List}
use Prim.Native.Nat.{ℕ}
use lib.ListN.{take}
use Rattle.std.proofs.lemmas.List.{take_min}
use Rattle.sheet_lines.specs.Pieces.{kept_length}
use Rattle.sheet_lines.proofs.Feeding.{fitted, first_fits}
use Rattle.sheet_lines.proofs.Printer.resume.Goals as goal

pub returns : goal.returns
returns c =
    let cut : take c.min.result c.args.begun.now ≡ take kept_length c.args.begun.now =
    ap (λ (n : ℕ). take n c.args.begun.now) c.min.ensures ∙ take_min 301 c.args.begun.now in
    let items = fitted c.try_extend_from_slice.result c.try_extend_from_slice.ensures.variant
    (rw c.new-kept.ensures (first_fits _ c.args.begun.now c.min.ensures))
    c.try_extend_from_slice.ensures.ok in
    ap (λ (l : List ℕ). record { last = c.args.last; begun = l }) (items ∙ rw c.new-kept.ensures cut)
