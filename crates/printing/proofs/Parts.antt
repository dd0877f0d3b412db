-- A part of the output that all of some bytes are copied to.
-- Assumes nothing.
use mathlib.Core.Path.{◌≡◌, refl, sym, ap, ◌∙◌}
use mathlib.Core.List.{List, ◌++◌, append_assoc}
use Prim.Native.Nat.{ℕ, ◌+◌, ◌-◌, ◌≤◌}
use native.Mathlib.Omega.{arith}
use lib.ListN.{length, take}
use borrow.Rule.Slice.PartMut.{put_mid, Post-is}
use Rattle.std.proofs.lemmas.List.Edits.{sets-eq}
use Rattle.tables.specs.Inner.Put.{Put}

pub put_part : (old vs : List ℕ) (at : ℕ) {part : List ℕ} → part ≡ vs → at + length vs ≤ length old
    → Put old at vs (at + length vs) (put_mid at (at + length vs - at) old part)
put_part old vs at e h =
    record {
      place = refl;
      inside = h;
      bytes =
          ap (put_mid at (at + length vs - at) old) e
          ∙ ap (λ (l : List ℕ). take at old ++ (vs ++ l)) (Post-is at (at + length vs) old (omega arith))
          ∙ sym (append_assoc (take at old) vs _)
          ∙ sym (sets-eq vs old at h);
    }
