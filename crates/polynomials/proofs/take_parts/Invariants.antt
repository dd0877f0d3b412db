-- `polynomials::take_parts` meets its contract. Assumes nothing.
use mathlib.Core.Path.{◌≡◌}
use Prim.Native.Nat.{◌≤◌, ◌*◌}
use lib.ListN.{length}
use Rattle.tables.proofs.Filled.{filled}
use Rattle.polynomials.specs.Inner.LookUp.{put_for}
use Rattle.polynomials.proofs.Work.{part_word}
use Rattle.polynomials.proofs.take_parts.Given as goal

abbrev pub invariant-loop-j : goal.invariant-loop-j
invariant-loop-j l = (l.j ≤ 6) × (l.parts ≡ filled (l.j * l.k) (part_word l.k (put_for l.u l.n l.handed)) l.initial.parts) × (length l.parts ≡ length l.initial.parts)
