-- `polynomials::take_fours` meets its contract. Assumes nothing.
use mathlib.Core.Path.{◌≡◌}
use Prim.Native.Nat.{◌≤◌, ◌*◌, ◌/◌, ◌%◌, ◌^◌}
use lib.ListN.{length, get_or}
use Rattle.tables.proofs.Filled.{filled}
use Rattle.polynomials.proofs.take_fours.Given as goal

abbrev pub invariant-loop-q : goal.invariant-loop-q
invariant-loop-q l = (l.q ≤ 16) × (l.t ≡ filled l.q (λ q. get_or l.s (l.word / 2 ^ (4 * q) % 16) 0) l.initial.t) × (length l.t ≡ length l.initial.t)
