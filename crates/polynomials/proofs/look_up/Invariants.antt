-- `polynomials::look_up` meets its contract. Assumes nothing.
use mathlib.Core.Path.{◌≡◌}
use Prim.Native.Nat.{◌≤◌, ◌+◌, ◌*◌, ◌/◌}
use lib.ListN.{length}
use Rattle.ring.specs.Letters.{point_where}
use Rattle.words.specs.Inner.Words.{bit_at}
use Rattle.words.proofs.Holds.{words_to}
use Rattle.polynomials.proofs.look_up.Given as goal

abbrev pub invariant-loop-w : goal.invariant-loop-w
invariant-loop-w l = (l.w ≤ length l.initial.f) × (l.f ≡ words_to l.w (λ p. bit_at l.initial.f (64 * (p / 64) + point_where 6 (λ j. bit_at l.parts (j * (64 * length l.initial.f) + p)))) l.initial.f)
    × (length l.f ≡ length l.initial.f) × (length l.t ≡ 16) × (length l.s ≡ 16)
