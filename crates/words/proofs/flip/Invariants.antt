-- `words::flip` meets its contract: the higher letters at once, and the others one by one.
-- Assumes nothing.
use mathlib.Core.Path.{◌≡◌}
use Prim.Native.Nat.{◌≤◌, ◌+◌, ◌^◌}
use Rattle.words.specs.Inner.Words.{words_of, bit_at}
use Rattle.words.proofs.Flipped.{flipped_to}
use Rattle.words.proofs.flip.Given as goal

abbrev pub invariant-loop-x : goal.invariant-loop-x
invariant-loop-x l = (l.x ≤ 6) × (l.out ≡ words_of (2 ^ l.c) (λ p. bit_at l.f (flipped_to (6 + l.c) l.s l.x p)))
