-- `words::unpack_word` meets its contract. Assumes nothing.
use mathlib.Core.Path.{◌≡◌}
use Prim.Native.Nat.{◌≤◌, ◌*◌}
use lib.ListN.{length}
use Rattle.ring.specs.Letters.{digit, bit}
use Rattle.tables.proofs.Filled.{filled}
use Rattle.words.specs.Inner.Words.{crossed}
use Rattle.words.proofs.unpack_word.Given as goal

abbrev pub invariant-loop-j : goal.invariant-loop-j
invariant-loop-j l = (l.j * 8 ≤ length l.initial.out) × (l.out ≡ filled (l.j * 8) (λ p. digit (bit l.word (crossed p))) l.initial.out) × (length l.out ≡ length l.initial.out)
