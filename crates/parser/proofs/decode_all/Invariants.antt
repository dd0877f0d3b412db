-- Byte by byte. Assumes nothing.
use mathlib.Core.Path.{◌≡◌}
use lib.ListN.{length, get_or}
use Rattle.tables.proofs.Filled.{filled}
use Rattle.grammar.specs.Symbols.{symbol}
use Rattle.parser.specs.Inner.Codes.{code}
use Rattle.parser.proofs.decode_all.Given as goal

abbrev pub invariant-loop-byte : goal.invariant-loop-byte
invariant-loop-byte l =
    (l.s ≡ filled l.byte-index (λ m. code (symbol (get_or l.initial.s m 0))) l.initial.s)
    × (length l.s ≡ length l.initial.s)
