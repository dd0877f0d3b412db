-- Byte by byte. Assumes nothing.
use mathlib.Core.Path.{refl, ap, ◌∙◌}
use Prim.Native.Nat.{ℕ}
use native.Mathlib.Omega.{arith}
use borrow.Author.Rules.{rules}
use Rattle.tables.proofs.Filled.{filled-start, filled_more, filled_read, filled_end}
use Rattle.grammar.specs.Symbols.{symbol}
use Rattle.parser.specs.Inner.Codes.{code}
use Rattle.parser.proofs.decode_all.Goals as goal

pub loop-byte-init : goal.loop-byte-init
loop-byte-init c = (filled-start _ _ _ refl, refl)

pub loop-byte-preserved : goal.loop-byte-preserved
loop-byte-preserved c = let inv = c.loop-byte.invariant in
    let more = c.loop-byte-test.true in
    let new = c.decode.ensures ∙ ap (λ (x : ℕ). code (symbol x)) (filled_read _ _ _ _ inv.0 more) in
    (filled_more _ _ _ _ inv.0 _ more new, search rules)

pub returns : goal.returns
returns c = filled_end _ _ _ _ c.loop-byte.invariant.0 (omega arith) (omega arith)
