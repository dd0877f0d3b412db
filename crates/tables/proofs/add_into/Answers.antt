-- `tables::add_into` meets its contract: on bytes that are 0 or 1 the loop's operation is the sum. Assumes nothing.
use mathlib.Core.Path.{refl}
use native.Mathlib.Omega.{arith}
use borrow.Author.Rules.{rules}
use lib.Bits.{bit_xor}
use Rattle.ring.specs.Polynomial.{sum}
use Rattle.ring.specs.Table.{present}
use Rattle.tables.proofs.Bits.{xor_bytes}
use Rattle.tables.proofs.Filled.{filled-start, combined_more, combined_end}
use Rattle.tables.proofs.add_into.Goals as goal

pub loop-i-init : goal.loop-i-init
loop-i-init c = (filled-start _ _ _ refl, refl)

pub loop-i-preserved : goal.loop-i-preserved
loop-i-preserved c = (combined_more bit_xor _ _ _ _ c.loop-i.invariant.0 (omega arith), search rules)

pub returns : goal.returns
unfolding sum present
returns c = let pre = c.requires in
    combined_end bit_xor _ _ _ _ _ c.loop-i.invariant.0 (omega arith) (omega arith) (λ m. xor_bytes _ _ (pre.1 m) (pre.2 m))
