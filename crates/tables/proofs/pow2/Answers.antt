-- `tables::pow2` meets its contract: the shift does not leave the word.
-- Assumes nothing.
use mathlib.Core.Path.{◌∙◌}
use Prim.Native.Nat.{◌^◌}
use native.Mathlib.Nat.{one-mul}
use native.Mathlib.Omega.{arith}
use lib.Pow.{shl_exact}
use lib.Dec.{lit<}
use Rattle.tables.proofs.pow2.Goals as goal

pub returns : goal.returns
returns c = shl_exact 1 c.args.n 64 (lit< tt) (omega arith) ∙ one-mul (2 ^ c.args.n)
