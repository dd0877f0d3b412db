-- `session_block::put_marks` meets its contract. The invariant: the names so far stand at the front, and the bytes behind them are as they were.
-- Assumes nothing.
use mathlib.Core.Path.{◌≡◌, refl}
use Prim.Native.Nat.{◌<◌}
use native.Mathlib.Omega.{arith}
use lib.ListN.{length}
use borrow.Author.Rules.{rules}
use Rattle.session_block.proofs.Block.{names_none, names_put}
use Rattle.session_block.proofs.put_marks.Goals as goal

pub loop-i-init : goal.loop-i-init
loop-i-init c = (names_none _ _, refl)

pub loop-i-preserved : goal.loop-i-preserved
loop-i-preserved c =
    let four : length c.args.marks.now ≡ 4 = search rules in
    let inside : c.loop-i.i < length c.args.marks.now = omega (arith, c.loop-i-test.true) in
    let long : length c.put_mark.new.bytes ≡ 1025 = search rules in
    (names_put _ _ _ _ _ _ inside c.loop-i.invariant.0 c.put_mark.ensures long, search rules)
