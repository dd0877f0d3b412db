-- The loop's invariant: the bytes kept are those of the bytes read that are no spaces. Assumes nothing.
use Rattle.parser.proofs.Decoding.{unspacing, all_unspaced, past_space, past_sign}
use Rattle.parser.proofs.drop_spaces.Goals as goal
use Rattle.parser.proofs.drop_spaces.Goals.{then-byte-ne32, else-byte-ne32}

pub loop-byte-init : goal.loop-byte-init
loop-byte-init c = unspacing _ _

pub loop-byte-preserved : goal.loop-byte-preserved
loop-byte-preserved c =
    elim c.if-byte-ne32.branch [
      | then-byte-ne32 w ↦ rw w.n-is (past_sign _ _ _ _ _ c.loop-byte.invariant c.loop-byte-test.true w.if-byte-ne32.true c.requires)
      | else-byte-ne32 w ↦ rw w.n-is (past_space _ _ _ _ _ c.loop-byte.invariant c.loop-byte-test.true w.if-byte-ne32.false)
    ]

pub returns : goal.returns
returns c = all_unspaced _ _ _ _ _ c.loop-byte.invariant c.loop-byte-test.false c.requires
