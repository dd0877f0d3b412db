-- `words::put_eight` meets its contract. Assumes nothing.
use Rattle.std.proofs.Common.{◌≡◌, ◌/◌, ◌∙◌, arith}
use Rattle.ring.specs.Lists.{listed}
use Rattle.words.proofs.put_eight.Goals as goal

pub returns : goal.returns
unfolding listed
returns c =
    let first : c.args.word / 1 ≡ c.args.word = omega arith in
    rw first (c.copy_from_slice.ensures.after ∙ c.to_le_bytes.ensures)
