-- `words::gather_all` meets its contract. Assumes nothing.
use Rattle.std.proofs.Common.{◌≡◌, ◌+◌, ◌*◌, ◌-◌, arith, rules}
use native.Mathlib.Nat.{mul_comm}
use Rattle.words.proofs.Holds.{word_holds}
use Rattle.words.proofs.Crossing.{part_crossed}
use Rattle.words.proofs.gather_all.Goals as goal

pub returns : goal.returns
returns c = c.put_each.ensures _ (λ w v i e l m.
    let d : w * 64 + 64 - w * 64 ≡ 64 = omega arith in
    (word_holds v _ (part_crossed c.args.t.now (w * 64) (w * 64 + 64 - w * 64) w v (mul_comm w 64) d (search rules))).bits i m)
