-- `words::complement` meets its contract. Assumes nothing.
use Rattle.std.proofs.Common.{true, rules, refl}
use Rattle.ring.proofs.Bitwise.{xor_bit}
use Rattle.words.proofs.Words.{bit_at_lem}
use Rattle.words.proofs.Holds.{constant_holds}
use Rattle.words.proofs.complement.Goals as goal

pub returns : goal.returns
returns c = c.put_each.ensures _ (λ w v i e l m.
    let ones = (constant_holds true _ refl).bits i m in search (rules, xor_bit, bit_at_lem))
