-- `words::replace` meets its contract. Assumes nothing.
use Rattle.std.proofs.Common.{◌≡◌, ◌∙◌, sym, ap, get_or, rules}
use Rattle.ring.specs.Letters.{bit}
use Rattle.words.proofs.Words.{bit_at_lem}
use Rattle.words.specs.Inner.Words.{bit_at}
use Rattle.words.proofs.replace.Goals as goal

pub returns : goal.returns
returns c = c.replace_by.ensures (bit_at c.args.a.now) (λ w v i e l m.
    let is : v ≡ get_or c.args.a.now w 0 = search rules in
    ap (λ x. bit x i) is ∙ sym (bit_at_lem c.args.a.now w i m))
