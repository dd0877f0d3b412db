-- `words::restrict` meets its contract. Assumes nothing.
use Rattle.std.proofs.Common.{◌≡◌, ◌∙◌, ap, rules}
use Rattle.ring.specs.Letters.{bit}
use Rattle.words.proofs.Holds.{constant_holds}
use Rattle.words.proofs.restrict.Goals as goal

pub returns : goal.returns
returns c = c.replace_by.ensures (λ _. c.args.value) (λ w v i e l m.
    let is : v ≡ c.constant_word-set.result = search rules in
    ap (λ x. bit x i) is ∙ (constant_holds c.args.value _ c.constant_word-set.ensures).bits i m)
