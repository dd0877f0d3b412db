-- `solver::word_count` meets its contract. Assumes nothing.
use native.Mathlib.Nat.{mul-le-mul}
use Rattle.words.proofs.Letters.{count_small}
use Rattle.solver.proofs.word_count.Goals as goal

pub returns : goal.returns
returns c =
    let few = count_small _ _ c.word_count.ensures c.args.letters.n_fits in
    (c.word_count.ensures, few, mul-le-mul c.args.letters.unknowns_fit few)
