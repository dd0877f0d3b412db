-- Room for the words of the answers, and of one polynomial. Assumes nothing.
use mathlib.Core.Path.{refl}
use native.Mathlib.Nat.{mul-le-mul}
use native.Mathlib.Omega.{arith}
use Rattle.words.proofs.Letters.{count_small}
use Rattle.writer.proofs.list_entry.Goals as goal

pub list_in-requires-2 : goal.list_in-requires-2
list_in-requires-2 c =
    let l = c.args.ordered.letters in
    let one = count_small _ _ refl l.n_fits in
    (c.requires.0, c.requires.1, mul-le-mul l.unknowns_fit one, one, omega arith, omega arith)
