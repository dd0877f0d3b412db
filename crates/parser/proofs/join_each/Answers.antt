-- `parser::join_each` meets its contract. Assumes nothing.
use mathlib.Core.Path.{ap₂, ◌∙◌}
use borrow.Author.Rules.{rules}
use lib.ListN.{get_or}
use Rattle.parser.specs.Inner.Blocks.{paired}
use Rattle.parser.proofs.Blocks.{filled_apart}
use Rattle.parser.proofs.join_each.Goals as goal

pub returns : goal.returns
unfolding paired
returns g c = λ op gives. let halves = c.split_at_mut-first.ensures in
    let parts = c.split_at_mut-first.result in
    filled_apart c.args.k (paired op c.args.k c.args.stack.now) c.args.stack.now parts.0.now _ halves.front_len halves.back
    (c.put_each.ensures (paired op c.args.k c.args.stack.now) (λ i v l given.
    gives (get_or parts.0.now i 0) (get_or parts.1.now i 0) v (search rules) ∙ ap₂ op (halves.by_index.0 i 0 l) (halves.by_index.1 i 0)))
