-- `session::joined_table` meets its contract: the join of the two front parts, and what stands behind them.
-- Assumes nothing.
use mathlib.Core.Path.{◌≡◌, sym, ◌∙◌}
use Prim.Native.Nat.{◌≤◌}
use borrow.Author.Rules.{rules}
use lib.ListN.{length}
use lib.Seq.{length-take-le}
use Rattle.tables.proofs.Questions.{pow_small}
use Rattle.session.proofs.Joined.{front_table, joined_all}
use Rattle.session.proofs.joined_table.Goals as goal

-- the table has room for those of ten letters
pub slice_bounds-t-end : goal.slice_bounds-t-end
slice_bounds-t-end c = let long : length c.args.t ≡ 1024 = search rules in
    let l = c.args.letters in rw long (pow_small _ _ l.table_len_is l.n_fits)

pub slice_bounds-join-end : goal.slice_bounds-join-end
slice_bounds-join-end c = let long : length c.args.t ≡ 1024 = search rules in
    let l = c.args.letters in sym (length-take-le _ _ (rw long (pow_small _ _ l.table_len_is l.n_fits)))

pub slice_bounds-out-end : goal.slice_bounds-out-end
slice_bounds-out-end c = let long : length c.args.t ≡ 1024 = search rules in
    let l = c.args.letters in rw long (pow_small _ _ l.table_len_is l.n_fits)

pub slice_bounds-join-end-3 : goal.slice_bounds-join-end-3
slice_bounds-join-end-3 c = let long : length c.args.t ≡ 1024 = search rules in
    let l = c.args.letters in sym (length-take-le _ _ (rw long (pow_small _ _ l.table_len_is l.n_fits)))

pub join-requires : goal.join-requires
join-requires c = let long : length c.args.t ≡ 1024 = search rules in
    let l = c.args.letters in
    let fits : l.table_len ≤ length c.args.t = rw long (pow_small _ _ l.table_len_is l.n_fits) in (
      l.n_fits,
      front_table _ _ _ l.table_len_is fits c.requires.1,
      front_table _ _ _ l.table_len_is c.requires.0 c.requires.2,
      length-take-le _ _ fits ∙ l.table_len_is,
    )

pub returns : goal.returns
returns c = joined_all _ _ _ _ _ c.args.letters.table_len_is c.join.ensures
