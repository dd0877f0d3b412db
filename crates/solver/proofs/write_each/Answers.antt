-- `solver::write_each` meets its contract: the tables of the unknowns below x are written, and counted. Assumes nothing.
use mathlib.Core.Path.{◌≡◌, refl}
use native.Mathlib.Nat.{zero-mul}
use native.Mathlib.Omega.{arith}
use borrow.Author.Rules.{rules}
use Rattle.ring.specs.Length.{total_count}
use Rattle.tables.proofs.Filled.{filled-start}
use Rattle.solver.proofs.Tables.{tables_more, tables_done, total_more, total_done, count_small, made_table}
use Rattle.solver.proofs.write_each.Goals as goal

pub loop-x-init : goal.loop-x-init
unfolding total_count
loop-x-init g c = record {
  room = c.requires.lengths.1;
  size = refl;
  small = omega arith;
  made = λ h makes. (filled-start _ _ _ (zero-mul c.args.letters.table_len), refl);
}

pub overflow_add-total : goal.overflow_add-total
overflow_add-total g c = omega (arith, count_small c.args.letters _ _ c.put_counted-total.ensures.1)

pub loop-x-preserved : goal.loop-x-preserved
loop-x-preserved g c = record {
  room = search rules;
  size = search rules;
  small = omega (arith, count_small c.args.letters _ _ c.put_counted-total.ensures.1);
  made = λ h makes.
      let left = makes _ _ _ _ c.loop-x-test.true (search rules) (search rules) c.take.ensures in
      let same = made_table c.args.letters h _ _ c.args.parts.now _ c.word_count-k.ensures.0 left.1 in
      let so_far = c.loop-x.invariant.made h makes in (
        tables_more c.args.letters.n _ _ _ _ _ _ _ c.args.letters.table_len_is so_far.0 c.put_counted-total.ensures.0 same,
        total_more c.args.letters.n _ _ _ _ _ _ so_far.1 c.put_counted-total.ensures.0 same c.put_counted-total.ensures.1,
      );
}

pub returns : goal.returns
returns g c h makes =
    let all : c.loop-x.x ≡ c.args.letters.unknowns = omega arith in
    let so_far = c.loop-x.invariant.made h makes in
    let made = tables_done c.args.letters.n _ _ _ _ c.args.answers.now _ c.args.letters.table_len_is all c.requires.lengths.2 so_far.0 in
    (made, total_done c.args.letters.n _ _ _ _ _ all so_far.1 made)
