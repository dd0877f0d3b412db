-- `solver::test_and_mix` meets its contract: 22 and 23, the values of f*(1 + g), the handed polynomials put into a copy of them, and
-- Löwenheim's formula if nothing is left.
-- Assumes nothing.
use Rattle.std.proofs.lemmas.Result.{err_from_is_err_and}
use Rattle.words.proofs.Letters.{count_small}
use Rattle.solver.proofs.Handed.{fact_refused_by, refused_by, mixed_by}
use Rattle.solver.proofs.test_and_mix.Goals as goal

pub returns-in_err-take_where_zero : goal.returns-in_err-take_where_zero
returns-in_err-take_where_zero c =
    let no = err_from_is_err_and c.from_residual.result c.from_residual.ensures.1 in
    rw (no.1, no.2) (fact_refused_by c.args.letters _ _ _ _ _ c.in_err-take_where_zero.ensures.value)

pub first_one-requires : goal.first_one-requires
first_one-requires c = count_small _ _ c.put_handed.ensures.1 c.args.letters.n_fits

pub returns-in_err-require : goal.returns-in_err-require
returns-in_err-require c =
    let no = err_from_is_err_and c.from_residual-in_err-require.result c.from_residual-in_err-require.ensures.1 in
    let handed = c.in_err-require.ensures in
    rw (no.1, no.2, handed.0)
    (refused_by c.args.letters _ c.args.condition.now c.args.handed.now _ c.in_ok-take_where_zero.ensures.value _ _ _ _
    c.in_ok-take_where_zero.ensures.values_after c.copy.ensures c.put_handed.ensures.1 c.first_one.ensures c.put_handed.ensures.0 handed.1)

pub returns : goal.returns
returns c =
    mixed_by c.args.letters _ c.args.condition.now c.args.handed.now _ c.in_ok-take_where_zero.ensures.value _ _ _ _
    c.in_ok-take_where_zero.ensures.values_after c.copy.ensures c.put_handed.ensures.1 c.first_one.ensures c.put_handed.ensures.0
    c.in_ok-require.ensures _ _ _ c.word_count-k.ensures.0 c.put_handed.ensures.2 c.write_mixed.ensures.0 _ c.write_mixed.ensures.1
    c.requires.4
