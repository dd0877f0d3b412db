-- Questions 22 and 23, and then the entry, with room for up to six letters or for ten. Assumes nothing.
use native.Mathlib.Omega.{arith}
use lib.Pow.{pow_mono}
use Rattle.std.proofs.lemmas.Result.{err_from_is_err_and}
use Rattle.writer.proofs.Asked.{fact_refused, fact_done, fact_ready, room_for}
use Rattle.writer.proofs.write_tables.Goals as goal

pub returns-in_err-keep : goal.returns-in_err-keep
returns-in_err-keep c =
    let no = err_from_is_err_and c.from_residual.result c.from_residual.ensures.1 in
    rw (no.1, no.2) (fact_refused _ _ _ _ _ _ c.in_err-keep.ensures.value)

pub write_in-requires : goal.write_in-requires
write_in-requires c =
    let few = pow_mono c.if-ordered-le6.true in (
      fact_ready _ _ c.in_ok-keep.ensures.value c.requires.0 c.requires.1 c.requires.2,
      c.in_ok-keep.ensures.kept_after,
      few,
      room_for c.args.ordered.letters 64 few,
      omega arith,
      omega arith,
    )

pub returns-then-ordered-le6 : goal.returns-then-ordered-le6
returns-then-ordered-le6 c = fact_done _ _ _ _ _ c.in_ok-keep.ensures.value c.write_in.ensures

pub write_in-requires-2 : goal.write_in-requires-2
write_in-requires-2 c =
    let most = pow_mono c.args.ordered.letters.n_fits in (
      fact_ready _ _ c.in_ok-keep.ensures.value c.requires.0 c.requires.1 c.requires.2,
      c.in_ok-keep.ensures.kept_after,
      most,
      room_for c.args.ordered.letters 1024 most,
      omega arith,
      omega arith,
    )

pub returns : goal.returns
returns c = fact_done _ _ _ _ _ c.in_ok-keep.ensures.value c.write_in-2.ensures
