-- Refused before anything is written. Assumes nothing.
use mathlib.Core.Path.{◌≡◌}
use Prim.Native.Nat.{◌+◌}
use native.Mathlib.Omega.{arith}
use lib.ListN.{length}
use borrow.Author.Tests.{leb-true}
use Rattle.std.proofs.lemmas.Result.{err_from_is_err_and}
use Rattle.tables.proofs.Questions.{pow_small}
use Rattle.writer.specs.Inner.Headed.{entry_of}
use Rattle.writer.proofs.Parts.{heads_size}
use Rattle.writer.proofs.Asked.{output_short, output_done}
use Rattle.writer.proofs.hand_out.Goals as goal

pub fact_size-facts-requires : goal.fact_size-facts-requires
fact_size-facts-requires c = let h = c.args.heads.now in (h.of_fact.bits, pow_small _ _ h.of_fact.size h.ordered.letters.n_fits)

pub returns-in_err-require : goal.returns-in_err-require
returns-in_err-require c =
    let heads = heads_size _ _ _ c.args.heads.now.fact.now c.order_size.ensures.0 (c.fact_size-facts.ensures.0 _ c.args.heads.now.of_fact.size) in
    let size : 6 + (c.order_size.result + c.fact_size-facts.result + c.records_size.result)
    ≡ length (entry_of c.args.heads.now c.args.found c.args.codes.now) = omega (arith, c.requires.size, heads, c.records_size.ensures) in
    let short = c.in_err-require.ensures in
    let no = err_from_is_err_and c.from_residual.result c.from_residual.ensures.1 in
    rw (no.1, no.2, short.0) (output_short _ _ size short.1)

pub compose-requires : goal.compose-requires
compose-requires c =
    let facts = c.fact_size-facts.ensures.0 _ c.args.heads.now.of_fact.size in
    let heads = heads_size _ _ _ c.args.heads.now.fact.now c.order_size.ensures.0 facts in
    (facts, c.requires.count, omega (arith, c.requires.size, heads, c.records_size.ensures, leb-true _ _ c.in_ok-require.ensures))

pub returns : goal.returns
returns c =
    let heads = heads_size _ _ _ c.args.heads.now.fact.now c.order_size.ensures.0 (c.fact_size-facts.ensures.0 _ c.args.heads.now.of_fact.size) in
    let size : 6 + (c.order_size.result + c.fact_size-facts.result + c.records_size.result)
    ≡ length (entry_of c.args.heads.now c.args.found c.args.codes.now) = omega (arith, c.requires.size, heads, c.records_size.ensures) in
    output_done _ _ size c.in_ok-require.ensures c.compose.ensures
