-- Three parts. Assumes nothing.
use mathlib.Core.List.{map}
use native.Mathlib.Omega.{arith}
use Rattle.entry.specs.Record.{bytes}
use Rattle.entry.specs.Inner.Codes.{listed_record}
use Rattle.writer.proofs.Parts.{start_fits, fact_fits, codes_fit, front_put}
use Rattle.writer.proofs.put_front.Goals as goal

pub put_start-started-requires : goal.put_start-started-requires
put_start-started-requires c = let h = c.args.heads.now in
    start_fits _ _ _ h.fact.now h.route h.ordered.letters.givens (bytes (map listed_record c.args.codes.now)) _ c.requires.1

pub overflow_add-end : goal.overflow_add-end
overflow_add-end c = let h = c.args.heads.now in
    omega (
      arith,
      (fact_fits _ _ _ h.fact.now _ _ (bytes (map listed_record c.args.codes.now)) c.put_start-started.ensures c.requires.1 c.requires.0).1,
    )

pub put_fact-told-requires : goal.put_fact-told-requires
put_fact-told-requires c = let h = c.args.heads.now in
    fact_fits _ _ _ h.fact.now _ _ (bytes (map listed_record c.args.codes.now)) c.put_start-started.ensures c.requires.1 c.requires.0

pub put_monomials-requires : goal.put_monomials-requires
put_monomials-requires c = let h = c.args.heads.now in
    codes_fit _ _ _ h.fact.now _ _ (bytes (map listed_record c.args.codes.now)) c.put_start-started.ensures c.requires.1 c.put_fact-told.ensures

pub returns : goal.returns
returns c = let h = c.args.heads.now in
    front_put _ _ _ h.fact.now _ _ (bytes (map listed_record c.args.codes.now)) c.put_start-started.ensures c.requires.1 c.put_fact-told.ensures
    c.put_monomials.ensures
