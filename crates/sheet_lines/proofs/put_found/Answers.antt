-- The first record and the monomials, and behind them the end, or 'none' and the end. Assumes nothing.
use Rattle.sheet_lines.proofs.Entries.{front_fits, solved_end, solved_put, unsolved_end, unsolved_put}
use Rattle.sheet_lines.proofs.put_found.Goals as goal

pub put_front-listed-requires : goal.put_front-listed-requires
put_front-listed-requires c =
    (c.requires.0, front_fits _ _ _ c.args.found c.args.codes.now _ _ c.requires.2)

pub put_none-requires : goal.put_none-requires
put_none-requires c = (c.requires.0, unsolved_end _ _ _ c.args.found c.args.codes.now c.put_front-listed.ensures c.in-Some.is c.requires.2)

pub put_end-requires : goal.put_end-requires
put_end-requires c = (c.requires.0, solved_end _ _ _ c.args.found c.args.codes.now c.put_front-listed.ensures c.in-None.is c.requires.2)

pub returns-in-Some : goal.returns-in-Some
returns-in-Some c = unsolved_put _ _ _ c.args.found c.args.codes.now c.put_front-listed.ensures c.in-Some.is c.put_none.ensures

pub returns-in-None : goal.returns-in-None
returns-in-None c = solved_put _ _ _ c.args.found c.args.codes.now c.put_front-listed.ensures c.in-None.is c.put_end.ensures
