-- A line, and those of the monomials. Assumes nothing.
use Rattle.sheet_lines.proofs.Entries.{front_room, front_put}
use Rattle.sheet_lines.proofs.put_front.Goals as goal

pub put_monomials-requires : goal.put_monomials-requires
put_monomials-requires c = search front_room

pub returns : goal.returns
returns c = search front_put
