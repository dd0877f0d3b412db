-- A readable line has room for its fields. Assumes nothing.
use Rattle.std.proofs.Common.{arith, length-take-le}
use Rattle.sheet_lines.proofs.Fields.{Fits, readable_fits, read_yes}
use Rattle.sheet_lines.proofs.read_line.Goals as goal

pub number-requires : goal.number-requires
number-requires c =
    let fits : Fits c.args.line.now c.digits_ahead-k.result = search readable_fits in
    omega (arith, length-take-le c.digits_ahead-k.result c.args.line.now (omega arith))

pub bounds-line-k : goal.bounds-line-k
bounds-line-k c = let fits : Fits c.args.line.now c.digits_ahead-k.result = search readable_fits in omega arith

pub bounds-line-k-2 : goal.bounds-line-k-2
bounds-line-k-2 c = let fits : Fits c.args.line.now c.digits_ahead-k.result = search readable_fits in omega arith

pub returns : goal.returns
returns c = search read_yes
