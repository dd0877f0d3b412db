-- Assumes nothing.
use native.Mathlib.Omega.{arith}
use Rattle.tables.proofs.Put.{put_length, put_one}
use Rattle.printing.proofs.Hexadecimal.{hex_length}
use Rattle.printing.proofs.put_line.Goals as goal

pub bounds-out-end : goal.bounds-out-end
bounds-out-end c = let put = c.put_hexadecimal-end.ensures in
    omega (arith, put.place, put_length put, hex_length c.args.bytes.now)

pub overflow_add-result : goal.overflow_add-result
overflow_add-result c = let put = c.put_hexadecimal-end.ensures in
    omega (arith, put.place, put_length put, hex_length c.args.bytes.now)

pub returns : goal.returns
returns c = let put = c.put_hexadecimal-end.ensures in
    put_one put (omega (arith, put.place, put_length put, hex_length c.args.bytes.now)) 10
