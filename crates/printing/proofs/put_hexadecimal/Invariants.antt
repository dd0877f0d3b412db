-- The invariant: two digits for each of the bytes passed stand in their place. Assumes nothing.
use Rattle.std.proofs.Common.{take}
use Rattle.tables.specs.Inner.Put.{Put}
use Rattle.printing.specs.Print.{hexadecimal}
use Rattle.printing.proofs.put_hexadecimal.Given as goal

abbrev pub invariant-loop-byte : goal.invariant-loop-byte
invariant-loop-byte l = Put l.initial.out l.at (hexadecimal (take l.byte-index l.bytes)) l.end l.out
