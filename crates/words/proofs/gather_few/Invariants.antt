-- `words::gather_few` meets its contract. The invariant: the rows from row j on are gathered. Assumes nothing.
use Rattle.std.proofs.Common.{◌≡◌, ◌-◌, ◌/◌, length}
use Rattle.ring.specs.Table.{present}
use Rattle.words.proofs.Crossing.{rows_from}
use Rattle.words.proofs.gather_few.Given as goal

abbrev pub invariant-loop-j : goal.invariant-loop-j
invariant-loop-j l = l.word ≡ rows_from (present l.t) l.j (length l.t / 8 - l.j)
