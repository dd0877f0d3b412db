-- The invariant: the lines of the numbers passed are put. Assumes nothing.
use Rattle.printing.proofs.Records.{Printing}
use Rattle.printing.proofs.put_monomials.Given as goal

abbrev pub invariant-loop-code : goal.invariant-loop-code
invariant-loop-code l = Printing l.codes l.initial.out l.from l.code-index l.at l.out
