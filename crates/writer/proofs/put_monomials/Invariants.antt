-- The invariant: the records of the numbers so far are put. Assumes nothing.
use Rattle.writer.proofs.Parts.{Writing}
use Rattle.writer.proofs.put_monomials.Given as goal

abbrev pub invariant-loop-code : goal.invariant-loop-code
invariant-loop-code l = Writing l.codes l.initial.out l.from l.code-index l.at l.out
