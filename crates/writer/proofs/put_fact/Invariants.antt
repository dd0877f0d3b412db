-- The invariant: the records of the masks so far are put. Assumes nothing.
use Rattle.writer.proofs.Parts.{Facts}
use Rattle.writer.proofs.put_fact.Given as goal

abbrev pub invariant-loop-m : goal.invariant-loop-m
invariant-loop-m l = Facts l.heads.ordered.letters.n l.heads.fact.now l.initial.out l.from l.m-index l.at l.out
