-- The loop's invariant: the bytes kept are those of the bytes read that are no spaces. Assumes nothing.
use Rattle.parser.proofs.Decoding.{Unspacing}
use Rattle.parser.proofs.drop_spaces.Given as goal

abbrev pub invariant-loop-byte : goal.invariant-loop-byte
invariant-loop-byte l = Unspacing l.text l.initial.out l.out l.n l.byte-index
