-- `words::word_values` meets its contract: the steps that are left of the word so far are those of the word as it was.
-- Assumes nothing.
use Rattle.std.proofs.Common.{◌≡◌, ◌<◌, ◌^◌}
use Rattle.ring.specs.Letters.{bit}
use Rattle.words.specs.Inner.Words.{word_of, stepped_below}
use Rattle.words.proofs.word_values.Given as goal

abbrev pub invariant-loop-j : goal.invariant-loop-j
invariant-loop-j l = (l.v < 2 ^ 64) × (word_of (stepped_below l.j (bit l.v)) ≡ word_of (stepped_below 6 (bit l.word)))
