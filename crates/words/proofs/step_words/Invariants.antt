-- `words::step_words` meets its contract. Assumes nothing.
use Rattle.std.proofs.Common.{◌≡◌, ◌*◌, length}
use Rattle.tables.proofs.Filled.{filled}
use Rattle.words.proofs.Steps.{step_of}
use Rattle.words.proofs.step_words.Given as goal

abbrev pub invariant-loop-b : goal.invariant-loop-b
invariant-loop-b l = (l.t ≡ filled (l.b * l.size) (step_of l.j l.initial.t) l.initial.t) × (length l.t ≡ length l.initial.t)
