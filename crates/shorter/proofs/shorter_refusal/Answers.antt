-- `shorter::shorter_refusal` meets its contract: the number of the question, or 0.
-- Assumes nothing.
use mathlib.Core.Path.{sym, ◌∙◌}
use Rattle.calls.specs.Shorter.{shorter_refusal}
use Rattle.shorter.proofs.shorter_refusal.Goals as goal

pub returns-in-Ok : goal.returns-in-Ok
unfolding shorter_refusal
returns-in-Ok c = sym c.in-Ok.ensures.0.none_no

pub returns-in-Err : goal.returns-in-Err
unfolding shorter_refusal
returns-in-Err c = c.number.ensures ∙ c.in-Err.ensures
