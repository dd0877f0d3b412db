-- `elimination::keep_stage` meets its contract. Assumes nothing.
use Rattle.elimination.proofs.Stages.{both_copied}
use Rattle.elimination.proofs.keep_stage.Goals as goal

pub returns : goal.returns
returns c = record { f_after = both_copied _ _ _ _ _ c.copy.ensures c.both_cases.ensures; stage_after = c.copy.ensures }
