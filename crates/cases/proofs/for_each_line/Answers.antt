-- `cases::for_each_line` meets its contract: `try_for_each` calls at each part that `split` gives.
-- Assumes nothing.
use Rattle.std.proofs.Common.{rules, ◌==◌, take, refl}
use Rattle.std.proofs.lemmas.Iterator.Splits.{YieldsList-from_slice_split}
use Rattle.std.specs.Result.{result_from_control_flow}
use Rattle.cases.proofs.Lines.{runs_each_line}
use Rattle.cases.proofs.for_each_line.Goals as goal

pub returns : goal.returns
returns g c =
    runs_each_line g.F.FnMut result_from_control_flow refl _ (take c.in_ok-n.n c.read_full.new.buffer) (search rules)
    (YieldsList-from_slice_split _ (λ byte. byte == 10) _ c.split.ensures.rest c.split.ensures.done c.split.ensures.closure (λ x b q k. search rules))
    _ _ _ c.try_for_each.ensures.ran
