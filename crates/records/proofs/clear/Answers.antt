-- Each byte is 0. Assumes nothing.
use mathlib.Core.Path.{refl}
use Rattle.records.proofs.Filling.{all_zero}
use Rattle.records.proofs.clear.Goals as goal

pub returns : goal.returns
returns c = all_zero _ _ c.fill.ensures.len (λ k h. c.fill.ensures.clones k 0 h refl)
