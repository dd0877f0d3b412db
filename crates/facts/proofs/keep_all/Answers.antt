-- `facts::keep_all` meets its contract. Assumes nothing.
use mathlib.Core.Path.{refl}
use mathlib.Core.Bool.{true}
use Rattle.words.proofs.Holds.{words_by, constant_holds}
use Rattle.facts.proofs.keep_all.Goals as goal

pub returns : goal.returns
returns c = words_by (λ p. true) _ c.fill.new.self c.fill.ensures.len (λ w l. constant_holds true _ (c.fill.ensures.clones w 0 l refl))
