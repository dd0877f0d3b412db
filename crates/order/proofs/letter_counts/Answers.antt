-- `order::letter_counts` meets its contract: the table in the code is the list, computed, of the letters of the masks below 32.
-- Assumes nothing.
use mathlib.Core.Path.{refl}
use Rattle.ring.specs.Letters.{bit}
use Rattle.ring.specs.Lists.{listed}
use Rattle.ring.specs.Polynomial.{count}
use Rattle.order.specs.Order.{letters}
use Rattle.order.proofs.letter_counts.Goals as goal

pub returns : goal.returns
unfolding listed letters count bit
returns c = refl
