use lib.Seq.{length-take-le}
use mathlib.Core.Path.{sym, ap, ◌∙◌}
use lib.ListN.{length}
use Rattle.order.proofs.Order.{length-order}
use Rattle.order.proofs.copy_order.Goals as goal

pub copy_from_slice-requires : goal.copy_from_slice-requires
copy_from_slice-requires c = length-take-le _ _ c.requires.1 ∙ sym (ap length c.requires.0 ∙ length-order 10)
