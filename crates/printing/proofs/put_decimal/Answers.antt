-- The digits that `itoa` writes are `decimal`. Assumes nothing.
use mathlib.Core.Path.{ap, ◌∙◌}
use native.Mathlib.Omega.{arith}
use lib.ListN.{length}
use Rattle.tables.proofs.Put.{put_same}
use Rattle.printing.proofs.Numbers.{std_digits}
use Rattle.printing.proofs.put_decimal.Goals as goal

pub returns : goal.returns
returns c = record {
  put = put_same c.put.ensures (c.as_bytes.ensures.value ∙ c.format-text.ensures.text ∙ std_digits _ c.ranges.n.fits);
  upper_bound = omega (arith, c.put.ensures.place, ap length c.as_bytes.ensures.value, c.format-text.ensures.fits);
}
