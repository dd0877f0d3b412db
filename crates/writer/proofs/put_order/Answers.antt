-- Two parts. Assumes nothing.
use Rattle.tables.proofs.Put.{put_both}
use Rattle.writer.proofs.put_order.Goals as goal

pub returns : goal.returns
returns c = put_both c.put-kind.ensures c.put.ensures
