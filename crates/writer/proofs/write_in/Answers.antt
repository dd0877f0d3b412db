-- What was listed is the entry. Assumes nothing.
use Rattle.writer.proofs.Entries.{lists_sized, lists_out}
use Rattle.writer.proofs.write_in.Goals as goal

pub hand_out-requires : goal.hand_out-requires
hand_out-requires g c =
    lists_sized c.args.route c.args.ordered c.args.fact.now _ c.requires.0 (c.list_condition-found.ensures.by_index _ c.requires.1)

pub returns : goal.returns
returns g c =
    lists_out c.args.route c.args.ordered c.args.fact.now _ c.requires.0 (c.list_condition-found.ensures.by_index _ c.requires.1) _ c.hand_out.ensures
