-- The front, and the end behind it. Assumes nothing.
use Rattle.writer.specs.Inner.Headed.{heads_of}
use Rattle.writer.proofs.Parts.{front_room, end_room, whole_put}
use Rattle.writer.proofs.compose.Goals as goal

pub put_front-listed-requires : goal.put_front-listed-requires
put_front-listed-requires c = let h = c.args.heads.now in
    (c.requires.0, front_room h.route _ _ (heads_of h) c.args.found c.args.codes.now c.requires.2)

pub put_end-requires : goal.put_end-requires
put_end-requires c = let h = c.args.heads.now in
    end_room _ _ _ (heads_of h) c.args.found c.args.codes.now c.put_front-listed.ensures c.requires.2

pub returns : goal.returns
returns c = let h = c.args.heads.now in
    whole_put _ _ _ (heads_of h) c.args.found c.args.codes.now c.put_front-listed.ensures c.put_end.ensures
