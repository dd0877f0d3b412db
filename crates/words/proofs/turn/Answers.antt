-- `words::turn` meets its contract. Assumes nothing.
use Rattle.words.proofs.Flipped.{high_small, turned_high}
use Rattle.words.proofs.turn.Goals as goal

pub flip_high-requires : goal.flip_high-requires
flip_high-requires c = (high_small _ _ _ c.if-x-lt6.false c.requires.0 c.pow2.ensures, c.requires.2, c.requires.3)

pub returns-else-x-lt6 : goal.returns-else-x-lt6
returns-else-x-lt6 c =
    turned_high _ _ _ c.args.f.now _ c.if-x-lt6.false c.requires.0 c.pow2.ensures c.flip_high.ensures
