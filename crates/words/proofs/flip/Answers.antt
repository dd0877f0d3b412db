-- `words::flip` meets its contract: the higher letters at once, and the others one by one.
-- Assumes nothing.
use mathlib.Core.Path.{refl}
use borrow.Author.Rules.{rules}
use Rattle.words.proofs.Words.{size_words}
use Rattle.words.proofs.Holds.{words_sized}
use Rattle.words.proofs.Flipped.{mask_high, flip_start, flip_more, flip_skip, flip_end}
use Rattle.words.proofs.flip.Goals as goal
use Rattle.words.proofs.flip.Goals.{then-s-x-eq1, else-s-x-eq1}

pub flip_high-requires : goal.flip_high-requires
flip_high-requires c = (mask_high _ _ c.requires.0, c.requires.1, c.requires.2)

pub loop-x-init : goal.loop-x-init
loop-x-init c = (search rules, flip_start _ _ _ _ _ refl c.flip_high.ensures)

pub loop-x-preserved : goal.loop-x-preserved
loop-x-preserved c = let e = c.loop-x.invariant.1 in (
  search rules,
  elim c.if-s-x-eq1.branch [
    | then-s-x-eq1 w ↦ rw w.out-is (flip_more _ _ c.args.f.now _ _ _ c.loop-x-test.true w.if-s-x-eq1.true e
        (words_sized _ _ _ _ w.turn_in.ensures (size_words _ _ _ e)))
    | else-s-x-eq1 w ↦ rw w.out-is (flip_skip _ _ c.args.f.now _ _ w.if-s-x-eq1.false e)
  ],
)

pub returns : goal.returns
returns c = flip_end _ _ _ _ _ c.loop-x-test.false c.loop-x.invariant.0 c.loop-x.invariant.1
