-- `elimination::first_state` meets its contract: the points of the states before that of the first point have the value 0.
-- Assumes nothing.
use mathlib.Core.Path.{refl}
use Rattle.words.proofs.Letters.{count_small}
use Rattle.elimination.proofs.States.{found_state, no_state}
use Rattle.elimination.proofs.first_state.Goals as goal

pub first_one-requires : goal.first_one-requires
first_one-requires c = count_small _ _ c.requires.0 c.args.letters.n_fits

pub returns-then-state-end : goal.returns-then-state-end
returns-then-state-end c =
    let l = c.args.letters in
    found_state l.unknowns l.givens _ _ _ c.args.f.now (rw l.n_is at c.requires.1) (rw l.n_is at c.requires.0)
    c.first_one.ensures refl c.pow2-end.ensures c.if-state-end.true

pub returns : goal.returns
returns c =
    let l = c.args.letters in
    no_state l.unknowns l.givens _ _ _ c.args.f.now c.first_one.ensures refl c.pow2-end.ensures
    c.if-state-end.false
