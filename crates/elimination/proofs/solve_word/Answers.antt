-- `elimination::solve_word` meets its contract. Assumes nothing.
use mathlib.Core.Path.{refl}
use native.Mathlib.Omega.{arith}
use Rattle.words.proofs.Words.{size_words}
use Rattle.elimination.proofs.States.{state_remains, remains_ignores}
use Rattle.elimination.proofs.OneWord.{one, a_word_each, in_order, remains_words, answered_words_lem}
use Rattle.elimination.proofs.solve_word.Goals as goal

pub bounds-f-0 : goal.bounds-f-0
bounds-f-0 c =
    let l = c.args.letters in
    omega (arith, rw l.n_is at c.requires.3, one l.unknowns l.givens (rw l.n_is at c.requires.0))

pub answer_word-requires : goal.answer_word-requires
answer_word-requires c =
    let l = c.args.letters in
    let size = a_word_each l.unknowns l.givens _ (rw l.n_is at c.requires.0) (rw l.n_is at c.requires.4) in (
      λ x h. omega (arith, size, in_order l.unknowns c.args.order.now c.requires.1 x h),
      omega (arith, size, l.unknowns_fit),
      c.requires.2,
    )

pub bounds-f-0-2 : goal.bounds-f-0-2
bounds-f-0-2 c =
    let l = c.args.letters in
    omega (arith, rw l.n_is at c.requires.3, one l.unknowns l.givens (rw l.n_is at c.requires.0))

pub first_state-requires : goal.first_state-requires
first_state-requires c =
    let l = c.args.letters in
    let f = c.args.f.now in
    let order = c.args.order.now in
    let e =
    remains_words l.unknowns l.givens (rw l.n_is at c.requires.0) f order c.requires.1 _ (rw l.n_is at c.requires.3)
    c.answer_word.ensures.value in (
      rw l.n_is (size_words _ _ _ e),
      rw l.n_is (remains_ignores l.unknowns l.givens _ f _ order c.requires.1 refl e),
    )

pub returns : goal.returns
returns c =
    let l = c.args.letters in
    let answered = c.answer_word.ensures in
    let f = c.args.f.now in
    let order = c.args.order.now in
    let few = rw l.n_is at c.requires.0 in
    let e = remains_words l.unknowns l.givens few f order c.requires.1 _ (rw l.n_is at c.requires.3) answered.value in record {
      value = state_remains l.unknowns l.givens _ _ f _ order refl e c.first_state.ensures;
      answers_after = rw l.n_is (answered_words_lem l.unknowns l.givens few f order c.requires.1 _ _ c.requires.2
          (rw l.n_is at c.requires.4) answered.answers_after);
    }
