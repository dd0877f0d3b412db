-- `elimination::solve_slots` meets its contract. Assumes nothing.
use mathlib.Core.Path.{ap, ◌∙◌}
use Prim.Native.Nat.{ℕ, ◌^◌}
use native.Mathlib.Omega.{arith}
use Rattle.words.proofs.Words.{size_words}
use Rattle.elimination.proofs.States.{order-letters, same_power, same_slots, own_stages, state_remains, slots_answered}
use Rattle.elimination.proofs.States.{remains_ignores}
use Rattle.elimination.proofs.solve_slots.Goals as goal

pub keep_stages-requires : goal.keep_stages-requires
keep_stages-requires c =
    let l = c.args.letters in (
      omega (arith, c.further-c.ensures, l.n_fits),
      order-letters l.unknowns l.givens _ c.args.order.now c.requires.0 (rw l.n_is at c.further-c.ensures),
      same_power _ _ _ c.requires.2 c.further-c.ensures,
      same_slots _ _ _ _ c.requires.3 c.further-c.ensures,
    )

pub first_state-state-requires : goal.first_state-state-requires
first_state-state-requires c =
    let l = c.args.letters in (
      size_words _ _ _ c.keep_stages.ensures.f_after ∙ ap (λ (x : ℕ). 2 ^ x) c.further-c.ensures,
      rw l.n_is (remains_ignores l.unknowns l.givens _ c.args.f.now _ c.args.order.now c.requires.0 (rw l.n_is at c.further-c.ensures)
          c.keep_stages.ensures.f_after),
    )

pub returns-then-state-pow2 : goal.returns-then-state-pow2
returns-then-state-pow2 c =
    let l = c.args.letters in record {
      value = state_remains l.unknowns l.givens _ _ c.args.f.now _ c.args.order.now (rw l.n_is at c.further-c.ensures)
          c.keep_stages.ensures.f_after c.first_state-state.ensures;
      slots_after = λ h. absurd (omega (arith, h, c.if-state-pow2.true, c.pow2.ensures));
    }

pub answer_all-requires : goal.answer_all-requires
answer_all-requires c =
    let l = c.args.letters in
    let b = order-letters l.unknowns l.givens _ c.args.order.now c.requires.0 (rw l.n_is at c.further-c.ensures) in (
      omega (arith, c.further-c.ensures, l.n_fits),
      b,
      c.requires.1,
      own_stages _ c.args.f.now c.args.order.now _ b c.keep_stages.ensures.stages_after,
    )

pub returns : goal.returns
returns c =
    let l = c.args.letters in
    let b = order-letters l.unknowns l.givens _ c.args.order.now c.requires.0 (rw l.n_is at c.further-c.ensures) in record {
      value = state_remains l.unknowns l.givens _ _ c.args.f.now _ c.args.order.now (rw l.n_is at c.further-c.ensures)
          c.keep_stages.ensures.f_after c.first_state-state.ensures;
      slots_after = λ h. rw l.n_is (slots_answered l.unknowns l.givens _ c.args.f.now c.args.order.now _ _
          (rw l.n_is at c.further-c.ensures) b c.keep_stages.ensures.stages_after c.answer_all.ensures);
    }
