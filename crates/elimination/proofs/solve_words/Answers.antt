-- `elimination::solve_words` meets its contract: an order that lists each unknown once has room in the scratch words.
-- Assumes nothing.
use mathlib.Core.Path.{sym, ap, ◌∙◌}
use Prim.Native.Nat.{ℕ, ◌*◌}
use native.Mathlib.Omega.{arith}
use lib.ListN.{length}
use lib.Seq.{length-take-le}
use Rattle.words.proofs.Letters.{count_small}
use Rattle.solution.proofs.Order.{each_order}
use Rattle.elimination.proofs.Lengths.{each_once, slots_fit}
use Rattle.elimination.proofs.Stages.{length_slots}
use Rattle.elimination.proofs.States.{same_slots, answers_arranged}
use Rattle.elimination.proofs.solve_words.Goals as goal

pub solve_word-requires : goal.solve_word-requires
solve_word-requires c = let asked = c.requires in
    (c.if-letters-le6.true, each_order _ _ asked.0, each_once _ _ asked.0, asked.1, asked.2)

pub returns-then-letters-le6 : goal.returns-then-letters-le6
returns-then-letters-le6 c = let solved = c.solve_word.ensures in record { value = solved.value; answers_after = λ h. solved.answers_after }

pub overflow_mul-all : goal.overflow_mul-all
overflow_mul-all c =
    omega (arith, slots_fit _ _ c.args.order.now c.requires.0 c.args.letters.unknowns_fit (count_small _ _ c.word_count.ensures c.args.letters.n_fits))

pub slice_bounds-room-end : goal.slice_bounds-room-end
slice_bounds-room-end c = slots_fit _ _ c.args.order.now c.requires.0 c.args.letters.unknowns_fit (count_small _ _ c.word_count.ensures c.args.letters.n_fits)

pub slice_bounds-slots-end : goal.slice_bounds-slots-end
slice_bounds-slots-end c =
    sym (length-take-le _ _ (slots_fit _ _ c.args.order.now c.requires.0 c.args.letters.unknowns_fit (count_small _ _ c.word_count.ensures c.args.letters.n_fits)))

pub solve_slots-state-requires : goal.solve_slots-state-requires
solve_slots-state-requires c = (
  each_order _ _ c.requires.0,
  each_once _ _ c.requires.0,
  c.requires.1,
  length-take-le _ _ (slots_fit _ _ c.args.order.now c.requires.0 c.args.letters.unknowns_fit (count_small _ _ c.word_count.ensures c.args.letters.n_fits))
      ∙ ap (λ (x : ℕ). length c.args.order.now * x) c.word_count.ensures,
)

pub returns-then-state-pow2 : goal.returns-then-state-pow2
returns-then-state-pow2 c = record { value = c.solve_slots-state.ensures.value; answers_after = λ h. absurd (omega (arith, h, c.if-state-pow2.true, c.pow2.ensures)) }

pub arrange-requires : goal.arrange-requires
arrange-requires c =
    let e = c.solve_slots-state.ensures.slots_after (omega (arith, c.if-state-pow2.false, c.pow2.ensures)) in (
      omega (arith, c.further.ensures, c.args.letters.n_fits),
      each_order _ _ c.requires.0,
      same_slots _ _ _ _ (ap length e ∙ length_slots _ _ c.args.order.now) c.further.ensures,
      same_slots _ _ _ _ c.requires.2 c.further.ensures,
    )

pub returns : goal.returns
returns c = record {
  value = c.solve_slots-state.ensures.value;
  answers_after = λ h. answers_arranged _ _ _ c.args.f.now c.args.order.now _ _ (each_order _ _ c.requires.0) (each_once _ _ c.requires.0)
      c.further.ensures (c.solve_slots-state.ensures.slots_after h) c.arrange.ensures;
}
