-- `words::unpack_all` meets its contract. Assumes nothing.
use mathlib.Core.Path.{◌≡◌, refl, sym, ap, ap₂, ◌∙◌}
use Prim.Native.Nat.{ℕ, ◌+◌, ◌-◌, ◌*◌}
use native.Mathlib.Omega.{arith}
use lib.ListN.{length, take, drop}
use Rattle.ring.specs.Polynomial.{count}
use Rattle.tables.proofs.Filled.{filled-start, filled_whole}
use Rattle.words.specs.Inner.Words.{bit_at, crossed}
use Rattle.words.proofs.Parts.{parts_more, part_length_lem}
use Rattle.words.proofs.Crossing.{word_listed}
use Rattle.words.proofs.Counts.{count-start, count_word}
use Rattle.words.proofs.unpack_all.Goals as goal

pub loop-w-init : goal.loop-w-init
loop-w-init c = (filled-start _ _ _ refl, count-start (bit_at c.args.words.now) 0 refl, omega arith)

pub loop-w-preserved : goal.loop-w-preserved
loop-w-preserved c =
    let w = c.loop-w.w in
    let words = c.args.words.now in
    let part : length (take (w * 64 + 64 - w * 64) (drop (w * 64) c.loop-w.out)) ≡ 64 = part_length_lem w 64 c.loop-w.out
    (omega (arith, c.requires, c.loop-w-test.true, c.loop-w.auto.out)) in (
      parts_more w 64 _ _ _ _ c.loop-w.invariant.0 (word_listed words w _ _ _ refl part c.unpack_word.ensures),
      ap₂ ◌+◌ c.loop-w.invariant.1 c.ones.ensures.0 ∙ sym (count_word words w),
      omega (arith, c.loop-w.invariant.2, c.ones.ensures.1),
    )

pub returns : goal.returns
returns c =
    let words = c.args.words.now in
    let all : c.loop-w.w ≡ length words = omega (arith, c.loop-w.auto.w-end, c.loop-w-test.false) in (
      filled_whole (λ p. bit_at words (crossed p)) c.args.out.now _ _ c.loop-w.invariant.0 (omega (arith, c.requires, all)) (omega (arith, c.requires, all)),
      c.loop-w.invariant.1 ∙ ap (λ (k : ℕ). count (64 * k) (bit_at words)) all,
    )
