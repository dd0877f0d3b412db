-- `words::step_word` meets its contract. Assumes nothing.
use mathlib.Core.Path.{ap, ◌∙◌}
use Prim.Native.Nat.{ℕ, ◌*◌, ◌%◌, ◌^◌, ◌≤◌, ◌<◌}
use native.Mathlib.Omega.{arith}
use lib.Bits.{bit_and, bit_xor}
use lib.Pow.{pow_mono}
use Rattle.words.proofs.Transform.{step_word_lem}
use Rattle.words.proofs.step_word.Goals as goal

pub overflow_shl-result : goal.overflow_shl-result
overflow_shl-result c = let h : c.args.j ≤ 5 = omega arith in
    let b : 2 ^ c.args.j ≤ 2 ^ 5 = pow_mono h in
    omega (arith, c.pow2.ensures)

pub returns : goal.returns
returns c = let v = c.args.word in
    let l : v < 2 ^ 64 = omega (arith, c.ranges.word) in
    ap (λ (m : ℕ). bit_xor v (bit_and (v * 2 ^ c.pow2.result % 2 ^ 64) m)) c.low_letter.ensures
    ∙ step_word_lem _ _ _ c.requires c.pow2.ensures l
