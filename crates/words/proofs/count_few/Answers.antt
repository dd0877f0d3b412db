-- `words::count_few` meets its contract. Assumes nothing.
use mathlib.Core.Path.{◌≡◌, refl, ap, ◌∙◌}
use Prim.Native.Nat.{ℕ, ◌*◌, ◌%◌, ◌^◌, ◌≤◌, ◌<◌}
use native.Mathlib.Nat.{one-mul}
use native.Mathlib.Omega.{arith}
use lib.Dec.{lit<}
use lib.Pow.{pow_pos, pow_mono, shl_exact}
use Rattle.ring.specs.Letters.{bit}
use Rattle.ring.specs.Polynomial.{count}
use Rattle.words.proofs.Counts.{ones_front}
use Rattle.words.proofs.count_few.Goals as goal

end : (s : ℕ) → s < 64 → 1 * 2 ^ s % 2 ^ 64 ≡ 2 ^ s
end s l = shl_exact 1 s 64 (lit< tt) (omega arith) ∙ one-mul (2 ^ s)

pub overflow_shl-end : goal.overflow_shl-end
overflow_shl-end c = let few : (c.pow2.result ≡ 2 ^ c.args.n) × (c.pow2.result < 64) = let small : c.args.n ≤ 5 = omega arith in
    let bound : 2 ^ c.args.n ≤ 2 ^ 5 = pow_mono small in
    (c.pow2.ensures, omega (arith, c.pow2.ensures)) in
    (few).1

pub overflow_sub-end : goal.overflow_sub-end
overflow_sub-end c = let few : (c.pow2.result ≡ 2 ^ c.args.n) × (c.pow2.result < 64) = let small : c.args.n ≤ 5 = omega arith in
    let bound : 2 ^ c.args.n ≤ 2 ^ 5 = pow_mono small in
    (c.pow2.ensures, omega (arith, c.pow2.ensures)) in
    omega (arith, end c.pow2.result (few).1, pow_pos c.pow2.result)

pub returns : goal.returns
returns c = let few : (c.pow2.result ≡ 2 ^ c.args.n) × (c.pow2.result < 64) = let small : c.args.n ≤ 5 = omega arith in
    let bound : 2 ^ c.args.n ≤ 2 ^ 5 = pow_mono small in
    (c.pow2.ensures, omega (arith, c.pow2.ensures)) in
    ones_front c.args.word _ c.pow2.result _ _ (end _ (few).1) (few).1 refl c.ones.ensures.0
    ∙ ap (λ (k : ℕ). count k (bit c.args.word)) (few).0
