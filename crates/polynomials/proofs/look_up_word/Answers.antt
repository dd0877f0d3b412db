-- `polynomials::look_up_word` meets its contract. The loop's invariant: once the two lowest letters and those from j on have chosen,
-- word p of t holds the value at the point with the letters of p between them.
-- Assumes nothing.
use mathlib.Core.Path.{refl, ap, ◌∙◌}
use Prim.Native.Nat.{ℕ, ◌-◌, ◌+◌, ◌*◌, ◌<◌, ◌^◌}
use native.Mathlib.Omega.{arith}
use lib.ListN.{length, get_or}
use Rattle.ring.specs.Letters.{bit}
use Rattle.ring.proofs.Lists.{length-listed}
use Rattle.polynomials.specs.Inner.LookUp.{place_of}
use Rattle.polynomials.proofs.LookUp.{level_start, level_next, level_end, half_small, first_parts}
use Rattle.polynomials.proofs.look_up_word.Goals as goal

pub loop-j-init : goal.loop-j-init
loop-j-init c = (
  omega arith,
  omega arith,
  ap length c.take_fours.ensures
      ∙ length-listed 16 _,
  level_start _ _ _ _ _ _ _ refl c.each_four.ensures
      c.take_fours.ensures,
)

pub choose-requires : goal.choose-requires
choose-requires c = omega (
  arith,
  half_small _ _ c.loop-j-test.true c.loop-j.invariant.0
      c.pow2.ensures,
  c.loop-j.invariant.2,
)

pub loop-j-preserved : goal.loop-j-preserved
loop-j-preserved c = let parts =
    c.args.parts.now in
    let k =
    c.args.k in
    let w =
    c.args.w in
    let b : ℕ = (c.loop-j.j - 1) * k + w in
    let small : get_or parts b 0 < 2 ^ 64 = omega (arith, c.type_inv.parts b) in (
      omega arith,
      omega (arith, c.loop-j-test.true),
      omega
          (arith, c.choose.auto.t, c.loop-j.invariant.2),
      level_next _ _ _ _ (λ m i. bit (get_or parts (m * k + w) 0) i) (place_of (get_or parts w 0) (get_or parts (k + w) 0))
          c.loop-j.t _
          c.loop-j-test.true
          c.loop-j.invariant.0 c.pow2.ensures
          (record { small = small; bits = λ i _. refl }) c.loop-j.invariant.3
          c.choose.ensures,
    )

pub returns : goal.returns
returns c = let parts =
    c.args.parts.now in
    let k =
    c.args.k in
    let w =
    c.args.w in
    let ends = first_parts parts k w in
    level_end _ _ (get_or parts w 0) (get_or parts (k + w) 0) (λ m i. bit (get_or parts (m * k + w) 0) i) c.loop-j.t
    (omega (arith, c.loop-j-test.false, c.loop-j.invariant.1)) ends.0 ends.1 c.loop-j.invariant.3
