-- `polynomials::look_up_word` meets its contract. The loop's invariant: once the two lowest letters and those from j on have chosen,
-- word p of t holds the value at the point with the letters of p between them.
-- Assumes nothing.
use mathlib.Core.Path.{◌≡◌}
use Prim.Native.Nat.{ℕ, ◌≤◌, ◌-◌, ◌+◌, ◌*◌, ◌<◌, ◌^◌}
use lib.ListN.{length, get_or}
use Rattle.ring.specs.Letters.{bit}
use Rattle.polynomials.specs.Inner.LookUp.{place_of}
use Rattle.polynomials.proofs.LookUp.{level}
use Rattle.polynomials.proofs.look_up_word.Given as goal

abbrev pub invariant-loop-j : goal.invariant-loop-j
invariant-loop-j l = (l.j ≤ 6) × (2 ≤ l.j) × (length l.t ≡ 16)
    × ((p : ℕ) → p < 2 ^ (l.j - 2)
    → get_or l.t p 0 ≡ level l.word (λ m i. bit (get_or l.parts (m * l.k + l.w) 0) i) (place_of (get_or l.parts l.w 0) (get_or l.parts (l.k + l.w) 0)) l.j p)
