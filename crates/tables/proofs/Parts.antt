-- Tables that stand one after another: the one at a place, and that the code's sums and products of their sizes fit.
-- Assumes nothing.
use mathlib.Core.Path.{◌≡◌, ap, ◌∙◌}
use mathlib.Core.List.{List}
use Prim.Native.Nat.{ℕ, ◌*◌, ◌^◌, ◌≤◌, ◌<◌}
use native.Mathlib.Nat.{mul-le-mul}
use lib.Dec.{eqb}
use lib.Pow.{pow_mono}
use lib.ListN.{take, drop}
use lib.Seq.{get_or-take, get_or-drop}
use Rattle.ring.specs.Table.{present, held}

-- table j of t
pub held_part : (n j : ℕ) (t : List ℕ) (m : ℕ) → m < 2 ^ n → present (take (2 ^ n) (drop (j * 2 ^ n) t)) m ≡ held n t j m
unfolding held present
held_part n j t m h = ap (λ (x : ℕ). eqb x 1) (get_or-take (2 ^ n) (drop (j * 2 ^ n) t) m 0 h ∙ get_or-drop (j * 2 ^ n) t m 0)

-- six tables, as many as there are unknowns, take no more bytes than this
pub answers_fit : {count n k : ℕ} → count ≤ 6 → k ≡ 2 ^ n → n ≤ 10 → count * k ≤ 6144
answers_fit {count} {n} {k} hc ek hn =
    let b : 2 ^ n ≤ 1024 = pow_mono hn in
    let c : k ≤ 1024 = rw ek b in
    mul-le-mul hc c
