-- A call as seen through a code for its answer.
-- Assumes nothing.
use mathlib.Core.Path.{◌≡◌, ap, ◌∙◌}
use mathlib.Core.List.{List}
use Prim.Native.Nat.{ℕ}
use Rattle.tables.specs.Answered.{Reply, Answered, answered, coded}

-- an exported function returns the code of what its call gives, and leaves the buffers as the call does
pub coded-call : (code : Reply → ℕ) {c : ℕ} {gives : Reply} {lent : List (List ℕ)} {done : Answered Reply} → c ≡ code gives
    → answered gives lent ≡ done → answered c lent ≡ coded code done
coded-call code {lent = lent} e called = ap (λ (v : ℕ). answered v lent) e ∙ ap (coded code) called
