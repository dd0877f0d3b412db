-- `layodegi::layodegi_value` meets its contract: the call's answer as a code, its value a wider number.
-- Assumes nothing.
use mathlib.Core.Path.{◌≡◌, refl, ap, ◌∙◌}
use mathlib.Core.List.{List, []}
use Prim.Native.Nat.{ℕ}
use Rattle.std.specs.Prelude.{Result, Ok, Err, MatchResult, IsOkAnd}
use Rattle.tables.specs.declared.Question.{Question}
use Rattle.tables.specs.Answered.{answered}
use Rattle.calls.specs.Counted.{value_said}
use Rattle.layodegi.specs.Codes.{code}
use Rattle.layodegi.proofs.Coded.{coded-call}
use Rattle.layodegi.proofs.layodegi_value.Goals as goal

-- the same value
widened : (r s : Result ℕ Question) → MatchResult r (λ v. IsOkAnd s (λ w. w ≡ v)) (λ q. s ≡ Err q) → value_said s ≡ value_said r
widened (Ok v) (Ok w) m = rw m
widened (Ok v) (Err q) m = absurd m
widened (Err q) s m = rw m

pub returns : goal.returns
returns c =
    let same : value_said c.map.result ≡ value_said c.value.result = widened c.value.result c.map.result c.map.ensures.cases in
    coded-call code (c.value_code.ensures ∙ ap code same) c.value.ensures
