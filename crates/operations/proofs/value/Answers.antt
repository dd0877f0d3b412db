-- `operations::value` meets its contract: refused, or the value of the part that counts at the point of the state and the choice.
-- Assumes nothing.
use mathlib.Core.Path.{refl, ap, ◌∙◌}
use mathlib.Core.List.{[], ◌∷◌}
use Rattle.tables.specs.Answered.{answered, accepted}
use Rattle.std.proofs.lemmas.Result.{err_from_is_err_and}
use Rattle.tables.proofs.Answered.{call_no, call_done_none}
use Rattle.operations.proofs.Calls.{value_plain, value_whole}
use Rattle.operations.proofs.value.Goals as goal

pub returns-in_err-letters : goal.returns-in_err-letters
returns-in_err-letters c =
    let no = err_from_is_err_and c.from_residual.result c.from_residual.ensures.1 in
    rw (no.1, no.2) (call_no _ _ _ _ (value_plain _ _ _ _ _) c.in_err-letters.ensures)

pub returns : goal.returns
returns c =
    let passed = c.in_ok-letters.ensures in
    ap (λ v. answered (accepted (v ∷ [])) []) (c.value_of.ensures ∙ value_whole _ _ _ passed.letters _ _ _ _ _ c.pow2.ensures refl)
    ∙ call_done_none _ _ passed.none_no
