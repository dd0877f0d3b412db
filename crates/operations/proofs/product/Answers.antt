-- `operations::product` meets its contract: refused with nothing changed, or the product of the parts that count.
-- Assumes nothing.
use mathlib.Core.Path.{◌∙◌}
use Rattle.std.proofs.lemmas.Result.{err_from_is_err_and}
use Rattle.tables.proofs.Answered.{call_no, call_done_giving}
use Rattle.operations.proofs.Calls.{pair_plain, counted_whole, product_whole, length-product}
use Rattle.operations.proofs.product.Goals as goal

pub returns-in_err-letters : goal.returns-in_err-letters
returns-in_err-letters c =
    let no = err_from_is_err_and c.from_residual.result c.from_residual.ensures.1 in
    rw (no.1, no.2) (call_no _ _ _ _ (pair_plain _ _ _ _ _) c.in_err-letters.ensures)

pub returns : goal.returns
returns c =
    let passed = c.in_ok-letters.ensures in
    let made = c.multiply.ensures.0 ∙ product_whole _ _ _ passed.letters _ _ in
    call_done_giving _ _ _ _ _ _ _ (counted_whole _ _ _ passed.letters _ _ _ made c.multiply.ensures.1) passed.none_no made (length-product _ _ _ passed.letters _ _)
