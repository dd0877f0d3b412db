-- `tables::Letters::new` meets its contract: question 1 bounds both numbers and their sum.
-- Assumes nothing.
use mathlib.Core.Path.{◌≡◌, refl, sym, ◌∙◌}
use mathlib.Core.Bool.{true}
use native.Mathlib.Omega.{arith}
use Rattle.tables.specs.Questions.{letters_fit}
use Rattle.tables.proofs.Questions.{letters_small, unknowns_small}
use Rattle.tables.proofs.Letters.new.Goals as goal

pub overflow_add-n : goal.overflow_add-n
overflow_add-n c = omega (arith, letters_small c.args.u c.args.g (sym c.letters_fit.ensures ∙ c.in_ok-require.ensures))

pub pow2-requires : goal.pow2-requires
pow2-requires c = letters_small _ _ (sym c.letters_fit.ensures ∙ c.in_ok-require.ensures)

pub invariant_of-result : goal.invariant_of-result
invariant_of-result c =
    let yes : letters_fit c.args.u c.args.g ≡ true = sym c.letters_fit.ensures ∙ c.in_ok-require.ensures in
    record { unknowns_fit = unknowns_small _ _ yes; n_is = refl; n_fits = letters_small _ _ yes; table_len_is = c.pow2.ensures }
