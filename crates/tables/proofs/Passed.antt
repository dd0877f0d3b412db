-- The number of letters that were asked for, and the length of a table over them.
-- Assumes nothing.
use mathlib.Core.Path.{◌≡◌, ap, ap₂, ◌∙◌}
use Prim.Native.Nat.{ℕ, ◌+◌, ◌^◌}
use Rattle.tables.specs.declared.Letters.{Letters}
use Rattle.tables.specs.Inner.Passed.{AreLetters}

module _ (u g : ℕ) (l : Letters) (are : AreLetters u g l) where
  pub letters-n : l.n ≡ u + g
  letters-n = l.n_is ∙ ap₂ ◌+◌ are.unknowns are.givens

  pub letters-table_len : l.table_len ≡ 2 ^ (u + g)
  letters-table_len = l.table_len_is ∙ ap (λ (n : ℕ). 2 ^ n) letters-n
