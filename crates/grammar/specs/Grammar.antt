-- The grammar (document 01, 'The notation'), as derivations. A derivation is of a list of symbols, all of it, and gives the syntax tree.
-- Sum, product and factor refer to each other: one family, with the kind as its first index.
-- Assumes nothing.
use Rattle.std.specs.Prelude.{Bool, true, false, List, [], ◌∷◌, ◌++◌, ℕ}
use Rattle.grammar.specs.Symbols.{Symbol, unknown_letter, given_letter, single}
use Rattle.grammar.specs.Symbols.{zero_sign, one_sign, not_sign, open_sign, close_sign, times_sign, plus_sign, or_sign}

-- syntax trees: a constant, a letter, `!t`, `s*t`, `s+t`, `s|t`
pub data Tree : Type 0 where
  constant : Bool → Tree
  unknown given : ℕ → Tree
  negation : Tree → Tree
  times plus either : Tree → Tree → Tree

-- what the grammar speaks of
pub data Kind : Type 0 where
  a_sum a_product a_factor : Kind

-- 'sum: a product, then any number of (`+` or `|`, product), grouped from the left'
-- 'product: a factor, then any number of (`*`, factor)'
-- 'factor: `0`, `1`, a letter, `!` and a factor, or `(` sum `)`'
pub data Derives : Kind → List Symbol → Tree → Type 0 where
  one_product : {l : List Symbol} {s : Tree} → Derives a_product l s → Derives a_sum l s
  plus_product : {l m : List Symbol} {s t : Tree}
      → Derives a_sum l s → Derives a_product m t → Derives a_sum (l ++ (single plus_sign ∷ m)) (plus s t)
  or_product : {l m : List Symbol} {s t : Tree}
      → Derives a_sum l s → Derives a_product m t → Derives a_sum (l ++ (single or_sign ∷ m)) (either s t)
  one_factor : {l : List Symbol} {s : Tree} → Derives a_factor l s → Derives a_product l s
  times_factor : {l m : List Symbol} {s t : Tree}
      → Derives a_product l s → Derives a_factor m t → Derives a_product (l ++ (single times_sign ∷ m)) (times s t)
  is_zero : Derives a_factor (single zero_sign ∷ []) (constant false)
  is_one : Derives a_factor (single one_sign ∷ []) (constant true)
  unknown_factor : {j : ℕ} → Derives a_factor (unknown_letter j ∷ []) (unknown j)
  given_factor : {i : ℕ} → Derives a_factor (given_letter i ∷ []) (given i)
  is_negation : {l : List Symbol} {t : Tree} → Derives a_factor l t → Derives a_factor (single not_sign ∷ l) (negation t)
  in_brackets : {l : List Symbol} {t : Tree} → Derives a_sum l t → Derives a_factor (single open_sign ∷ (l ++ (single close_sign ∷ []))) t

-- the symbols are a sum, a product, a factor with this tree
abbrev pub Sum : List Symbol → Tree → Type 0
Sum l t = Derives a_sum l t

abbrev pub Product : List Symbol → Tree → Type 0
Product l t = Derives a_product l t

abbrev pub Factor : List Symbol → Tree → Type 0
Factor l t = Derives a_factor l t
