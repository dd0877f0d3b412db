-- The values of 1 + g and of f*(1 + g) in words, as the code comes to them.
-- Assumes nothing.
use mathlib.Core.Path.{◌≡◌, sym, ap, ap₂, ◌∙◌}
use mathlib.Core.Bool.{true, not, ◌&&◌}
use mathlib.Core.List.{List}
use Prim.Native.Nat.{ℕ, ◌-◌, ◌^◌}
use lib.ListN.{length}
use Rattle.ring.specs.Polynomial.{◌⊕◌, value}
use Rattle.ring.specs.Table.{present}
use Rattle.ring.proofs.Bool.{xor_comm}
use Rattle.words.specs.Inner.Words.{words_of, bit_at}
use Rattle.words.proofs.Words.{words_cong, at_known, size_words}
use Rattle.words.proofs.Holds.{words_sized}
use Rattle.solution.specs.Elimination.{is_zero}
use Rattle.solution.proofs.Blocked.{zero_values}
use Rattle.solution.proofs.UnderFact.{value_where}
use Rattle.facts.specs.Inner.Kept.{kept_words, where_words}

-- where g is 0, every point counts
pub all_kept : (n size : ℕ) (t kept : List ℕ) → size ≡ 2 ^ (n - 6) → is_zero n (present t) ≡ true → kept ≡ words_of size (λ p. true)
    → kept ≡ kept_words n t
all_kept n size t kept es z e =
    words_sized _ _ _ kept e es ∙ words_cong (2 ^ (n - 6)) _ _ (λ p l. sym (ap not (zero_values n (present t) p z)))

-- the complement of g's values
pub complement_kept : (n : ℕ) (t values kept : List ℕ) → values ≡ words_of (2 ^ (n - 6)) (value n (present t))
    → kept ≡ words_of (length values) (λ p. bit_at values p ⊕ true) → kept ≡ kept_words n t
complement_kept n t values kept ev e =
    words_sized _ _ _ kept e (size_words _ _ values ev)
    ∙ words_cong (2 ^ (n - 6)) _ _ (λ p l. xor_comm (bit_at values p) true ∙ ap not (at_known _ _ values ev p l))

-- a condition's values multiplied by those of 1 + g
pub values_where : (n : ℕ) (f g kept values product : List ℕ) → kept ≡ kept_words n g
    → values ≡ words_of (2 ^ (n - 6)) (value n (present f)) → product ≡ words_of (length values) (λ p. bit_at values p && bit_at kept p)
    → product ≡ where_words n f g
values_where n f g kept values product ek ev e =
    words_sized _ _ _ product e (size_words _ _ values ev)
    ∙ words_cong (2 ^ (n - 6)) _ _ (λ p l.
    ap₂ ◌&&◌ (at_known _ _ values ev p l) (at_known _ _ kept ek p l) ∙ sym (value_where n f g p))
