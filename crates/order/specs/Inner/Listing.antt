-- Masks listed in a buffer one behind another, each with a tag.
-- Assumes nothing.
use Rattle.std.specs.Prelude.{◌≡◌, Bool, List, ◌++◌, map, ℕ, ◌+◌, ◌≤◌, ◌<◌, length, get_or, take}

-- masks, each with the tag added
unfoldable pub tagged : ℕ → List ℕ → List ℕ
tagged tag ms = map (λ m. tag + m) ms

-- what may be answered at each of the masks is f of it
abbrev pub Tells : List ℕ → (ℕ → Bool → Type 0) → (ℕ → Bool) → Type 0
Tells masks answers f = (p : ℕ) (b : Bool) → p < length masks → answers (get_or masks p 0) b → b ≡ f (get_or masks p 0)

-- vs stands in the buffer behind what stood before the place `from`, and `next` is the place behind it; of the rest only the length is said
pub record Listed (old : List ℕ) (from : ℕ) (vs : List ℕ) (next : ℕ) (new : List ℕ) : Type 0 where
  pub place : next ≡ from + length vs
  pub inside : next ≤ length old
  pub front : take next new ≡ take from old ++ vs
  pub long : length new ≡ length old
