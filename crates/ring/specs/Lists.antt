-- Lists by their members.
-- Assumes nothing.
use Rattle.std.specs.Prelude.{Bool, false, ◌||◌, List, [], ◌∷◌, ℕ, zero, suc, ◌+◌, eqb}
use Rattle.ring.specs.Letters.{digit}

-- the list h 0, h 1, .., of k members
unfoldable pub listed {ℓ} : {A : Type ℓ} → ℕ → (ℕ → A) → List A
listed zero h = []
listed (suc k) h = h 0 ∷ listed k (λ i. h (suc i))

-- m is in the list
unfoldable pub has : ℕ → List ℕ → Bool
has m [] = false
has m (k ∷ ks) = eqb m k || has m ks

-- how often m is in the list
unfoldable pub times : ℕ → List ℕ → ℕ
times m [] = 0
times m (k ∷ ks) = digit (eqb m k) + times m ks
