-- The values of several polynomials in words, k words to each, one after another.
-- Assumes nothing.
use Rattle.std.specs.Prelude.{◌≡◌, ⊤, Bool, ◌&&◌, List, ℕ, ◌+◌, ◌-◌, ◌*◌, ◌^◌, ◌<◌, length}
use denote.Ref.{Bor, MutBor}
use Rattle.ring.specs.Letters.{bit}
use Rattle.ring.specs.Polynomial.{Polynomial, ◌⊕◌, value}
use Rattle.tables.specs.declared.Letters.{Letters}
use Rattle.words.specs.Inner.Words.{bit_at}

-- the value of polynomial j at the point p
unfoldable pub part_value : ℕ → List ℕ → ℕ → ℕ → Bool
part_value k ws j p = bit_at ws (j * (64 * k) + p)

-- x + f*(x + b), of the values at the point p
unfoldable pub mixed_value : (ℕ → Bool) → (ℕ → Bool) → ℕ → ℕ → Bool
mixed_value f b x p = bit p x ⊕ (f p && (bit p x ⊕ b p))

-- a closure may be called at an unknown, at the words of its part, and at room for as many
abbrev pub TakesParts : Letters → (ℕ → Bor (List ℕ) → MutBor (List ℕ) → Type 0) → Type 0
TakesParts l pre =
    (x : ℕ) (part : Bor (List ℕ)) (own : MutBor (List ℕ)) → x < l.unknowns → length part.now ≡ 2 ^ (l.n - 6)
    → length own.now ≡ 2 ^ (l.n - 6) → pre x part own

-- and leaves there, at each point, what h makes of the unknown, the part's value and the point
abbrev pub MakesValues : Letters → (ℕ → Bor (List ℕ) → MutBor (List ℕ) → ⊤ → MutBor (List ℕ) → Type 0) → (ℕ → Bool → ℕ → Bool) → Type 0
MakesValues l post h =
    (x : ℕ) (part : Bor (List ℕ)) (own left : MutBor (List ℕ)) → x < l.unknowns → length part.now ≡ 2 ^ (l.n - 6)
    → length own.now ≡ 2 ^ (l.n - 6) → post x part own tt left
    → (length left.now ≡ 2 ^ (l.n - 6)) × ((p : ℕ) → p < 2 ^ l.n → bit_at left.now p ≡ h x (bit_at part.now p) p)

-- the coefficients of the polynomial that comes of part j so
abbrev pub made_by : Letters → (ℕ → Bool → ℕ → Bool) → List ℕ → ℕ → Polynomial
made_by l h parts j = value l.n (λ p. h j (part_value (2 ^ (l.n - 6)) parts j p) p)
