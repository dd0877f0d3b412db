-- Substitutions, and what is an instance of what (document 01, 'The table of a polynomial', second paragraph).
-- U counts the unknowns and G the givens; a condition and an answer are polynomials over the engine's own list of letters.
-- Assumes nothing.
use Rattle.std.specs.Prelude.{◌≡◌, false, cond, List, ℕ, ◌+◌, ◌-◌, ◌<◌, ltb, length}
use Rattle.ring.specs.Polynomial.{Polynomial, letter, substitute}
use Rattle.ring.specs.Lists.{listed}
use Rattle.solution.specs.Letters.{Letter, unknown, given, place, Valuation, value_over}

-- 'A substitution gives every unknown a polynomial over one finite list of letters that holds the givens': that of unknown j, for j below U
abbrev pub Substitution : Type 0
Substitution = ℕ → Polynomial

-- the letter of bit j of a table's masks: unknown j, or given i where j is U + i
unfoldable pub letter_at : ℕ → ℕ → Letter
letter_at U j = cond (ltb j U) (unknown j) (given (j - U))

-- the engine's own list, over which tables are: the unknowns, then the givens
unfoldable pub own_letters : ℕ → ℕ → List Letter
own_letters U G = listed (U + G) (letter_at U)

-- f with σ, over L, put for the unknowns, all at once: a polynomial over L. 'Givens keep their place': a given is never replaced
unfoldable pub put_in : ℕ → ℕ → List Letter → Polynomial → Substitution → Polynomial
put_in U G L f σ = substitute (U + G) (length L) f (λ j. cond (ltb j U) (σ j) (letter (place L (letter_at U j))))

-- 'It makes a condition zero if the condition, with all unknowns replaced at once, has the value 0 at all values of the letters in the list'
abbrev pub MakesZero : ℕ → ℕ → Polynomial → List Letter → Substitution → Type 0
MakesZero U G f L σ = (v : Valuation) → value_over L (put_in U G L f σ) v ≡ false

-- 'A substitution is an instance of an answer if putting some substitution over the same list for the unknowns (the parameters) into the answer,
-- all at once, gives, for each unknown, a polynomial of the same values'
abbrev pub InstanceOf : ℕ → ℕ → Substitution → List Letter → Substitution → Type 0
InstanceOf U G a L σ = (τ : Substitution) × ((j : ℕ) → j < U → (v : Valuation) → value_over L (put_in U G L (a j) τ) v ≡ value_over L (σ j) v)
