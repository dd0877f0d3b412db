-- The kinds of records as the code has them, and the bytes that stand for them.
-- Assumes nothing.
use Rattle.std.specs.Prelude.{◌≡◌, Bool, true, false, List, [], ◌∷◌, ℕ, ◌+◌, ◌≤◌, eqb, length, get_or, drop, Option, Some, None, Result, MatchResult}
use Rattle.entry.specs.Record.{Record, size, kind}
use Rattle.entry.specs.Held.{next}
use Rattle.records.specs.declared.kinds.Kind.{Kind}
use Rattle.records.specs.declared.kinds.Kind.TheVariants as kinds
use Rattle.records.specs.declared.kinds.NoKind.{NoKind}

-- the byte that stands for a kind
abbrev pub byte_of : Kind → ℕ
byte_of kinds.Start = 1
byte_of kinds.Condition = 2
byte_of kinds.Answer = 3
byte_of kinds.End = 4
byte_of kinds.None = 5
byte_of kinds.Order = 6
byte_of kinds.Fact = 7

-- the kind with this byte, or that there is none
abbrev pub Decodes : ℕ → Result Kind NoKind → Type 0
Decodes byte r = MatchResult r (λ k. byte_of k ≡ byte) (λ no. size byte ≡ 0)

-- the kind that a byte stands for, if it does
unfoldable pub kind_of : ℕ → Option Kind
kind_of byte =
    get_or
    (None
    ∷ Some kinds.Start
    ∷ Some kinds.Condition
    ∷ Some kinds.Answer
    ∷ Some kinds.End
    ∷ Some kinds.None
    ∷ Some kinds.Order
    ∷ Some kinds.Fact
    ∷ [])
    byte None

-- the byte of the kind before, 0 where there is none
abbrev pub byte_before : Option Kind → ℕ
byte_before None = 0
byte_before (Some k) = byte_of k

-- does each of its records hold a monomial? Such stand in rows
abbrev pub stands_in_row : Kind → Bool
stands_in_row kinds.Start = false
stands_in_row kinds.Condition = true
stands_in_row kinds.Answer = true
stands_in_row kinds.End = false
stands_in_row kinds.None = false
stands_in_row kinds.Order = false
stands_in_row kinds.Fact = true

-- the first table that these monomials belong to: 0 the fact, 1 the condition, 2 the answer for unknown 0
abbrev pub base_of : Kind → ℕ
base_of kinds.Start = 0
base_of kinds.Condition = 1
base_of kinds.Answer = 2
base_of kinds.End = 0
base_of kinds.None = 0
base_of kinds.Order = 0
base_of kinds.Fact = 0

-- a whole record of a kind
pub record IsOf (k : Kind) (r : Record) : Type 0 where
  pub is : kind r ≡ byte_of k
  pub long : length r ≡ size (byte_of k)

-- one that stands at a place
abbrev pub Stands : List ℕ → ℕ → Kind → Type 0
Stands bs at k = IsOf k (next (drop at bs))

-- the same for a place within the bytes: it ends within them
pub record IsThere (bs : List ℕ) (at : ℕ) (k : Kind) : Type 0 where
  pub stands : Stands bs at k
  pub inside : at + size (byte_of k) ≤ length bs

-- does one stand there?
abbrev pub stands : List ℕ → ℕ → Kind → Bool
stands bs at k = eqb (kind (next (drop at bs))) (byte_of k)

-- or none does
abbrev pub NoneStands : List ℕ → ℕ → Type 0
NoneStands bs at = length (next (drop at bs)) ≡ 0
