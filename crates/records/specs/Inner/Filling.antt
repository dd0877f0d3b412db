-- Tables filled from records, and what the functions that fill them ask.
-- Assumes nothing.
use Rattle.std.specs.Prelude.{◌≡◌, true, false, ◌&&◌, cond, List, [], ◌∷◌, ℕ, ◌+◌, ◌-◌, ◌*◌, ◌^◌, ◌≤◌, leb, length, drop, set}
use Rattle.ring.specs.Table.{tabulate}
use Rattle.tables.specs.declared.Letters.{Letters}
use Rattle.tables.specs.Inner.Passed.{NoneNo, AreLetters}
use Rattle.entry.specs.Record.{Record, mask_field, value_of, is_monomial, table_in}
use Rattle.entry.specs.Held.{records, route_of, unknowns_of, givens_of}
use Rattle.entry.specs.Questions.{kinds_follow}
use Rattle.entry.specs.Inner.Places.{fits_behind}
use Rattle.calls.specs.Questions.{record_questions}
use Rattle.records.specs.declared.kinds.Kind.{Kind}
use Rattle.records.specs.Inner.Kinds.{byte_of, base_of, IsOf}

-- k bytes 0
abbrev pub zeros : ℕ → List ℕ
zeros k = tabulate k (λ i. false)

-- tables of k bytes each, from number `base` on: the monomial of a record becomes 1
unfoldable pub put_monomial : ℕ → ℕ → Record → List ℕ → List ℕ
put_monomial base k r t = cond (is_monomial r && leb base (table_in r)) (set t ((table_in r - base) * k + value_of mask_field r) 1) t

-- all the records, put in one after another
unfoldable pub filled : (Record → List ℕ → List ℕ) → List Record → List ℕ → List ℕ
filled put [] t = t
filled put (r ∷ rs) t = filled put rs (put r t)

-- records that pass question 12 for U and G that pass question 1, behind one with the place `from`
pub record Fitting (U G : ℕ) (rs : List Record) : Type 0 where
  pub unknowns : U ≤ 6
  pub letters : U + G ≤ 10
  pub from : ℕ
  pub fits : fits_behind U G from rs ≡ true

-- a table in the midst of filling: filled from the records from `at` on it is what t₀ is filled from those from `from` on
pub record Filling (put : Record → List ℕ → List ℕ) (bs : List ℕ) (U G : ℕ) (t₀ : List ℕ) (from : ℕ) (t : List ℕ) (at : ℕ) : Type 0 where
  pub onward : from ≤ at
  pub inside : at ≤ length bs
  pub long : length t ≡ length t₀
  pub same : filled put (records (drop from bs)) t₀ ≡ filled put (records (drop at bs)) t
  pub fitting : Fitting U G (records (drop at bs))

-- the fact's table in the midst of filling, where the records from `at` on are such as may stand behind one of its monomials
pub record FactFilling (bs : List ℕ) (U G : ℕ) (t₀ t : List ℕ) (at : ℕ) : Type 0 where
  pub filling : Filling (put_monomial 0 (2 ^ (U + G))) bs U G t₀ 0 t at
  pub kinds : kinds_follow 7 (route_of (records bs)) (records (drop at bs)) ≡ true

-- the same for the tables of a kind and a row of its records. Tables that the kind's monomials do not change stay as they are, and what may
-- stand behind the row is what may stand behind one of its records
pub record RowFilling (k : Kind) (bs : List ℕ) (U G : ℕ) (t₀ : List ℕ) (from : ℕ) (t : List ℕ) (at : ℕ) : Type 0 where
  pub own : Filling (put_monomial (base_of k) (2 ^ (U + G))) bs U G t₀ from t at
  pub others : (base : ℕ) (s : List ℕ) → ((r : Record) → IsOf k r → s ≡ put_monomial base (2 ^ (U + G)) r s)
      → Filling (put_monomial base (2 ^ (U + G))) bs U G s from s at
  pub kinds : (route : ℕ) → kinds_follow (byte_of k) route (records (drop from bs)) ≡ true
      → kinds_follow (byte_of k) route (records (drop at bs)) ≡ true

-- bytes that pass the questions before 22, and their letters
pub record Passed (bs : List ℕ) (l : Letters) : Type 0 where
  pub yes : NoneNo (record_questions (records bs))
  pub letters : AreLetters (unknowns_of (records bs)) (givens_of (records bs)) l
