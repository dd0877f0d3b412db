-- What going over the records of an entry once keeps, record by record, and what it gives in the end.
-- Assumes nothing.
use Rattle.std.specs.Prelude.{◌≡◌, Bool, true, ◌&&◌, cond, List, [], ◌∷◌, ℕ, ◌+◌, ◌≤◌, eqb, length, drop, Option, Some, None, is_some, IfSome}
use Rattle.std.specs.Option.{option_or}
use Rattle.ring.specs.declared.State.{State}
use Rattle.tables.specs.declared.Letters.{Letters as Held}
use Rattle.tables.specs.declared.Question.TheVariants.{Letters, Route, Records, Kinds, Numbers, Order}
use Rattle.tables.specs.Questions.{Asked, asks, first_no}
use Rattle.tables.specs.Inner.Passed.{NoneNo, IsFirstNo, AreLetters}
use Rattle.entry.specs.Record.{Record, route_field, state_field, kind, value_of, is_end, is_none, in_bounds}
use Rattle.entry.specs.Held.{records, unknowns_of, givens_of, order_in, held_verdict}
use Rattle.entry.specs.Questions.{route_fits, may_follow}
use Rattle.entry.specs.Inner.Places.{place_of, stands_behind}
use Rattle.calls.specs.Questions.{record_questions, entry_questions}
use Rattle.calls.specs.declared.Verdict.{Verdict}
use Rattle.calls.specs.declared.Verdict.TheVariants as verdicts
use Rattle.records.specs.declared.Seen.{Seen}
use Rattle.records.specs.declared.Gathered.{Gathered}
use Rattle.records.specs.declared.Survey.{Survey}
use Rattle.records.specs.declared.Refused.{Refused}
use Rattle.records.specs.Inner.Kinds.{kind_of, byte_before}
use Rattle.records.specs.Inner.Headings.{length_used, heading_of, said}

-- what has been seen with one more record
unfoldable pub seen_record : ℕ → ℕ → ℕ → Seen → Record → Seen
seen_record route U G x r =
    record {
      kind = kind_of (kind r);
      place = cond (in_bounds U G r) (place_of r) 0;
      kinds = x.kinds && (may_follow (byte_before x.kind) (kind r) && cond (is_end r) (eqb (value_of route_field r) route) true);
      numbers = x.numbers && (in_bounds U G r && stands_behind x.place (place_of r));
      none = cond (is_none r) (option_or x.none (Some (record { 0 = value_of state_field r }))) x.none;
    }

-- with all the records
unfoldable pub seen_all : ℕ → ℕ → ℕ → Seen → List Record → Seen
seen_all route U G x [] = x
seen_all route U G x (r ∷ rs) = seen_all route U G (seen_record route U G x r) rs

-- before the first record
abbrev pub nothing_seen : Seen
nothing_seen = record { kind = None; place = 0; kinds = true; numbers = true; none = None }

-- what has been seen when the records end
unfoldable pub gathered : ℕ → ℕ → ℕ → List Record → Gathered
gathered route U G rs = record { used = length_used rs; seen = seen_all route U G nothing_seen rs }

-- where the first kind 4 of records that begin at a place ends, if there is one
unfoldable pub end_from : ℕ → List Record → Option ℕ
end_from at [] = None
end_from at (r ∷ rs) = cond (is_end r) (Some (at + length r)) (end_from (at + length r) rs)

-- what has been seen when records that begin at a place end, behind those before it
unfoldable pub gathered_from : ℕ → ℕ → ℕ → Seen → ℕ → List Record → Gathered
gathered_from route U G x at rs = record { used = end_from at rs; seen = seen_all route U G x rs }

-- a place further on: the records from `from` on, behind x, give what those from `at` on give behind y
pub record Further (bs : List ℕ) (route U G : ℕ) (x : Seen) (from : ℕ) (y : Seen) (at : ℕ) : Type 0 where
  pub onward : from ≤ at
  pub inside : at ≤ length bs
  pub same : gathered_from route U G x from (records (drop from bs)) ≡ gathered_from route U G y at (records (drop at bs))

-- the same but for the place of the last monomial
abbrev pub placed : Seen → ℕ → Seen
placed x p = record { kind = x.kind; place = p; kinds = x.kinds; numbers = x.numbers; none = x.none }

-- what is said
abbrev pub said_by : Option State → Verdict
said_by None = verdicts.Solved
said_by (Some state) = verdicts.None state

-- 10, 11, 1, 2, 12, 17 by what has been gathered; there are letters if 1 is answered yes, and `in_order` answers 17
abbrev pub gathered_questions : Gathered → Option Held → ℕ → Bool → List Asked
gathered_questions x letters route in_order =
    asks Records (is_some x.used)
    ∷ asks Kinds x.seen.kinds
    ∷ asks Letters (is_some letters)
    ∷ asks Route (route_fits route)
    ∷ asks Numbers x.seen.numbers
    ∷ asks Order in_order
    ∷ []

-- what a yes to each tells
pub record PassedGathered (x : Gathered) (letters : Option Held) (route : ℕ) (in_order : Bool) (known : Held × ℕ) : Type 0 where
  pub none_no : NoneNo (gathered_questions x letters route in_order)
  pub letters_are : letters ≡ Some known.0
  pub used_is : x.used ≡ Some known.1

-- they are those that are put to the entry, and the letters are its own
pub record AsksEntry (rs : List Record) (x : Gathered) (letters : Option Held) (route : ℕ) (in_order : Bool) : Type 0 where
  pub same : first_no (gathered_questions x letters route in_order) ≡ first_no (record_questions rs)
  pub letters_are : IfSome letters (AreLetters (unknowns_of rs) (givens_of rs))

-- what going over an entry gives that passes 10, 11, 1, 2, 12, 17, 22 and 23
pub record IsSurvey (rs : List Record) (survey : Survey) : Type 0 where
  pub none_no : NoneNo (entry_questions rs)
  pub heading : survey.entry.heading ≡ heading_of rs
  pub verdict : survey.entry.verdict ≡ said (held_verdict rs)
  pub letters : AreLetters (unknowns_of rs) (givens_of rs) survey.letters
  pub order : survey.order ≡ order_in rs

-- and one that does not: the first no, and what it says
pub record IsRefused (rs : List Record) (refused : Refused) : Type 0 where
  pub question : IsFirstNo (entry_questions rs) refused.question
  pub heading : refused.entry.heading ≡ heading_of rs
  pub verdict : refused.entry.verdict ≡ said (held_verdict rs)
  pub order : refused.order ≡ order_in rs
