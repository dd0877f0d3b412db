-- The fact of an entry. By question 11 its records of kind 7 stand in a row behind the start and the kind 6, if there is one, and nowhere
-- else: going over that row alone fills the fact's table, and where it is empty the fact is 0.
-- Assumes nothing.
use mathlib.Core.Path.{◌≡◌, refl, sym, ap, ◌∙◌}
use mathlib.Core.Bool.{Bool, true, false, not, ◌||◌, or-false}
use mathlib.Core.List.{List, [], ◌∷◌}
use mathlib.Core.Logic.{◌⊎◌, inl, inr}
use Prim.Native.Nat.{ℕ, zero, suc, ◌+◌, ◌^◌, ◌≤◌, ◌<◌}
use native.Mathlib.Omega.{arith}
use lib.Dec.{eqb}
use lib.ListN.{length, drop}
use borrow.Author.Tests.{ne_eqb}
use Rattle.std.proofs.Common.{Result, Ok, Err}
use Rattle.std.specs.Result.{MatchResult}
use Rattle.ring.specs.Polynomial.{every_below, constant}
use Rattle.ring.specs.Lists.{has}
use Rattle.ring.specs.Table.{IsTable, table}
use Rattle.ring.proofs.Bool.{bool_cases, never}
use Rattle.ring.proofs.Lists.{has_append}
use Rattle.ring.proofs.Table.{is-table}
use Rattle.tables.specs.declared.Letters.{Letters}
use Rattle.tables.specs.declared.Question.{Question}
use Rattle.tables.specs.Questions.{letters_fit}
use Rattle.tables.specs.Inner.Passed.{NoneNo, IsFirstNo}
use Rattle.tables.proofs.FirstNo.{each_yes, none_no, then_further}
use Rattle.tables.proofs.Questions.{letters_small, unknowns_small}
use Rattle.solution.specs.Fact.{IsFact, no_fact}
use Rattle.solution.proofs.UnderFact.{no_fact-is}
use Rattle.entry.specs.Record.{Record, fields, widths, size, kind, is_end, is_order, is_fact, table_in}
use Rattle.entry.specs.Held.{records, first, route_of, unknowns_of, givens_of, fact_in, held_condition}
use Rattle.entry.specs.Questions.{may_follow, kinds_follow, kinds_fit, numbers_fit}
use Rattle.entry.proofs.Records.{first_next}
use Rattle.entry.proofs.Places.{numbers_by_places}
use Rattle.entry.proofs.OrderRecord.{behind_none, behind_kinds}
use Rattle.entry.proofs.Canonical.{ends_there, records_end, may, kinds_on, ends_on, nothing_behind, all_pass, each_follows, each_follows_lem}
use Rattle.calls.specs.Questions.{fact_questions, record_questions, entry_questions}
use Rattle.records.specs.declared.kinds.Kind.{Kind}
use Rattle.records.specs.declared.kinds.Kind.TheVariants as kinds
use Rattle.records.specs.Inner.Kinds.{byte_of, stands_in_row, IsOf, Stands, stands}
use Rattle.records.specs.Inner.Filling.{zeros, put_monomial, filled, Fitting, Filling, RowFilling, FactFilling, Passed}
use Rattle.records.proofs.Standing.{stands_there, stands_inside}
use Rattle.records.proofs.OneRecord.{no_monomial, whole_length}
use Rattle.records.proofs.Filling.{cleared_length, put_none, put_past, fill_start, fill_then, fill_over, kinds_behind, filled_first}

-- ---- no kind 7 stands behind another kind than 1, 6 and 7
-- the kinds that follow the fact, none of which it follows
abbrev late : ℕ → Bool
late k = has k (2 ∷ 3 ∷ 4 ∷ 5 ∷ [])

late_follows : (p k : ℕ) → late p ≡ true → may_follow p k ≡ true → late k ≡ true
unfolding has each_follows all_pass every_below
late_follows zero k h m = never h refl
late_follows (suc p) k h m = rw h at (each_follows_lem (λ i x. not (late (suc i)) || late x) refl p k m)

late_first : (k : ℕ) → eqb k 7 ≡ false → may_follow 7 k ≡ true → late k ≡ true
unfolding may_follow has
late_first k n m = sym (or-false (late k)) ∙ rw n at (sym (has_append k (2 ∷ 3 ∷ 4 ∷ 5 ∷ []) (7 ∷ [])) ∙ m)

module _ (k route : ℕ) (t : List ℕ) (l : length t ≡ k) where
  -- a record of such a kind, and those behind it
  put_late : (p : ℕ) (r : Record) (rs : List Record) → late (kind r) ≡ true → kinds_follow p route (r ∷ rs) ≡ true
      → ends_there (r ∷ rs) ≡ true
      → (late (kind r) ≡ true → kinds_follow (kind r) route rs ≡ true → ends_there rs ≡ true → filled (put_monomial 0 k) rs t ≡ t)
      → filled (put_monomial 0 k) (r ∷ rs) t ≡ t
  unfolding filled has
  put_late p r rs h o e ih =
      rw (← put_past k r t 0 later (omega arith)) (go (bool_cases (is_end r)))
    where
      no_fact_lem : is_fact r ≡ false
      no_fact_lem = ne_eqb (kind r) 7 (λ seven. never h (rw seven))

      later : 0 < table_in r
      later = rw no_fact_lem (omega arith)

      go : (is_end r ≡ true) ⊎ (is_end r ≡ false) → filled (put_monomial 0 k) rs t ≡ t
      go (inl f) = rw (nothing_behind r rs e f)
      go (inr f) = ih h (kinds_on p route r rs o f) (ends_on r rs e f)

  all_late : (p : ℕ) (rs : List Record) → late p ≡ true → kinds_follow p route rs ≡ true → ends_there rs ≡ true
      → filled (put_monomial 0 k) rs t ≡ t
  unfolding filled
  all_late p [] h o e = refl
  all_late p (r ∷ rs) h o e = put_late p r rs (late_follows p (kind r) h (may p route r rs o)) o e (all_late (kind r) rs)

  -- where no kind 7 stands next, there is none further on
  no_more_facts : (rs : List Record) → is_fact (first rs) ≡ false → kinds_follow 7 route rs ≡ true → ends_there rs ≡ true
      → filled (put_monomial 0 k) rs t ≡ t
  unfolding filled
  no_more_facts [] n o e = refl
  no_more_facts (r ∷ rs) n o e = put_late 7 r rs (late_first (kind r) n (may 7 route r rs o)) o e (all_late (kind r) rs)

-- ---- from the start of the entry to the end of the row
-- a kind without monomials changes no table
nothing_put : (k : Kind) → stands_in_row k ≡ false → (base l : ℕ) (t : List ℕ) (r : Record) → IsOf k r → t ≡ put_monomial base l r t
nothing_put k s base l t r w = put_none l r t base (no_monomial r w s)

-- behind kind 6 may stand what may stand behind kind 7
as_behind_fact : (route : ℕ) (rs : List Record) → kinds_follow 6 route rs ≡ true → kinds_follow 7 route rs ≡ true
unfolding kinds_follow may_follow
as_behind_fact route [] o = o
as_behind_fact route (r ∷ rs) o = o

-- where the row begins
module _ (bs : List ℕ) (o : kinds_fit (records bs) ≡ true) where
  starts : Stands bs 0 kinds.Start
  unfolding kinds_fit kinds_follow may_follow
  starts = stands_there bs 0 kinds.Start (ap (λ (r : Record). may_follow 0 (kind r)) (sym (first_next bs)) ∙ first_may (records bs) o)
    where
      first_may : (rs : List Record) → kinds_follow 0 (route_of (records bs)) rs ≡ true → may_follow 0 (kind (first rs)) ≡ true
      first_may [] h = never h refl
      first_may (r ∷ rs) h = may 0 _ r rs h

  no_end_start : kinds.Start ≡ kinds.End → ⊥
  no_end_start e = let z : ◌≡◌ {A = ℕ} 0 1 = (cc) in omega arith

  no_end_order : kinds.Order ≡ kinds.End → ⊥
  no_end_order e = let z : ◌≡◌ {A = ℕ} 0 1 = (cc) in omega arith

  module _ {at : ℕ} (ea : at ≡ size (byte_of kinds.Start)) where
    pub start_inside : at ≤ length bs
    unfolding size fields widths
    start_inside = rw ea (stands_inside bs 0 kinds.Start starts (omega arith))

    start_kinds : kinds_follow 1 (route_of (records bs)) (records (drop at bs)) ≡ true
    unfolding kinds_fit size fields widths
    start_kinds = rw ea (kinds_behind bs 0 kinds.Start starts no_end_start 0 _ o)

    module _ (U G : ℕ) (t : List ℕ) (f : Fitting U G (records bs)) where
      behind_start : Filling (put_monomial 0 (2 ^ (U + G))) bs U G t 0 t at
      unfolding size fields widths
      behind_start =
          fill_over _ bs U G t t 0 0 (fill_start _ bs U G t 0 (omega arith) f) kinds.Start starts no_end_start ea (nothing_put kinds.Start refl 0 _ t)

      -- behind the start
      pub row_first : stands bs at kinds.Order ≡ false → FactFilling bs U G t t at
      row_first n =
          let no_order : is_order (first (records (drop at bs))) ≡ false = ap is_order (first_next (drop at bs)) ∙ n in
          record {
            filling = behind_start;
            kinds = as_behind_fact _ _ (rw (behind_none (records (drop at bs)) no_order) at (behind_kinds _ (records (drop at bs)) start_kinds));
          }

      -- behind the order
      pub row_second : Stands bs at kinds.Order → {behind : ℕ} → behind ≡ at + size (byte_of kinds.Order) → FactFilling bs U G t t behind
      row_second st eb =
          record {
            filling = fill_over _ bs U G t t 0 at behind_start kinds.Order st no_end_order eb (nothing_put kinds.Order refl 0 _ t);
            kinds = as_behind_fact _ _ (rw eb (kinds_behind bs at kinds.Order st no_end_order 1 _ start_kinds));
          }

-- behind the row
fact_end : (bs : List ℕ) (u g : ℕ) (t₀ t : List ℕ) (at : ℕ) → FactFilling bs u g t₀ t at → stands bs at kinds.Fact ≡ false
    → length t₀ ≡ 2 ^ (u + g)
    → t ≡ filled (put_monomial 0 (2 ^ (u + g))) (records bs) t₀
fact_end bs u g t₀ t at w n l =
    let none_there : is_fact (first (records (drop at bs))) ≡ false = ap is_fact (first_next (drop at bs)) ∙ n in
    sym (w.filling.same
    ∙ no_more_facts (2 ^ (u + g)) _ t (w.filling.long ∙ l) (records (drop at bs)) none_there w.kinds (records_end (drop at bs)))

-- ---- bytes that pass the questions before 22
pub passed_kinds : (bs : List ℕ) → NoneNo (record_questions (records bs)) → kinds_fit (records bs) ≡ true
unfolding record_questions
passed_kinds bs z = (each_yes (record_questions (records bs)) z).1.0

module _ (bs : List ℕ) (z : NoneNo (record_questions (records bs))) where
  abbrev U : ℕ
  U = unknowns_of (records bs)

  abbrev G : ℕ
  G = givens_of (records bs)

  letters : letters_fit U G ≡ true
  unfolding record_questions
  letters = (each_yes (record_questions (records bs)) z).1.1.0

  pub own_fits : Fitting U G (records bs)
  unfolding record_questions numbers_fit
  own_fits =
      record {
        unknowns = unknowns_small U G letters;
        letters = letters_small U G letters;
        from = 0;
        fits = numbers_by_places U G (letters_small U G letters) (records bs) ∙ (each_yes (record_questions (records bs)) z).1.1.1.1.0;
      }

  -- the row has been put into cleared bytes
  own_filled : (k : ℕ) → k ≡ 2 ^ (U + G) → (t₀ t : List ℕ) (at : ℕ) → t₀ ≡ zeros k → FactFilling bs U G t₀ t at
      → stands bs at kinds.Fact ≡ false
      → t ≡ (held_condition (records bs)).fact
  unfolding held_condition fact_in
  own_filled k ek t₀ t at e₀ w n =
      let long : length t₀ ≡ 2 ^ (U + G) = cleared_length k e₀ ∙ ek in
      filled_first 0 U G (records bs) own_fits k e₀ (fact_end bs U G t₀ t at w n long) ek

  -- there is no row, and the fact is 0
  pub no_row : (at : ℕ) → ((U G : ℕ) (t : List ℕ) → Fitting U G (records bs) → FactFilling bs U G t t at) → stands bs at kinds.Fact ≡ false
      → (held_condition (records bs)).fact ≡ no_fact (U + G)
  unfolding no_fact table constant
  no_row at w n = sym (own_filled _ refl (zeros _) (zeros _) at refl (w _ _ (zeros _) own_fits) n)

module _ (bs : List ℕ) {l : Letters} (p : Passed bs l) where
  pub passed_fits : Fitting l.unknowns l.givens (records bs)
  passed_fits = rw (p.letters.unknowns, p.letters.givens) (own_fits bs p.yes)

  -- the row, put in from where it begins
  pub fact_filled : (k : ℕ) → k ≡ l.table_len → {t₀ t : List ℕ} {from at : ℕ} → t₀ ≡ zeros k → FactFilling bs l.unknowns l.givens t₀ t₀ from
      → RowFilling kinds.Fact bs l.unknowns l.givens t₀ from t at
      → stands bs at kinds.Fact ≡ false
      → t ≡ (held_condition (records bs)).fact
  fact_filled k ek {t₀} {t} {at = at} e₀ w v n =
      let all : FactFilling bs l.unknowns l.givens t₀ t at =
      record { filling = fill_then _ bs l.unknowns l.givens w.filling v.own; kinds = v.kinds _ w.kinds } in
      let own : FactFilling bs (unknowns_of (records bs)) (givens_of (records bs)) t₀ t at = rw (← p.letters.unknowns, ← p.letters.givens) all in
      own_filled bs p.yes k (ek ∙ whole_length l ∙ rw (p.letters.unknowns, p.letters.givens)) t₀ t at e₀ own n

  -- it is a table
  pub fact_table : IsTable l.n (held_condition (records bs)).fact
  unfolding held_condition table
  fact_table = rw (l.n_is, p.letters.unknowns, p.letters.givens) (is-table _ (fact_in (records bs)))

  -- ---- questions 22 and 23
  facts_passed : NoneNo (fact_questions l.unknowns l.givens (held_condition (records bs)).fact) → NoneNo (entry_questions (records bs))
  unfolding entry_questions
  facts_passed z = then_further (record_questions (records bs)) _ p.yes ∙ (rw (p.letters.unknowns, p.letters.givens) at z)

  pub facts_asked : {A : Type 0} (r : Result A Question)
      → MatchResult r (λ _. NoneNo (fact_questions l.unknowns l.givens (held_condition (records bs)).fact))
      (IsFirstNo (fact_questions l.unknowns l.givens (held_condition (records bs)).fact))
      → MatchResult r (λ _. NoneNo (entry_questions (records bs))) (IsFirstNo (entry_questions (records bs)))
  unfolding entry_questions
  facts_asked (Ok a) z = facts_passed z
  facts_asked (Err q) e = e ∙ rw (p.letters.unknowns, p.letters.givens) (sym (then_further (record_questions (records bs)) _ p.yes))

  pub nothing_asked : (held_condition (records bs)).fact ≡ no_fact (unknowns_of (records bs) + givens_of (records bs))
      → NoneNo (entry_questions (records bs))
  unfolding fact_questions
  nothing_asked e =
      let w : IsFact l.unknowns l.givens (no_fact (l.unknowns + l.givens)) = no_fact-is l.unknowns l.givens in
      facts_passed (rw (e, ← p.letters.unknowns, ← p.letters.givens) (none_no (fact_questions l.unknowns l.givens (no_fact (l.unknowns + l.givens))) (w.givens, (w.states, tt))))
