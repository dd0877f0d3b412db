-- What an entry says, and whether it passes. Assumes nothing.
use mathlib.Core.Path.{◌≡◌, refl, sym, ap, ◌∙◌}
use Prim.Native.Nat.{ℕ}
use native.Mathlib.Omega.{arith}
use Rattle.std.proofs.Common.{Result, Ok, Err, rules}
use Rattle.std.specs.Result.{MatchResult, IsErrAnd}
use Rattle.std.proofs.lemmas.Result.{err_from_is_err_and}
use Rattle.records.proofs.Answers.{asks_entry, survey_is, refused_is}
use Rattle.records.proofs.survey_entry.Goals as goal

-- a result behind a change of its error
module _ {A E D : Type 0} (r : Result A E) {s : Result A D} (P : E → D → Type 0)
    (m : MatchResult r (λ x. s ≡ Ok x) (λ e. IsErrAnd s (P e))) where
  ok_before : {x : A} → s ≡ Ok x → r ≡ Ok x
  ok_before {x} e = go r m
    where
      go : (r : Result A E) → MatchResult r (λ x. s ≡ Ok x) (λ e. IsErrAnd s (P e)) → r ≡ Ok x
      go (Ok a) m = let f : ◌≡◌ {A = Result A D} (Ok a) (Ok x) = sym m ∙ e in let g : a ≡ x = (cc) in ap Ok g
      go (Err q) m = absurd (rw e at m)

  err_before : {y : D} → s ≡ Err y → (q : E) × (r ≡ Err q) × P q y
  err_before {y} e = go r m
    where
      go : (r : Result A E) → MatchResult r (λ x. s ≡ Ok x) (λ e. IsErrAnd s (P e)) → (q : E) × (r ≡ Err q) × P q y
      go (Ok a) m = let f : ◌≡◌ {A = Result A D} (Ok a) (Err y) = sym m ∙ e in let z : ◌≡◌ {A = ℕ} 0 1 = (cc) in absurd (omega arith)
      go (Err q) m = (q, refl, rw e at m)

pub ask_entry-requires : goal.ask_entry-requires
ask_entry-requires c =
    asks_entry _ c.start_of-start.ensures _ c.new.ensures c.ok-letters.ensures.value c.bounding.ensures c.new-2.result c.new-2.ensures
    c.gather-gathered.ensures c.order_of-order.ensures c.order_fits-ordered.ensures

pub returns-in_err-letters : goal.returns-in_err-letters
returns-in_err-letters c =
    let no = err_from_is_err_and c.from_residual.result c.from_residual.ensures.1 in
    let found = err_before c.ask_entry.result _ c.map_err.ensures.cases c.in_err-letters.was in
    let is : c.in_err-letters.field-0.0 ≡ record {
      question = found.0;
      entry = record { heading = record { route = c.start_of-start.result.route; unknowns = c.start_of-start.result.unknowns; givens = c.start_of-start.result.givens; used = c.unwrap_or-used.result }; verdict = c.verdict_of-verdict.result };
      order = c.order_of-order.result;
    } = search rules in
    rw (no.1, no.2, is)
    (refused_is _ c.start_of-start.ensures _ c.new.ensures c.ok-letters.ensures.value c.bounding.ensures c.new-2.result c.new-2.ensures
    c.gather-gathered.ensures c.order_of-order.ensures c.order_fits-ordered.ensures c.unwrap_or-used.ensures c.verdict_of-verdict.ensures
    (rw found.1 at c.ask_entry.ensures))

pub returns : goal.returns
returns c =
    let ok = ok_before c.ask_entry.result _ c.map_err.ensures.cases c.in_ok-letters.was in
    survey_is _ c.start_of-start.ensures _ c.new.ensures c.ok-letters.ensures.value c.bounding.ensures c.new-2.result c.new-2.ensures
    c.gather-gathered.ensures c.order_of-order.ensures c.order_fits-ordered.ensures c.unwrap_or-used.ensures c.verdict_of-verdict.ensures
    (rw ok at c.ask_entry.ensures)
