-- What `for_each_line` says of its calls: those that `try_for_each` makes at what `split` gives are one at each line.
-- Assumes nothing.
use Rattle.std.proofs.Common.{◌≡◌, ◌≤◌, ℕ, List, [], ◌∷◌, map, length, Option, None, Some, Result, Ok, Err, ◌==◌, IsErr, IsErrAnd, OnOk, MatchOption, ControlFlow, Continue, Break, refl, subst, ◌∙◌}
use Rattle.std.proofs.lemmas.Iterator.{YieldsList, items_from_drains}
use Rattle.std.specs.Fn.{CalledAt, Called}
use Rattle.std.specs.List.{FoldsTo, slice_split}
use Rattle.std.specs.Iterator.{TryForEachTurn, TryCallsOnEach, YieldsThen}
use Rattle.cases.specs.Lines.{RunsEachLine}
use denote.Param.Members.{Mut}
use denote.Ref.{Bor}

module _ {F E B : Type 0} (g : Mut F (Bor (List ℕ) × Unit {0}) (Result (Unit {0}) E)) (answer : ControlFlow B (Unit {0}) → Result (Unit {0}) E)
    (when_on : answer (Continue tt) ≡ Ok tt) (Why : B → E → Type 0) where
  -- how the library says that a call goes on, and what is answered where one does not
  abbrev goes_on : Result (Unit {0}) E → ControlFlow B (Unit {0}) → Type 0
  goes_on v step = v ≡ answer step

  abbrev fails_by : B → Result (Unit {0}) E → Type 0
  fails_by b r = IsErr r × IsErrAnd r (Why b)

  -- turns at references are calls at what these refer to
  calls_at : (xs : List (Bor (List ℕ))) (f last : F) → FoldsTo (TryForEachTurn g goes_on) f xs last → FoldsTo (λ now y next. CalledAt g now y (Ok tt) next) f (map (λ x. x.now) xs) last
  calls_at [] f last h = h
  calls_at (x ∷ xs) f last h =
      (h.0, record { shown = x; shows = refl; called = subst (λ v. Called g f (x, tt) v h.0) (h.1.2 ∙ when_on) h.1.1 }, calls_at xs h.0 last h.2)

  module _ {S : Type 0} {steps : S → Option (Bor (List ℕ)) → S → Type 0} {s : S} (bytes : List ℕ) (short : length bytes ≤ 262144)
      (lines : YieldsList steps (λ x. x.now) s (slice_split (λ byte. byte == 10) bytes)) where
    ended : (xs : List (Bor (List ℕ))) (o : Option (Bor (List ℕ))) (f last : F) (v : Unit {0}) (u : S) → YieldsThen steps s xs o u → FoldsTo (TryForEachTurn g goes_on) f xs last
        → MatchOption o (goes_on (Ok v) (Continue tt)) (λ x. (w : _) × (h : F) × (b : B) × Called g last (x, tt) w h × goes_on w (Break b) × fails_by b (Ok v))
        → RunsEachLine g f (Ok tt) bytes
    ended xs None f last v u yields turns end = (
      last,
      subst (λ ys. FoldsTo (λ now y next. CalledAt g now y (Ok tt) next) f ys last)
          (items_from_drains xs (yields.0, yields.1, λ _. (u, yields.2)) lines) (calls_at xs f last turns),
    )
    ended xs (Some x) f last v u yields turns end = let failed : IsErr {E = E} (Ok v) = end.5.0 in absurd cc

    pub runs_each_line : (f : F) (r : Result (Unit {0}) E) (u : S) → TryCallsOnEach steps g goes_on fails_by s f r u
        → OnOk r ((x : List ℕ) × (length x ≤ 262144) × RunsEachLine g f (Ok tt) x)
    runs_each_line f (Err e) u h = tt
    runs_each_line f (Ok v) u h = (bytes, short, ended h.0 h.1 f h.2 v u h.3 h.4 h.5)
