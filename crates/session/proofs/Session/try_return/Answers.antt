-- `session::Session::try_return` meets its contract: what marking asks, then 19, and the table that is stored.
-- Assumes nothing.
use mathlib.Core.Path.{◌≡◌, refl, ap}
use mathlib.Core.Bool.{false}
use mathlib.Core.List.{List, []}
use Prim.Native.Nat.{ℕ}
use lib.ListN.{get_or, set}
use Rattle.std.proofs.lemmas.List.{set-get_or}
use Rattle.session.specs.declared.Mark.{Mark}
use Rattle.session.specs.declared.Session.{Session}
use Rattle.std.proofs.lemmas.Result.{err_from_is_err_and}
use Rattle.session.specs.Session.{with_table, returned, under}
use Rattle.session.proofs.Asked.{return_name_no, return_no, return_yes}
use Rattle.session.proofs.Session.try_return.Goals as goal

pub returns-in_err-i : goal.returns-in_err-i
returns-in_err-i c =
    let no = err_from_is_err_and c.from_residual.result c.from_residual.ensures.1 in
    rw (no.1, no.2) (return_name_no _ _ _ _ c.in_err-i.ensures, refl)

pub returns-in_err-require : goal.returns-in_err-require
unfolding under
returns-in_err-require c =
    let no = err_from_is_err_and c.from_residual-in_err-require.result c.from_residual-in_err-require.ensures.1 in
    rw (no.1, no.2, c.in_err-require.ensures.0)
    (return_no _ _ _ c.in_ok-i.ensures.none_no (rw (← c.in_ok-i.ensures.place) c.in_err-require.ensures.1), refl)

-- a name that was only looked at is as it was, and the table is the new one
kept : (s : Session) (i : ℕ) (d : Mark) (t : List ℕ) → with_table (record { unknowns = s.unknowns; givens = s.givens; table = t; marks = set s.marks i (get_or s.marks i d) }) t ≡ with_table s t
kept s i d t = ap (λ (ms : List Mark). record { unknowns = s.unknowns; givens = s.givens; table = t; marks = ms }) (set-get_or s.marks i d)

pub returns : goal.returns
unfolding returned under
returns c =
    let name = c.in_ok-i.ensures in (
      return_yes _ _ _ name.none_no (rw (← name.place) c.in_ok-require.ensures),
      rw (c.put_table.ensures, ← name.place) (kept c.args.self.now c.in_ok-i.i (record { set = false; table = [] }) _),
    )
