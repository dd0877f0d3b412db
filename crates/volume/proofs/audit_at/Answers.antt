-- What is left of the volume is all that stands from the place on; the audit's answer there, then 15. Assumes nothing.
use mathlib.Core.Path.{ap, ◌∙◌}
use Rattle.std.proofs.lemmas.Result.{err_from_is_err_and}
use Rattle.tables.proofs.Slices.{rest_of}
use Rattle.calls.specs.Entries.{audit_call}
use Rattle.volume.proofs.Turns.{some_route, refused_first, refused_rising, passed_all}
use Rattle.volume.proofs.audit_at.Goals as goal

pub returns-in_err-entry : goal.returns-in_err-entry
returns-in_err-entry c =
    let no = err_from_is_err_and c.from_residual.result c.from_residual.ensures.1 in
    rw (no.1, no.2) (refused_first _ _ _ (c.in_err-entry.ensures ∙ ap audit_call (rest_of c.args.at c.args.volume.now)))

pub route_rises-requires : goal.route_rises-requires
route_rises-requires c = some_route 0 _ _ (c.in_ok-entry.ensures ∙ ap audit_call (rest_of c.args.at c.args.volume.now))

pub returns-in_err-require : goal.returns-in_err-require
returns-in_err-require c =
    let no = err_from_is_err_and c.from_residual-in_err-require.result c.from_residual-in_err-require.ensures.1 in
    rw (no.1, no.2)
    (refused_rising _ _ _ (c.in_ok-entry.ensures ∙ ap audit_call (rest_of c.args.at c.args.volume.now)) c.route_rises.ensures _
    c.in_err-require.ensures)

pub returns : goal.returns
returns c =
    passed_all _ _ _ (c.in_ok-entry.ensures ∙ ap audit_call (rest_of c.args.at c.args.volume.now)) c.route_rises.ensures c.in_ok-require.ensures
