-- `session::Session::try_mark` meets its contract: what marking asks, and the name set.
-- Assumes nothing.
use Rattle.session.specs.Session.{marked}
use Rattle.session.proofs.Session.try_mark.Goals as goal

pub returns : goal.returns
unfolding marked
returns c = let name = c.in_ok-i.ensures in (name.none_no, rw (← name.place))
