-- Where there is no route before, the answer is yes; else the routes are compared. Assumes nothing.
use mathlib.Core.Path.{refl}
use Rattle.calls.specs.Questions.{route_rises}
use Rattle.volume.proofs.Turns.{rises}
use Rattle.volume.proofs.route_rises.Goals as goal

pub returns-in-None : goal.returns-in-None
unfolding route_rises
returns-in-None c = rw c.in-None.is refl

pub returns-in-Some : goal.returns-in-Some
returns-in-Some c = rw c.in-Some.is (rises c.in-Some.before c.args.route c.requires)
