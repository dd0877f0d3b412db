-- `session::Session::start` meets its contract: question 1 alone. Assumes nothing.
use Rattle.calls.specs.Questions.{start_questions}
use Rattle.session.specs.Session.{outcome_of, stepped}
use Rattle.session.proofs.Session.start.Goals as goal

pub returns-in-Ok : goal.returns-in-Ok
unfolding start_questions outcome_of stepped
returns-in-Ok c = rw (c.in-Ok.ensures.2, c.new_session.ensures)

pub returns-in-Err : goal.returns-in-Err
unfolding start_questions outcome_of stepped
returns-in-Err c = rw (c.in-Err.ensures.0, c.in-Err.ensures.1, c.new_session-in-Err.ensures)
