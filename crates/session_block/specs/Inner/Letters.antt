-- The letters of a session, as a block holds them.
-- Assumes nothing.
use Rattle.std.specs.Prelude.{◌<◌}
use Rattle.session.specs.declared.Session.{Session}

-- a byte each
pub record ByteLetters (s : Session) : Type 0 where
  pub unknowns : s.unknowns < 256
  pub givens : s.givens < 256
