-- The route before, as the walk's questions have it.
-- Assumes nothing.
use Rattle.std.specs.Prelude.{ℕ, Option, Some, None}

-- 0 where there is none before
abbrev pub route_before : Option ℕ → ℕ
route_before None = 0
route_before (Some route) = route
