-- What the start of an entry says, its order, the length used, and whether the entry says 'none'.
-- Assumes nothing.
use Rattle.std.specs.Prelude.{cond, List, ℕ, length, drop, Option, Some, None}
use Rattle.solution.specs.Elimination.{solved, none, Verdict as Said}
use Rattle.solution.specs.Order.{default_bytes}
use Rattle.entry.specs.Record.{Record, is_order, bytes}
use Rattle.entry.specs.Held.{second, route_of, unknowns_of, givens_of}
use Rattle.entry.specs.Questions.{has_end}
use Rattle.calls.specs.declared.Heading.{Heading}
use Rattle.calls.specs.declared.Verdict.{Verdict}
use Rattle.calls.specs.declared.Verdict.TheVariants as verdicts

-- the length to the end of the first kind 4, if there is one
unfoldable pub length_used : List Record → Option ℕ
length_used rs = cond (has_end rs) (Some (length (bytes rs))) None

-- what the start says
abbrev pub start_of : List Record → Heading
start_of rs = record { route = route_of rs; unknowns = unknowns_of rs; givens = givens_of rs; used = 0 }

-- the order's bytes: those of a kind 6 that stands second, or the order 0, 1, 2, .. of U unknowns
unfoldable pub order_behind : ℕ → List Record → List ℕ
order_behind U rs = cond (is_order (second rs)) (drop 1 (second rs)) (default_bytes U)

-- what the start says, and the length to the end of the first kind 4, 0 if there is none
unfoldable pub heading_of : List Record → Heading
heading_of rs = record { route = route_of rs; unknowns = unknowns_of rs; givens = givens_of rs; used = cond (has_end rs) (length (bytes rs)) 0 }

-- whether a verdict is 'none', and in which state
abbrev pub said : {A : Type 0} → Said A → Verdict
said (solved a) = verdicts.Solved
said (none state) = verdicts.None state
