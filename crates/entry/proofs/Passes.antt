-- What it means that each of the questions 10, 11, 1, 2, 12, 17, 22 and 23 is answered yes, as reading and audit put them (`calls`).
-- Assumes nothing.
use mathlib.Core.Path.{◌≡◌}
use mathlib.Core.Bool.{true}
use mathlib.Core.List.{List}
use Prim.Native.Nat.{◌+◌}
use Rattle.ring.specs.Table.{present}
use Rattle.tables.specs.Questions.{letters_fit}
use Rattle.solution.specs.Fact.{has_no_unknown, some_state_counts}
use Rattle.solution.specs.Order.{order_fits}
use Rattle.entry.specs.Record.{Record}
use Rattle.entry.specs.Held.{route_of, unknowns_of, givens_of, order_in, held_condition}
use Rattle.entry.specs.Questions.{route_fits, has_end, kinds_fit, numbers_fit}

pub record Passes (rs : List Record) : Type 0 where
  pub whole : has_end rs ≡ true
  pub kinds : kinds_fit rs ≡ true
  pub letters : letters_fit (unknowns_of rs) (givens_of rs) ≡ true
  pub route : route_fits (route_of rs) ≡ true
  pub numbers : numbers_fit rs ≡ true
  pub order : order_fits (unknowns_of rs) (order_in rs) ≡ true
  pub fact_letters : has_no_unknown (unknowns_of rs) (unknowns_of rs + givens_of rs) (present (held_condition rs).fact) ≡ true
  pub fact_states : some_state_counts (unknowns_of rs) (givens_of rs) (present (held_condition rs).fact) ≡ true
