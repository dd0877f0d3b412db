-- The starred rows of the bench table (document 01, 'Bench table'), from the condition's table on.
-- Bytes go by masks: 1, u, v, u*v for two unknowns; 1, u, a, u*a for one unknown and one given; 1, u, a, u*a, b, u*b, a*b, u*a*b for one more given.
-- Assumes nothing.
use Rattle.std.specs.Prelude.{◌≡◌, List, [], ◌∷◌, ℕ}
use Rattle.solution.specs.Condition.{Condition, under_fact, ordered, condition_of}
use Rattle.solution.specs.Elimination.{lowenheim_table, Verdict, solved, none, solve}

-- what a row says of the engine's own Löwenheim answer
pub data Stated : Type 0 where
  nothing : Stated
  the_table : List ℕ → Stated

-- a row: the condition, Boole's verdict, and Löwenheim's answer where the row gives it
pub record Row : Type 0 where
  pub condition : Condition
  pub verdict : Verdict (List ℕ)
  pub lowenheim : Stated

unfoldable pub starred_rows : List Row
starred_rows =
    -- (0,0) `0`: solved, no answers
    record { condition = condition_of 0 0 (0 ∷ []); verdict = solved []; lowenheim = nothing }
    -- (0,0) `1`: none, state 0
    ∷ record { condition = condition_of 0 0 (1 ∷ []); verdict = none (record { 0 = 0 }); lowenheim = nothing }
    -- (1,0) `u`: u = 0
    ∷ record { condition = condition_of 1 0 (0 ∷ 1 ∷ []); verdict = solved (0 ∷ 0 ∷ []); lowenheim = nothing }
    -- (1,0) `!u`: u = 1
    ∷ record { condition = condition_of 1 0 (1 ∷ 1 ∷ []); verdict = solved (1 ∷ 0 ∷ []); lowenheim = nothing }
    -- (2,0) `u+v`: u = v, v = v; Löwenheim gives u*v for both
    ∷ record {
      condition = condition_of 2 0 (0 ∷ 1 ∷ 1 ∷ 0 ∷ []);
      verdict = solved (0 ∷ 0 ∷ 1 ∷ 0 ∷ 0 ∷ 0 ∷ 1 ∷ 0 ∷ []);
      lowenheim = the_table
          (0 ∷ 0 ∷ 0 ∷ 1 ∷ 0 ∷ 0 ∷ 0 ∷ 1 ∷ []);
    }
    -- (2,0) `u*v`: u = u + u*v, v = v
    ∷ record {
      condition = condition_of 2 0 (0 ∷ 0 ∷ 0 ∷ 1 ∷ []);
      verdict = solved
          (0 ∷ 1 ∷ 0 ∷ 1 ∷ 0 ∷ 0 ∷ 1 ∷ 0 ∷ []);
      lowenheim = nothing;
    }
    -- (2,0) `u+v+1`: u = 1 + v, v = v; Löwenheim u = 1 + v + u*v, v = v + u*v
    ∷ record {
      condition = condition_of 2 0 (1 ∷ 1 ∷ 1 ∷ 0 ∷ []);
      verdict = solved (1 ∷ 0 ∷ 1 ∷ 0 ∷ 0 ∷ 0 ∷ 1 ∷ 0 ∷ []);
      lowenheim = the_table
          (1 ∷ 0 ∷ 1 ∷ 1 ∷ 0 ∷ 0 ∷ 1 ∷ 1 ∷ []);
    }
    -- (1,1) `u+a`: u = a
    ∷ record { condition = condition_of 1 1 (0 ∷ 1 ∷ 1 ∷ 0 ∷ []); verdict = solved (0 ∷ 0 ∷ 1 ∷ 0 ∷ []); lowenheim = nothing }
    -- (1,1) `a`: none, state 1
    ∷ record { condition = condition_of 1 1 (0 ∷ 0 ∷ 1 ∷ 0 ∷ []); verdict = none (record { 0 = 1 }); lowenheim = nothing }
    -- (1,2) `a*u+b*u+b`: none, state 3
    ∷ record { condition = condition_of 1 2 (0 ∷ 0 ∷ 0 ∷ 1 ∷ 1 ∷ 1 ∷ 0 ∷ 0 ∷ []); verdict = none (record { 0 = 3 }); lowenheim = nothing }
    -- (2,0) `(v+1)*(u+v)+(v+1)*u`: empty table, u = u, v = v
    ∷ record {
      condition = condition_of 2 0 (0 ∷ 0 ∷ 0 ∷ 0 ∷ []);
      verdict = solved
          (0 ∷ 1 ∷ 0 ∷ 0 ∷ 0 ∷ 0 ∷ 1 ∷ 0 ∷ []);
      lowenheim = nothing;
    }
    ∷ []

-- two rows more, for slips that the starred ones let pass: a later answer that is not its own parameter, and more than one blocked state
unfoldable pub further_rows : List Row
further_rows =
    -- (2,0) `u|v`: u = 0, v = 0; Löwenheim gives 0 for both
    record {
      condition = condition_of 2 0 (0 ∷ 1 ∷ 1 ∷ 1 ∷ []);
      verdict = solved (0 ∷ 0 ∷ 0 ∷ 0 ∷ 0 ∷ 0 ∷ 0 ∷ 0 ∷ []);
      lowenheim = the_table
          (0 ∷ 0 ∷ 0 ∷ 0 ∷ 0 ∷ 0 ∷ 0 ∷ 0 ∷ []);
    }
    -- (0,2) `a`: none, state 1 (and 3 is blocked too)
    ∷ record { condition = condition_of 0 2 (0 ∷ 1 ∷ 0 ∷ 0 ∷ []); verdict = none (record { 0 = 1 }); lowenheim = nothing }
    ∷ []

-- 'The designer picks which unknown goes first' (document 02, C-11): other answers under another order, and the same state
unfoldable pub order_rows : List Row
order_rows =
    -- (2,0) `u*v`, u first: u = u + u*v, v = v
    record {
      condition = ordered 2 0 (0 ∷ 1 ∷ []) (0 ∷ 0 ∷ 0 ∷ 1 ∷ []);
      verdict = solved
          (0 ∷ 1 ∷ 0 ∷ 1 ∷ 0 ∷ 0 ∷ 1 ∷ 0 ∷ []);
      lowenheim = nothing;
    }
    -- (2,0) `u*v`, v first: u = u, v = v + u*v
    ∷ record {
      condition = ordered 2 0 (1 ∷ 0 ∷ []) (0 ∷ 0 ∷ 0 ∷ 1 ∷ []);
      verdict = solved
          (0 ∷ 1 ∷ 0 ∷ 0 ∷ 0 ∷ 0 ∷ 1 ∷ 1 ∷ []);
      lowenheim = nothing;
    }
    -- (2,0) `u+v+1`, v first: u = u, v = 1 + u; Löwenheim u = u + u*v, v = 1 + u + u*v
    ∷ record {
      condition = ordered 2 0 (1 ∷ 0 ∷ []) (1 ∷ 1 ∷ 1 ∷ 0 ∷ []);
      verdict = solved (0 ∷ 1 ∷ 0 ∷ 0 ∷ 1 ∷ 1 ∷ 0 ∷ 0 ∷ []);
      lowenheim = the_table (0 ∷ 1 ∷ 0 ∷ 1 ∷ 1 ∷ 1 ∷ 0 ∷ 1 ∷ []);
    }
    -- (2,1) `a`, v first: none, state 1, as with u first
    ∷ record {
      condition = ordered 2 1 (1 ∷ 0 ∷ []) (0 ∷ 0 ∷ 0 ∷ 0 ∷ 1 ∷ 0 ∷ 0 ∷ 0 ∷ []);
      verdict = none
          (record { 0 = 1 });
      lowenheim = nothing;
    }
    ∷ []

-- 'count only states where g is 0' (document 02, C-16): the document's row, and states of which some do not count
unfoldable pub fact_rows : List Row
fact_rows =
    -- (1,2) `a*u+b*u+b`, a*b never: 'u = b + u + a*b + a*u + b*u', and Löwenheim gives the same
    record {
      condition = under_fact 1 2 (0 ∷ []) (0 ∷ 0 ∷ 0 ∷ 0 ∷ 0 ∷ 0 ∷ 1 ∷ 0 ∷ []) (0 ∷ 0 ∷ 0 ∷ 1 ∷ 1 ∷ 1 ∷ 0 ∷ 0 ∷ []);
      verdict = solved (0 ∷ 1 ∷ 0 ∷ 1 ∷ 1 ∷ 1 ∷ 1 ∷ 0 ∷ []);
      lowenheim = the_table (0 ∷ 1 ∷ 0 ∷ 1 ∷ 1 ∷ 1 ∷ 1 ∷ 0 ∷ []);
    }
    -- (0,2) `a|b`, a never: none, state 2; states 1 and 3, in which a is 1, do not count
    ∷ record {
      condition = under_fact 0 2 [] (0 ∷ 1 ∷ 0 ∷ 0 ∷ []) (0 ∷ 1 ∷ 1 ∷ 1 ∷ []);
      verdict = none (record { 0 = 2 });
      lowenheim = nothing;
    }
    -- (0,2) `a*b`, a never: solved, no answers
    ∷ record { condition = under_fact 0 2 [] (0 ∷ 1 ∷ 0 ∷ 0 ∷ []) (0 ∷ 0 ∷ 0 ∷ 1 ∷ []); verdict = solved []; lowenheim = nothing }
    -- (1,1) `u+a`, a never: u = u*a; without the fact it is u = a
    ∷ record {
      condition = under_fact 1 1 (0 ∷ []) (0 ∷ 0 ∷ 1 ∷ 0 ∷ []) (0 ∷ 1 ∷ 1 ∷ 0 ∷ []);
      verdict = solved (0 ∷ 0 ∷ 0 ∷ 1 ∷ []);
      lowenheim = nothing;
    }
    ∷ []

-- what would be said of tables that are no facts, and so are refused: why 22 and 23 are asked
unfoldable pub no_fact_rows : List Row
no_fact_rows =
    -- (1,0) `1`, 1 never: 'solved', for no state counts (23)
    record { condition = under_fact 1 0 (0 ∷ []) (1 ∷ 0 ∷ []) (1 ∷ 0 ∷ []); verdict = solved (0 ∷ 1 ∷ []); lowenheim = nothing }
    -- (1,0) `u`, u never: u = u, though u has to be 0 (22)
    ∷ record { condition = under_fact 1 0 (0 ∷ []) (0 ∷ 1 ∷ []) (0 ∷ 1 ∷ []); verdict = solved (0 ∷ 1 ∷ []); lowenheim = nothing }
    ∷ []

-- the own Löwenheim answer is the one stated, if one is
abbrev pub LowenheimIs : Condition → Stated → Type 0
LowenheimIs c nothing = Unit {0}
LowenheimIs c (the_table t) = lowenheim_table c ≡ t

-- the row holds: Boole's verdict is the row's, and so is Löwenheim's answer
pub record RowHolds (r : Row) : Type 0 where
  pub boole : solve r.condition ≡ r.verdict
  pub own : LowenheimIs r.condition r.lowenheim

infixr 20 ◌also◌
-- every row of a list holds
pub data AllHold : List Row → Type 0 where
  end : AllHold []
  ◌also◌ : {r : Row} {rows : List Row} → RowHolds r → AllHold rows → AllHold (r ∷ rows)
