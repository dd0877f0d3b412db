-- Named design states (document 02, C-12): a session, and what each step makes of it. 'each step takes the session and hands back the session
-- after it', whatever it is handed. A table has 1,024 bytes of room, of which the first 2 ^ n count, n being U + G.
-- Assumes nothing.
use Rattle.std.specs.Prelude.{true, false, cond, List, [], ◌∷◌, ◌++◌, ℕ, ◌+◌, ◌-◌, ◌^◌, get_or, set, drop, replicate, Result, Ok, Err}
use Rattle.ring.specs.Table.{present, table}
use Rattle.ring.specs.Join.{join}
use Rattle.tables.specs.declared.Question.{Question}
use Rattle.tables.specs.Questions.{Asked, asks_giving}
use Rattle.calls.specs.Questions.{start_questions, add_questions, mark_questions, return_questions}
use Rattle.session.specs.declared.Mark.{Mark}
use Rattle.session.specs.declared.Session.{Session}
use Rattle.session.specs.declared.Step.{Step}

-- ---- the session
-- 'the empty table'
unfoldable pub empty_table : List ℕ
empty_table = replicate 1024 0

-- a name that is not marked
unfoldable pub unmarked : Mark
unmarked = record { set = false; table = empty_table }

-- 'The session starts with a U and G .. and the empty table'; no name is marked
unfoldable pub new_session : ℕ → ℕ → Session
new_session U G = record { unknowns = U; givens = G; table = empty_table; marks = unmarked ∷ unmarked ∷ unmarked ∷ unmarked ∷ [] }

-- n: the number of letters
abbrev pub width : Session → ℕ
width s = s.unknowns + s.givens

-- what stands under the name of a byte, `A` being 65; behind `D` nothing does
unfoldable pub under : Session → ℕ → Mark
under s name = get_or s.marks (name - 65) (record { set = false; table = [] })

-- 'those of marked names'
unfoldable pub marked_tables : List Mark → List (List ℕ)
marked_tables [] = []
marked_tables (m ∷ ms) = cond m.set (m.table ∷ marked_tables ms) (marked_tables ms)

-- the tables that question 8 goes to: 'its present table and those of marked names'
abbrev pub asked_tables : Session → List (List ℕ)
asked_tables s = s.table ∷ marked_tables s.marks

-- the session with another present table
abbrev pub with_table : Session → List ℕ → Session
with_table s t = record { unknowns = s.unknowns; givens = s.givens; table = t; marks = s.marks }

-- ---- the steps that are not refused
-- 'Adding a table h .. turns f into f + h + f*h'; what stands behind 2 ^ n bytes stays
unfoldable pub added : Session → List ℕ → Session
added s h = with_table s (table (width s) (join (width s) (present s.table) (present h)) ++ drop (2 ^ width s) s.table)

-- 'Marking stores the present list of added conditions under the name, over any earlier one': its table
unfoldable pub marked : Session → ℕ → Session
marked s name =
    record {
      unknowns = s.unknowns;
      givens = s.givens;
      table = s.table;
      marks = set s.marks (name - 65) (record { set = true; table = s.table });
    }

-- 'Returning makes the stored list the present one and keeps all marks'
unfoldable pub returned : Session → ℕ → Session
returned s name = with_table s (under s name).table

-- ---- the steps
-- what a step answers that puts these questions: done, or the first that is answered no
unfoldable pub outcome_of : List Asked → Result Unit Question
outcome_of [] = Ok tt
outcome_of (asks_giving question answer given ∷ rest) = cond answer (outcome_of rest) (Err question)

-- the step with this outcome: done with the session `after` it, or refused with the one `before` it
unfoldable pub stepped : Result Unit Question → Session → Session → Step
stepped (Ok done) after before = record { session = after; outcome = Ok done }
stepped (Err question) after before = record { session = before; outcome = Err question }

-- 'a refused start hands back the new session of U = 0 and G = 0'
abbrev pub start_step : ℕ → ℕ → Step
start_step U G = stepped (outcome_of (start_questions U G)) (new_session U G) (new_session 0 0)

-- 'a refused step changes nothing'
abbrev pub add_step : Session → List ℕ → Step
add_step s h = stepped (outcome_of (add_questions s.unknowns s.givens (asked_tables s) h)) (added s h) s

abbrev pub mark_step : Session → ℕ → Step
mark_step s name = stepped (outcome_of (mark_questions s.unknowns s.givens (asked_tables s) name)) (marked s name) s

abbrev pub return_step : Session → ℕ → Step
return_step s name =
    stepped (outcome_of (return_questions s.unknowns s.givens (asked_tables s) name (under s name).set)) (returned s name) s
