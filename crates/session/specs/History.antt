-- What a list of steps leaves behind (document 02, C-12): the session after it, by the contracts of the calls, and the lists of added
-- conditions 'as the history defines it', by document 02's words alone. `proofs/History.antt` shows that the session holds their tables.
-- Assumes nothing.
use Rattle.std.specs.Prelude.{Bool, true, false, not, ◌&&◌, cond, List, [], ◌∷◌, ◌++◌, map, ℕ, ◌-◌, ◌+◌, ◌^◌, eqb, length, replicate}
use Rattle.ring.specs.Table.{present, table}
use Rattle.ring.specs.Join.{joined}
use Rattle.tables.specs.declared.Question.TheVariants.{Name, Marked}
use Rattle.tables.specs.Questions.{Asked, asks, reads, has_room, holds_bits, buffer_questions}
use Rattle.calls.specs.Questions.{is_name}
use Rattle.session.specs.declared.Mark.{Mark}
use Rattle.session.specs.declared.Session.{Session}
use Rattle.session.specs.declared.Step.{Step}
use Rattle.session.specs.Session.{unmarked, start_step, add_step, mark_step, return_step}

-- 'adds conditions one by one, marks a state as A, B, C or D, tries something and returns'
pub data Action : Type 0 where
  adds : List ℕ → Action
  marks : ℕ → Action
  returns : ℕ → Action

-- 'every list of these steps', the latest at its head
abbrev pub History : Type 0
History = List Action

-- ---- the session after a history
-- what a step makes of the session that it is handed: the contracts of the three methods
abbrev pub step_from : Session → Action → Step
step_from s (adds h) = add_step s h
step_from s (marks name) = mark_step s name
step_from s (returns name) = return_step s name

-- 'from a new session'
unfoldable pub session_after : ℕ → ℕ → History → Session
session_after U G [] = (start_step U G).session
session_after U G (action ∷ before) = (step_from (session_after U G before) action).session

-- ---- the lists of added conditions, the last added at the head, over n letters
-- what stands under a name: nothing, or a list
pub data Stored : Type 0 where
  nothing : Stored
  stored : List (List ℕ) → Stored

-- the stored list, or the other where there is none
abbrev pub or_else : Stored → List (List ℕ) → List (List ℕ)
or_else nothing other = other
or_else (stored list) other = list

-- a table that may be added, 'under 4 and 8'
unfoldable pub is_condition : ℕ → List ℕ → Bool
is_condition n h = has_room (2 ^ n) (length h) && holds_bits (2 ^ n) h

unfoldable mutual
  -- the present list: adding puts a condition to it, 'Returning makes the stored list the present one', 'a refused step changes nothing'
  pub present_list : ℕ → History → List (List ℕ)
  present_list n [] = []
  present_list n (adds h ∷ before) = cond (is_condition n h) (h ∷ present_list n before) (present_list n before)
  present_list n (marks name ∷ before) = present_list n before
  present_list n (returns name ∷ before) = or_else (list_under n name before) (present_list n before)

  -- the list under a name: 'Marking stores the present list of added conditions under the name, over any earlier one'; returning 'keeps all
  -- marks'
  pub list_under : ℕ → ℕ → History → Stored
  list_under n name [] = nothing
  list_under n name (adds h ∷ before) = list_under n name before
  list_under n name (marks x ∷ before) = cond (is_name x && eqb x name) (stored (present_list n before)) (list_under n name before)
  list_under n name (returns x ∷ before) = list_under n name before

-- no step of the list marks the name x
unfoldable pub leaves_mark : ℕ → History → Bool
leaves_mark x [] = true
leaves_mark x (adds h ∷ before) = leaves_mark x before
leaves_mark x (marks name ∷ before) = not (eqb name x) && leaves_mark x before
leaves_mark x (returns name ∷ before) = leaves_mark x before

-- is a list stored?
abbrev pub is_stored : Stored → Bool
is_stored nothing = false
is_stored (stored list) = true

-- the questions that a history leaves to a step behind it: the session that it made passes its own
unfoldable pub history_questions : ℕ → History → Action → List Asked
history_questions n before (adds h) = buffer_questions (reads (2 ^ n) h ∷ [])
history_questions n before (marks name) = asks Name (is_name name) ∷ []
history_questions n before (returns name) = asks Name (is_name name) ∷ asks Marked (is_stored (list_under n name before)) ∷ []

-- ---- the session that holds the tables of lists
-- the table of a list, its conditions joined, in a room of 1,024 bytes
unfoldable pub list_table : ℕ → List (List ℕ) → List ℕ
list_table n list = table n (joined n (map present list)) ++ replicate (1024 - 2 ^ n) 0

-- what stands under a name
unfoldable pub mark_of : ℕ → Stored → Mark
mark_of n nothing = unmarked
mark_of n (stored list) = record { set = true; table = list_table n list }

-- U, G, 'the table .. of the present list as the history defines it', and under each name that of its list
unfoldable pub session_of : ℕ → ℕ → History → Session
session_of U G history =
    record {
      unknowns = U;
      givens = G;
      table = list_table (U + G) (present_list (U + G) history);
      marks = map (λ (name : ℕ). mark_of (U + G) (list_under (U + G) name history)) (65 ∷ 66 ∷ 67 ∷ 68 ∷ []);
    }
