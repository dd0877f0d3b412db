-- Sessions by computation (document 02, C-12), over one unknown u, mask 1, and one given a, mask 2: tables after histories, where marks go,
-- and the first no.
-- Assumes nothing.
use mathlib.Core.Path.{◌≡◌, refl}
use mathlib.Core.Bool.{true, false}
use mathlib.Core.List.{List, [], ◌∷◌, ◌++◌, map}
use Prim.Native.Nat.{ℕ}
use lib.ListN.{replicate}
use Rattle.ring.specs.Polynomial.{count, odd, sum, product}
use Rattle.ring.specs.Table.{present, tabulate, table}
use Rattle.ring.specs.Join.{join}
use Rattle.std.specs.Prelude.{Result, Ok, Err}
use Rattle.tables.specs.declared.Question.{Question}
use Rattle.tables.specs.declared.Question.TheVariants.{Letters, Room, Bits, Name, Marked}
use Rattle.tables.specs.Questions.{letters_fit, has_room, are_bits, holds_bits, room_questions, bit_questions, buffer_questions}
use Rattle.calls.specs.Questions.{start_questions, session_questions, add_questions, is_name, mark_questions, return_questions}
use Rattle.session.specs.declared.Mark.{Mark}
use Rattle.session.specs.declared.Session.{Session}
use Rattle.session.specs.Session.{empty_table, unmarked, new_session, under, marked_tables, added, marked, returned, outcome_of, stepped, start_step}
use Rattle.session.specs.History.{Action, adds, marks, returns, step_from, session_after}

-- the tables of u and of a, and that of u + a + u*a
abbrev pub u : List ℕ
u = 0 ∷ 1 ∷ 0 ∷ 0 ∷ []

abbrev pub a : List ℕ
a = 0 ∷ 0 ∷ 1 ∷ 0 ∷ []

abbrev pub u_or_a : List ℕ
u_or_a = 0 ∷ 1 ∷ 1 ∷ 1 ∷ []

-- a table in its room of 1,024 bytes, and a name that is marked with it
abbrev pub room : List ℕ → List ℕ
room t = t ++ replicate 1020 0

abbrev pub marked_with : List ℕ → Mark
marked_with t = record { set = true; table = room t }

-- ---- histories, the latest step first
pub tables_after : ((session_after 1 1 (adds a ∷ adds u ∷ [])).table ≡ room u_or_a)
    × ((session_after 1 1 (adds u ∷ adds a ∷ [])).table ≡ room u_or_a)
    × ((session_after 1 1 (adds u ∷ adds u ∷ [])).table ≡ room u)
    × ((session_after 1 1 (returns 65 ∷ adds a ∷ marks 65 ∷ adds u ∷ [])).table ≡ room u)
unfolding session_after stepped outcome_of start_questions letters_fit new_session empty_table unmarked add_questions mark_questions return_questions
    is_name session_questions bit_questions buffer_questions room_questions has_room holds_bits are_bits marked_tables added marked returned under
    table tabulate join sum product odd count present
tables_after = (refl, refl, refl, refl)

-- A stands at place 0 and D at place 3; the other names stay unmarked; the latest mark counts
pub marks_after : ((session_after 1 1 (marks 65 ∷ adds u ∷ [])).marks ≡ marked_with u ∷ unmarked ∷ unmarked ∷ unmarked ∷ [])
    × ((session_after 1 1 (marks 68 ∷ adds u ∷ [])).marks ≡ unmarked ∷ unmarked ∷ unmarked ∷ marked_with u ∷ [])
    × ((session_after 1 1 (marks 65 ∷ adds a ∷ marks 65 ∷ adds u ∷ [])).marks ≡ marked_with u_or_a ∷ unmarked ∷ unmarked ∷ unmarked ∷ [])
unfolding session_after stepped outcome_of start_questions letters_fit new_session empty_table unmarked add_questions mark_questions is_name
    session_questions bit_questions buffer_questions room_questions has_room holds_bits are_bits marked_tables added marked table tabulate join sum
    product odd count present
marks_after = (refl, refl, refl)

-- ---- answers
-- what a session answers to each of some steps
abbrev pub answers : Session → List Action → List (Result Unit Question)
answers s actions = map (λ action. (step_from s action).outcome) actions

-- a session with so many unknowns, this present table, and what stands under A
abbrev pub session_with : ℕ → List ℕ → Mark → Session
session_with U t m = record { unknowns = U; givens = 1; table = room t; marks = m ∷ unmarked ∷ unmarked ∷ unmarked ∷ [] }

-- a table whose first byte is no bit
abbrev pub two : List ℕ
two = 2 ∷ 0 ∷ 0 ∷ 0 ∷ []

-- names behind D, not marked, before A, and right; tables of three bytes, with a byte 2, and with one behind the four that count
pub new_answers : (answers (new_session 1 1) (returns 69 ∷ returns 65 ∷ marks 64 ∷ marks 68 ∷ [])
    ≡ Err Name ∷ Err Marked ∷ Err Name ∷ Ok tt ∷ [])
    × (answers (new_session 1 1) (adds (2 ∷ 0 ∷ 0 ∷ []) ∷ adds two ∷ adds (u ++ two) ∷ []) ≡ Err Room ∷ Err Bits ∷ Ok tt ∷ [])
unfolding stepped outcome_of letters_fit new_session empty_table unmarked add_questions mark_questions return_questions is_name session_questions
    bit_questions buffer_questions room_questions has_room holds_bits are_bits marked_tables under
new_answers = (refl, refl)

-- the session's own 8 comes before 18, for its present table and a marked name's and not for an unmarked name's; its own 1 comes before 8
pub own_answers : (answers (session_with 1 two unmarked) (marks 69 ∷ []) ≡ Err Bits ∷ [])
    × (answers (session_with 1 u (marked_with two)) (marks 69 ∷ []) ≡ Err Bits ∷ [])
    × (answers (session_with 1 u (record { set = false; table = room two })) (marks 69 ∷ []) ≡ Err Name ∷ [])
    × (answers (session_with 7 two unmarked) (adds u ∷ marks 65 ∷ returns 65 ∷ []) ≡ Err Letters ∷ Err Letters ∷ Err Letters ∷ [])
unfolding stepped outcome_of letters_fit unmarked add_questions mark_questions return_questions is_name session_questions bit_questions holds_bits
    are_bits marked_tables
own_answers = (refl, refl, refl, refl)

-- 'a refused start hands back the new session of U = 0 and G = 0'
pub start_answers : (start_step 6 4 ≡ record { session = new_session 6 4; outcome = Ok tt })
    × (start_step 7 0 ≡ record { session = new_session 0 0; outcome = Err Letters })
unfolding stepped outcome_of letters_fit start_questions
start_answers = (refl, refl)
