-- Walks over the volume of document 01's sample sheet, whole, from other places and damaged, and over entries with an order or a fact,
-- right and wrong; which question comes first; and what the solving calls answer; by computation.
-- Assumes nothing.
use mathlib.Core.Path.{◌≡◌, refl}
use mathlib.Core.Bool.{false}
use mathlib.Core.List.{List, [], ◌∷◌, ◌++◌}
use Prim.Native.Nat.{ℕ}
use Rattle.ring.specs.Letters.{bit, point}
use Rattle.ring.specs.Polynomial.{count, odd, within, value, constant, letter, sum, product, restrict, monomial, substitute, every_below}
use Rattle.ring.specs.Table.{present, tabulate, table, held, answer_table, for_unknowns}
use Rattle.ring.specs.Lists.{listed, has, times}
use Rattle.ring.specs.Length.{monomial_count, total_count}
use Rattle.tables.specs.Questions.{first_no, letters_fit, has_room, are_bits, holds_bits, room_questions, bit_questions, buffer_questions, in_range}
use Rattle.tables.specs.Answered.{Reply, accepted, refused, reply, after, answered, call}
use Rattle.order.specs.Order.{letters, before}
use Rattle.solution.specs.Fact.{where_zero, has_no_unknown, value_in_state, some_state_counts}
use Rattle.solution.specs.Condition.{table_where_zero, default_order}
use Rattle.solution.specs.Order.{order_bytes, order_fits}
use Rattle.solution.specs.Elimination.{next_condition, remains, answer_from, boole_answers, lowenheim, smallest_below, blocked, smallest_blocked, is_zero}
use Rattle.solution.specs.Elimination.{handed_solves, solvable, boole_table, solve}
use Rattle.entry.specs.Record.{fields, widths, size, kind, from_low_first, bytes, among, value_in, value_of, body_fits, same_bytes}
use Rattle.entry.specs.Record.{is_default, is_needed, in_bounds}
use Rattle.entry.specs.Held.{next, until_end, first_records, records, has_monomial, fact_in, condition_in, answers_in, unless_none, held_condition}
use Rattle.entry.specs.Held.{order_in, held_verdict}
use Rattle.entry.specs.Questions.{route_fits, has_end, may_follow, kinds_follow, kinds_fit, all_in_bounds, stands_before, in_order, all_in_order}
use Rattle.entry.specs.Questions.{numbers_fit, answers_hold}
use Rattle.calls.specs.Questions.{value_questions, session_questions, add_questions, is_name, mark_questions, return_questions, mask_declared, derivative_questions}
use Rattle.calls.specs.Questions.{fact_questions, solving_questions, handed_questions, write_questions, record_questions, entry_questions, audit_questions}
use Rattle.calls.specs.Questions.{route_rises, walk_questions}
use Rattle.calls.specs.Solving.{handed_table, handed_call}
use Rattle.calls.specs.Walk.{walk_at_most, walk_behind, walk_reply}

-- `u+v` with u = v and v = v, but for its end
abbrev pub body : ℕ → List ℕ
body route = 1 ∷ route ∷ 2 ∷ 0 ∷ 2 ∷ 1 ∷ 0 ∷ 2 ∷ 2 ∷ 0 ∷ 3 ∷ 0 ∷ 2 ∷ 0 ∷ 3 ∷ 1 ∷ 2 ∷ 0 ∷ []

-- the sample sheet's entries: its first, for any route, and its second, `a` with 'none' and the state 1, for any route and state
abbrev pub solved_entry : ℕ → List ℕ
solved_entry route = body route ++ (4 ∷ route ∷ [])

abbrev pub none_entry : ℕ → ℕ → List ℕ
none_entry route state = 1 ∷ route ∷ 1 ∷ 1 ∷ 2 ∷ 2 ∷ 0 ∷ 5 ∷ state ∷ 4 ∷ route ∷ []

-- the first with one monomial more in the answer for u
abbrev pub more_entry : ℕ → List ℕ
more_entry route = 1 ∷ route ∷ 2 ∷ 0 ∷ 2 ∷ 1 ∷ 0 ∷ 2 ∷ 2 ∷ 0 ∷ 3 ∷ 0 ∷ 1 ∷ 0 ∷ 3 ∷ 0 ∷ 2 ∷ 0 ∷ 3 ∷ 1 ∷ 2 ∷ 0 ∷ 4 ∷ route ∷ []

-- `u*v` with some records between the start and its monomial, and the answers u = u and v = v + u*v of v first
abbrev pub ordered_entry : List ℕ → List ℕ
ordered_entry between =
    1 ∷ 9 ∷ 2 ∷ 0 ∷ (between ++ (2 ∷ 3 ∷ 0 ∷ 3 ∷ 0 ∷ 1 ∷ 0 ∷ 3 ∷ 1 ∷ 2 ∷ 0 ∷ 3 ∷ 1 ∷ 3 ∷ 0 ∷ 4 ∷ 9 ∷ []))

-- a kind 6 with these two in front
abbrev pub order_of_lem : ℕ → ℕ → List ℕ
order_of_lem x y = 6 ∷ x ∷ y ∷ 255 ∷ 255 ∷ 255 ∷ 255 ∷ []

-- `a*u+b*u+b` with some records between the start and its monomials, and the answer u = u + b + a*u + b*u + a*b under the fact a*b
abbrev pub fact_entry : List ℕ → List ℕ
fact_entry between =
    1 ∷ 9 ∷ 1 ∷ 2
    ∷ (between
    ++ (2 ∷ 4 ∷ 0 ∷ 2 ∷ 3 ∷ 0 ∷ 2 ∷ 5 ∷ 0 ∷ 3 ∷ 0 ∷ 1 ∷ 0 ∷ 3 ∷ 0 ∷ 4 ∷ 0 ∷ 3 ∷ 0 ∷ 3 ∷ 0 ∷ 3 ∷ 0 ∷ 5 ∷ 0 ∷ 3 ∷ 0 ∷ 6 ∷ 0 ∷ 4 ∷ 9 ∷ []))

-- a kind 7
abbrev pub fact_of : ℕ → List ℕ
fact_of m = 7 ∷ m ∷ 0 ∷ []

-- `1` under the fact 1 + a, which leaves state 1, with 'none' and a state
abbrev pub none_under : ℕ → List ℕ
none_under state = 1 ∷ 9 ∷ 1 ∷ 1 ∷ 7 ∷ 0 ∷ 0 ∷ 7 ∷ 2 ∷ 0 ∷ 2 ∷ 0 ∷ 0 ∷ 5 ∷ state ∷ 4 ∷ 9 ∷ []

-- some bytes, a place in them, and what the walk from there answers
pub record Row : Type 0 where
  pub volume : List ℕ
  pub place : ℕ
  pub answer : Reply

infixr 20 ◌also◌
-- every row of a list holds
pub data AllHold : List Row → Type 0 where
  end : AllHold []
  ◌also◌ : {r : Row} {rows : List Row} → walk_reply r.volume r.place ≡ r.answer → AllHold rows → AllHold (r ∷ rows)

abbrev pub walks : List Row
walks =
    -- the whole volume, from its second entry on, from its end, from past it; and no bytes
    record { volume = solved_entry 7 ++ none_entry 8 1; place = 0; answer = accepted (2 ∷ []) }
    ∷ record { volume = solved_entry 7 ++ none_entry 8 1; place = 20; answer = accepted (1 ∷ []) }
    ∷ record { volume = solved_entry 7 ++ none_entry 8 1; place = 31; answer = accepted (0 ∷ []) }
    ∷ record { volume = solved_entry 7 ++ none_entry 8 1; place = 40; answer = accepted (0 ∷ []) }
    ∷ record { volume = []; place = 0; answer = accepted (0 ∷ []) }
    -- from the middle of an entry; the second without its end, the first without its end
    ∷ record { volume = solved_entry 7 ++ none_entry 8 1; place = 1; answer = refused 11 (0 ∷ []) }
    ∷ record { volume = solved_entry 7 ++ body 8; place = 0; answer = refused 10 (1 ∷ []) }
    ∷ record { volume = body 7 ++ none_entry 8 1; place = 0; answer = refused 11 (0 ∷ []) }
    -- another state, one monomial more, in the first entry and in the second
    ∷ record { volume = solved_entry 7 ++ none_entry 8 0; place = 0; answer = refused 13 (1 ∷ []) }
    ∷ record { volume = more_entry 7 ++ none_entry 8 1; place = 0; answer = refused 13 (0 ∷ []) }
    ∷ record { volume = none_entry 7 1 ++ more_entry 8; place = 0; answer = refused 13 (1 ∷ []) }
    -- routes that fall or are equal; 13 is asked before 15; the first entry walked always passes 15
    ∷ record { volume = solved_entry 8 ++ none_entry 7 1; place = 0; answer = refused 15 (1 ∷ []) }
    ∷ record { volume = solved_entry 8 ++ none_entry 8 1; place = 0; answer = refused 15 (1 ∷ []) }
    ∷ record { volume = solved_entry 8 ++ none_entry 8 0; place = 0; answer = refused 13 (1 ∷ []) }
    ∷ record { volume = solved_entry 8 ++ none_entry 7 1; place = 20; answer = accepted (1 ∷ []) }
    -- a route at the end that is not the start's, 'none' behind an answer, an unknown number that is U, a state that is 2 ^ G
    ∷ record { volume = body 7 ++ (4 ∷ 8 ∷ []); place = 0; answer = refused 11 (0 ∷ []) }
    ∷ record { volume = body 7 ++ (5 ∷ 0 ∷ 4 ∷ 7 ∷ []); place = 0; answer = refused 11 (0 ∷ []) }
    ∷ record { volume = body 7 ++ (3 ∷ 2 ∷ 2 ∷ 0 ∷ 4 ∷ 7 ∷ []); place = 0; answer = refused 12 (0 ∷ []) }
    ∷ record { volume = none_entry 7 2; place = 0; answer = refused 12 (0 ∷ []) }
    -- v first; the answers are not those of u first, without a kind 6, and a kind 6 must be left out for u first
    ∷ record { volume = ordered_entry (order_of_lem 1 0); place = 0; answer = accepted (1 ∷ []) }
    ∷ record { volume = ordered_entry []; place = 0; answer = refused 13 (0 ∷ []) }
    ∷ record { volume = ordered_entry (order_of_lem 0 1); place = 0; answer = refused 12 (0 ∷ []) }
    -- an unknown twice, 255 in the middle, a number that is no unknown's
    ∷ record { volume = ordered_entry (order_of_lem 1 1); place = 0; answer = refused 17 (0 ∷ []) }
    ∷ record { volume = ordered_entry (6 ∷ 1 ∷ 255 ∷ 0 ∷ 255 ∷ 255 ∷ 255 ∷ []); place = 0; answer = refused 17 (0 ∷ []) }
    ∷ record { volume = ordered_entry (order_of_lem 1 2); place = 0; answer = refused 17 (0 ∷ []) }
    -- 12 is asked before 17
    ∷ record { volume = ordered_entry (order_of_lem 1 1 ++ (2 ∷ 3 ∷ 0 ∷ [])); place = 0; answer = refused 12 (0 ∷ []) }
    -- twice, behind a monomial, cut short
    ∷ record { volume = ordered_entry (order_of_lem 1 0 ++ order_of_lem 1 0); place = 0; answer = refused 11 (0 ∷ []) }
    ∷ record { volume = ordered_entry (2 ∷ 0 ∷ 0 ∷ order_of_lem 1 0); place = 0; answer = refused 11 (0 ∷ []) }
    ∷ record { volume = 1 ∷ 9 ∷ 2 ∷ 0 ∷ 6 ∷ 1 ∷ 0 ∷ 255 ∷ 255 ∷ 255 ∷ []; place = 0; answer = refused 10 (0 ∷ []) }
    -- the fact a*b; without it, or with another, the answers are not those solved afresh
    ∷ record { volume = fact_entry (fact_of 6); place = 0; answer = accepted (1 ∷ []) }
    ∷ record { volume = fact_entry []; place = 0; answer = refused 13 (0 ∷ []) }
    ∷ record { volume = fact_entry (fact_of 2); place = 0; answer = refused 13 (0 ∷ []) }
    -- the smallest state that counts is named, and no state that does not
    ∷ record { volume = none_under 1; place = 0; answer = accepted (1 ∷ []) }
    ∷ record { volume = none_under 0; place = 0; answer = refused 13 (0 ∷ []) }
    -- a mask that is too large, out of order, twice; a fact with an unknown; one that is 1 in every state
    ∷ record { volume = fact_entry (fact_of 8); place = 0; answer = refused 12 (0 ∷ []) }
    ∷ record { volume = fact_entry (fact_of 6 ++ fact_of 2); place = 0; answer = refused 12 (0 ∷ []) }
    ∷ record { volume = fact_entry (fact_of 6 ++ fact_of 6); place = 0; answer = refused 12 (0 ∷ []) }
    ∷ record { volume = fact_entry (fact_of 7); place = 0; answer = refused 22 (0 ∷ []) }
    ∷ record { volume = fact_entry (fact_of 0); place = 0; answer = refused 23 (0 ∷ []) }
    -- 12 is asked before 22, 17 too, and 22 before 23
    ∷ record { volume = fact_entry (fact_of 1 ++ fact_of 1); place = 0; answer = refused 12 (0 ∷ []) }
    ∷ record { volume = ordered_entry (order_of_lem 1 1 ++ fact_of 1); place = 0; answer = refused 17 (0 ∷ []) }
    ∷ record { volume = fact_entry (fact_of 0 ++ fact_of 1); place = 0; answer = refused 22 (0 ∷ []) }
    -- behind a kind 6; behind a kind 2, before a kind 6, cut short
    ∷ record { volume = ordered_entry (order_of_lem 1 0 ++ fact_of 0); place = 0; answer = refused 23 (0 ∷ []) }
    ∷ record { volume = fact_entry (2 ∷ 0 ∷ 0 ∷ fact_of 6); place = 0; answer = refused 11 (0 ∷ []) }
    ∷ record { volume = ordered_entry (fact_of 0 ++ order_of_lem 1 0); place = 0; answer = refused 11 (0 ∷ []) }
    ∷ record { volume = 1 ∷ 9 ∷ 1 ∷ 2 ∷ 7 ∷ 6 ∷ []; place = 0; answer = refused 10 (0 ∷ []) }
    ∷ []

pub walks_hold : AllHold walks
unfolding times order_bytes order_fits order_in is_default is_needed walk_reply walk_behind walk_at_most walk_questions route_rises first_no letters_fit audit_questions entry_questions answers_hold same_bytes numbers_fit all_in_order in_order stands_before all_in_bounds in_bounds body_fits kinds_fit kinds_follow may_follow has has_end route_fits records first_records until_end next kind size fields widths value_of value_in from_low_first among bytes has_monomial condition_in answers_in unless_none held_condition held_verdict letters before table tabulate answer_table present solve boole_table solvable is_zero every_below remains next_condition product restrict odd count bit default_order listed boole_answers answer_from sum letter constant substitute monomial smallest_blocked smallest_below blocked point value within fact_questions has_no_unknown some_state_counts value_in_state table_where_zero where_zero record_questions fact_in
walks_hold = refl also refl also refl also refl also refl also refl also refl also refl also refl also refl also refl also refl also refl also refl also refl also refl also refl also refl also refl also refl also refl also refl also refl also refl also refl also refl also refl also refl also refl also refl also refl also refl also refl also refl also refl also refl also refl also refl also refl also refl also refl also refl also refl also refl also refl also refl also end

-- 17 is asked behind 1, behind 2 when writing, and before 4: of an order that has unknown 0 twice, and tables without bytes
abbrev no_order_lem : List ℕ
no_order_lem = 0 ∷ 0 ∷ 255 ∷ 255 ∷ 255 ∷ 255 ∷ []

pub order_asked : (first_no (solving_questions 7 0 no_order_lem [] [] 0) ≡ 1)
    × (first_no (solving_questions 2 0 no_order_lem [] [] 0) ≡ 17)
    × (first_no (write_questions 0 2 0 no_order_lem [] [] 0) ≡ 2)
    × (first_no (write_questions 7 2 0 no_order_lem [] [] 0) ≡ 17)
unfolding first_no solving_questions write_questions letters_fit route_fits order_fits times every_below
order_asked = (refl, refl, refl, refl)

-- u, the only unknown
abbrev u_alone : List ℕ
u_alone = 0 ∷ 255 ∷ 255 ∷ 255 ∷ 255 ∷ 255 ∷ []

-- 9 is asked last: of the table 1 with a byte above 1 behind it, which has no solution
pub solution_asked : (first_no (solving_questions 1 0 u_alone (0 ∷ 0 ∷ []) (1 ∷ 2 ∷ []) 2) ≡ 8)
    × (first_no (solving_questions 1 0 u_alone (0 ∷ 0 ∷ []) (1 ∷ 0 ∷ []) 2) ≡ 9)
unfolding first_no solving_questions letters_fit order_fits times every_below buffer_questions room_questions bit_questions has_room holds_bits are_bits solvable is_zero remains next_condition product restrict odd count bit present fact_questions has_no_unknown some_state_counts value_in_state table_where_zero where_zero table tabulate sum constant value within point
solution_asked = (refl, refl)

-- the fact is asked 4 and 8 with the condition, then 22 and then 23, before 9, 21 and 14: over one unknown and one given, of the facts u,
-- which is no fact, 1, which leaves no state, and 1 + a, which leaves state 1; the condition 1 has no solution there, and 1 + a is 0 there
pub fact_asked : (first_no (solving_questions 1 1 u_alone (2 ∷ 0 ∷ 0 ∷ []) (1 ∷ 0 ∷ 0 ∷ 0 ∷ []) 4) ≡ 4)
    × (first_no (solving_questions 1 1 u_alone (0 ∷ 1 ∷ 0 ∷ 2 ∷ []) (1 ∷ 0 ∷ 0 ∷ 0 ∷ []) 4) ≡ 8)
    × (first_no (solving_questions 1 1 u_alone (0 ∷ 1 ∷ 0 ∷ 0 ∷ []) (2 ∷ 0 ∷ 0 ∷ 0 ∷ []) 4) ≡ 8)
    × (first_no (solving_questions 1 1 u_alone (0 ∷ 1 ∷ 0 ∷ 0 ∷ []) (1 ∷ 0 ∷ 0 ∷ 0 ∷ []) 4) ≡ 22)
    × (first_no (solving_questions 1 1 u_alone (1 ∷ 0 ∷ 0 ∷ 0 ∷ []) (1 ∷ 0 ∷ 0 ∷ 0 ∷ []) 4) ≡ 23)
    × (first_no (solving_questions 1 1 u_alone (1 ∷ 0 ∷ 1 ∷ 0 ∷ []) (1 ∷ 0 ∷ 0 ∷ 0 ∷ []) 4) ≡ 9)
    × (first_no (solving_questions 1 1 u_alone (1 ∷ 0 ∷ 1 ∷ 0 ∷ []) (1 ∷ 0 ∷ 1 ∷ 0 ∷ []) 4) ≡ 0)
    × (first_no (handed_questions 1 1 (0 ∷ 1 ∷ 0 ∷ 0 ∷ []) (1 ∷ 0 ∷ 0 ∷ 0 ∷ []) (0 ∷ 0 ∷ 0 ∷ 0 ∷ []) 4) ≡ 22)
    × (first_no (handed_questions 1 1 (1 ∷ 0 ∷ 0 ∷ 0 ∷ []) (1 ∷ 0 ∷ 0 ∷ 0 ∷ []) (0 ∷ 0 ∷ 0 ∷ 0 ∷ []) 4) ≡ 23)
    × (first_no (handed_questions 1 1 (1 ∷ 0 ∷ 1 ∷ 0 ∷ []) (1 ∷ 0 ∷ 0 ∷ 0 ∷ []) (0 ∷ 0 ∷ 0 ∷ 0 ∷ []) 4) ≡ 21)
    × (first_no (handed_questions 1 1 (1 ∷ 0 ∷ 1 ∷ 0 ∷ []) (1 ∷ 0 ∷ 1 ∷ 0 ∷ []) (0 ∷ 0 ∷ 0 ∷ 0 ∷ []) 4) ≡ 0)
    × (first_no (write_questions 9 1 1 u_alone (0 ∷ 1 ∷ 0 ∷ 0 ∷ []) (1 ∷ 0 ∷ 0 ∷ 0 ∷ []) 0) ≡ 22)
    × (first_no (write_questions 9 1 1 u_alone (1 ∷ 0 ∷ 0 ∷ 0 ∷ []) (1 ∷ 0 ∷ 0 ∷ 0 ∷ []) 0) ≡ 23)
unfolding first_no solving_questions handed_questions write_questions fact_questions has_no_unknown some_state_counts value_in_state table_where_zero where_zero table tabulate sum constant product odd count present value within point every_below bit letters_fit buffer_questions room_questions bit_questions has_room holds_bits are_bits order_fits times route_fits solvable is_zero remains next_condition restrict handed_solves substitute monomial letter held for_unknowns
fact_asked = (refl, refl, refl, refl, refl, refl, refl, refl, refl, refl, refl, refl, refl)

-- the handed form over one unknown, of the condition u: 1 before 4, which goes to all buffers before 8 goes to both tables, and 21 last; 1 does
-- not make u zero, and 0 does
pub handed_asked : (first_no (handed_questions 7 0 [] [] [] 0) ≡ 1)
    × (first_no (handed_questions 1 0 (0 ∷ 0 ∷ []) (0 ∷ 2 ∷ []) (1 ∷ 0 ∷ []) 1) ≡ 4)
    × (first_no (handed_questions 1 0 (0 ∷ 0 ∷ []) (0 ∷ 2 ∷ []) (1 ∷ 0 ∷ []) 2) ≡ 8)
    × (first_no (handed_questions 1 0 (0 ∷ 0 ∷ []) (0 ∷ 1 ∷ []) (1 ∷ 2 ∷ []) 2) ≡ 8)
    × (first_no (handed_questions 1 0 (0 ∷ 0 ∷ []) (0 ∷ 1 ∷ []) (1 ∷ 0 ∷ []) 2) ≡ 21)
    × (first_no (handed_questions 1 0 (0 ∷ 0 ∷ []) (0 ∷ 1 ∷ []) (0 ∷ 0 ∷ []) 2) ≡ 0)
unfolding first_no handed_questions handed_solves is_zero every_below substitute monomial product odd count constant letter bit present held for_unknowns letters_fit buffer_questions room_questions bit_questions has_room holds_bits are_bits fact_questions has_no_unknown some_state_counts value_in_state table_where_zero where_zero table tabulate sum value within point
handed_asked = (refl, refl, refl, refl, refl, refl)

-- what the handed form answers, its total of monomials, and what it leaves in a buffer of sevens, by masks 1, u, a, u*a or 1, u, v, u*v
pub handed_answered :
    -- `u+a`: a gives u = a, and the byte behind the answers stays; 0, which solves in state 0 only, is refused, and changes nothing
    (handed_call 1 1 (0 ∷ 0 ∷ 0 ∷ 0 ∷ []) (0 ∷ 1 ∷ 1 ∷ 0 ∷ []) (0 ∷ 0 ∷ 1 ∷ 0 ∷ []) (7 ∷ 7 ∷ 7 ∷ 7 ∷ 7 ∷ [])
    ≡ answered (accepted (1 ∷ [])) ((0 ∷ 0 ∷ 1 ∷ 0 ∷ 7 ∷ []) ∷ []))
    × (handed_call 1 1 (0 ∷ 0 ∷ 0 ∷ 0 ∷ []) (0 ∷ 1 ∷ 1 ∷ 0 ∷ []) (0 ∷ 0 ∷ 0 ∷ 0 ∷ []) (7 ∷ 7 ∷ 7 ∷ 7 ∷ 7 ∷ [])
    ≡ answered (refused 21 []) ((7 ∷ 7 ∷ 7 ∷ 7 ∷ 7 ∷ []) ∷ []))
    -- `u+v`: v for both gives u = v, v = v; 1 for both gives u + v + u*v for both
    × (handed_call 2 0 (0 ∷ 0 ∷ 0 ∷ 0 ∷ []) (0 ∷ 1 ∷ 1 ∷ 0 ∷ []) (0 ∷ 0 ∷ 1 ∷ 0 ∷ 0 ∷ 0 ∷ 1 ∷ 0 ∷ []) (7 ∷ 7 ∷ 7 ∷ 7 ∷ 7 ∷ 7 ∷ 7 ∷ 7 ∷ [])
    ≡ answered (accepted (2 ∷ [])) ((0 ∷ 0 ∷ 1 ∷ 0 ∷ 0 ∷ 0 ∷ 1 ∷ 0 ∷ []) ∷ []))
    × (handed_call 2 0 (0 ∷ 0 ∷ 0 ∷ 0 ∷ []) (0 ∷ 1 ∷ 1 ∷ 0 ∷ []) (1 ∷ 0 ∷ 0 ∷ 0 ∷ 1 ∷ 0 ∷ 0 ∷ 0 ∷ []) (7 ∷ 7 ∷ 7 ∷ 7 ∷ 7 ∷ 7 ∷ 7 ∷ 7 ∷ [])
    ≡ answered (accepted (6 ∷ [])) ((0 ∷ 1 ∷ 1 ∷ 1 ∷ 0 ∷ 1 ∷ 1 ∷ 1 ∷ []) ∷ []))
    -- `a` is 'none'
    × (handed_call 1 1 (0 ∷ 0 ∷ 0 ∷ 0 ∷ []) (0 ∷ 0 ∷ 1 ∷ 0 ∷ []) (0 ∷ 0 ∷ 1 ∷ 0 ∷ []) (7 ∷ 7 ∷ 7 ∷ 7 ∷ []) ≡ answered (refused 21 []) ((7 ∷ 7 ∷ 7 ∷ 7 ∷ []) ∷ []))
    -- without letters: `0` and `1`
    × (handed_call 0 0 (0 ∷ []) (0 ∷ []) [] (7 ∷ []) ≡ answered (accepted (0 ∷ [])) ((7 ∷ []) ∷ []))
    × (handed_call 0 0 (0 ∷ []) (1 ∷ []) [] (7 ∷ []) ≡ answered (refused 21 []) ((7 ∷ []) ∷ []))
    -- `a*u+b*u+b`, by masks 1, u, a, u*a, b, u*b, a*b, u*a*b: under the fact a*b the handed b gives u + b + a*u + b*u + a*b, and without it is
    -- refused
    × (handed_call 1 2 (0 ∷ 0 ∷ 0 ∷ 0 ∷ 0 ∷ 0 ∷ 1 ∷ 0 ∷ []) (0 ∷ 0 ∷ 0 ∷ 1 ∷ 1 ∷ 1 ∷ 0 ∷ 0 ∷ []) (0 ∷ 0 ∷ 0 ∷ 0 ∷ 1 ∷ 0 ∷ 0 ∷ 0 ∷ [])
    (7 ∷ 7 ∷ 7 ∷ 7 ∷ 7 ∷ 7 ∷ 7 ∷ 7 ∷ []) ≡ answered (accepted (5 ∷ [])) ((0 ∷ 1 ∷ 0 ∷ 1 ∷ 1 ∷ 1 ∷ 1 ∷ 0 ∷ []) ∷ []))
    × (handed_call 1 2 (0 ∷ 0 ∷ 0 ∷ 0 ∷ 0 ∷ 0 ∷ 0 ∷ 0 ∷ []) (0 ∷ 0 ∷ 0 ∷ 1 ∷ 1 ∷ 1 ∷ 0 ∷ 0 ∷ []) (0 ∷ 0 ∷ 0 ∷ 0 ∷ 1 ∷ 0 ∷ 0 ∷ 0 ∷ [])
    (7 ∷ 7 ∷ 7 ∷ 7 ∷ 7 ∷ 7 ∷ 7 ∷ 7 ∷ []) ≡ answered (refused 21 []) ((7 ∷ 7 ∷ 7 ∷ 7 ∷ 7 ∷ 7 ∷ 7 ∷ 7 ∷ []) ∷ []))
unfolding call reply after total_count monomial_count handed_table lowenheim sum answer_table tabulate first_no handed_questions handed_solves is_zero every_below substitute monomial product odd count constant letter bit present held for_unknowns letters_fit buffer_questions room_questions bit_questions has_room holds_bits are_bits fact_questions has_no_unknown some_state_counts value_in_state table_where_zero where_zero table value within point
handed_answered = (refl, refl, refl, refl, refl, refl, refl, refl, refl)

-- sessions over one unknown: 1 before the session's own 8, that before 4 of an added table and before 18, and 18 before 19
pub session_asked : (first_no (add_questions 7 0 ((2 ∷ 0 ∷ []) ∷ []) []) ≡ 1)
    × (first_no (add_questions 1 0 ((0 ∷ 0 ∷ []) ∷ (0 ∷ 2 ∷ []) ∷ []) []) ≡ 8)
    × (first_no (add_questions 1 0 ((0 ∷ 0 ∷ 2 ∷ []) ∷ []) (2 ∷ [])) ≡ 4)
    × (first_no (mark_questions 1 0 ((2 ∷ 0 ∷ []) ∷ []) 69) ≡ 8)
    × (first_no (return_questions 1 0 ((0 ∷ 0 ∷ []) ∷ []) 69 false) ≡ 18)
    × (first_no (return_questions 1 0 ((0 ∷ 0 ∷ []) ∷ []) 68 false) ≡ 19)
unfolding first_no add_questions mark_questions return_questions session_questions is_name letters_fit buffer_questions room_questions bit_questions
    has_room holds_bits are_bits
session_asked = (refl, refl, refl, refl, refl, refl)

-- the derivative over one unknown: 1 before 4, which goes to both buffers before 8 goes to the table, and 20 last; mask 2 is no letter's
pub derivative_asked : (first_no (derivative_questions 7 0 [] 0 0) ≡ 1)
    × (first_no (derivative_questions 1 0 (2 ∷ []) 2 2) ≡ 4)
    × (first_no (derivative_questions 1 0 (2 ∷ 0 ∷ []) 2 1) ≡ 4)
    × (first_no (derivative_questions 1 0 (2 ∷ 0 ∷ []) 2 2) ≡ 8)
    × (first_no (derivative_questions 1 0 (1 ∷ 0 ∷ []) 2 2) ≡ 20)
    × (first_no (derivative_questions 1 0 (1 ∷ 0 ∷ []) 1 2) ≡ 0)
unfolding first_no derivative_questions mask_declared letters_fit buffer_questions room_questions bit_questions has_room holds_bits are_bits
derivative_asked = (refl, refl, refl, refl, refl, refl)

-- the value over one unknown: 16 last
pub value_asked : (first_no (value_questions 1 0 (2 ∷ []) (record { 0 = 0 }) (record { 0 = 2 })) ≡ 4)
    × (first_no (value_questions 1 0 (2 ∷ 0 ∷ []) (record { 0 = 0 }) (record { 0 = 2 })) ≡ 8)
    × (first_no (value_questions 1 0 (1 ∷ 0 ∷ []) (record { 0 = 0 }) (record { 0 = 2 })) ≡ 16)
unfolding first_no value_questions in_range letters_fit buffer_questions room_questions bit_questions has_room holds_bits are_bits
value_asked = (refl, refl, refl)
