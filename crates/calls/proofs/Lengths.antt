-- How long results are, and the shorter of two answer tables (document 02, C-17), by computation on literal tables: what each call gives and
-- leaves in buffers of sevens, by masks 1, u or 1, u, v, u*v; which question comes first; and which table is handed back.
-- Assumes nothing.
use mathlib.Core.Path.{◌≡◌, refl}
use mathlib.Core.Bool.{false}
use mathlib.Core.List.{List, [], ◌∷◌}
use Prim.Native.Nat.{ℕ}
use Rattle.ring.specs.Letters.{bit, point}
use Rattle.ring.specs.Polynomial.{count, odd, within, value, constant, letter, sum, product, restrict, monomial, substitute, every_below}
use Rattle.ring.specs.Table.{present, tabulate, table, held, answer_table, for_unknowns}
use Rattle.ring.specs.Lists.{listed, times}
use Rattle.ring.specs.Length.{monomial_count, total_count}
use Rattle.tables.specs.Questions.{first_no, letters_fit, has_room, are_bits, holds_bits, room_questions, bit_questions, buffer_questions}
use Rattle.tables.specs.Answered.{accepted, refused, reply, after, answered, call}
use Rattle.solution.specs.Substitution.{own_letters, put_in}
use Rattle.solution.specs.Fact.{where_zero, has_no_unknown, value_in_state, some_state_counts}
use Rattle.solution.specs.Condition.{table_where_zero}
use Rattle.solution.specs.Order.{order_fits}
use Rattle.solution.specs.Elimination.{next_condition, remains, answer_from, boole_answers, particular, lowenheim, own_lowenheim, smallest_below}
use Rattle.solution.specs.Elimination.{blocked, smallest_blocked, is_zero, solvable, boole_table, particular_table, lowenheim_table}
use Rattle.calls.specs.Questions.{pair_questions, substitute_questions, fact_questions, solving_questions, shorter_questions}
use Rattle.calls.specs.Operations.{sum_table, product_table, substitute_table, sum_call, product_call, substitute_call}
use Rattle.calls.specs.Solving.{boole_call, particular_call, lowenheim_call}
use Rattle.calls.specs.Shorter.{shorter_refusal, lowenheim_shorter, takes_lowenheim, part_length, shorter_part, which_shorter_call}

-- sum, product and substitution: equal monomials have gone when they are counted
pub lengths_made :
    -- 1 + u and u: 1 is left of three
    (sum_call 1 0 (1 ∷ 1 ∷ []) (0 ∷ 1 ∷ []) (7 ∷ 7 ∷ 7 ∷ []) ≡ answered (accepted (1 ∷ [])) ((1 ∷ 0 ∷ 7 ∷ []) ∷ []))
    -- 1 + u by itself is 1 + u, two of four pairs; by u it is 0
    × (product_call 1 0 (1 ∷ 1 ∷ []) (1 ∷ 1 ∷ []) (7 ∷ 7 ∷ []) ≡ answered (accepted (2 ∷ [])) ((1 ∷ 1 ∷ []) ∷ []))
    × (product_call 1 0 (1 ∷ 1 ∷ []) (0 ∷ 1 ∷ []) (7 ∷ 7 ∷ []) ≡ answered (accepted (0 ∷ [])) ((0 ∷ 0 ∷ []) ∷ []))
    -- u + v with v for both is 0, with 1 for u and v for v it is 1 + v
    × (substitute_call 2 0 (0 ∷ 1 ∷ 1 ∷ 0 ∷ []) (0 ∷ 0 ∷ 1 ∷ 0 ∷ 0 ∷ 0 ∷ 1 ∷ 0 ∷ []) (7 ∷ 7 ∷ 7 ∷ 7 ∷ []) ≡ answered (accepted (0 ∷ [])) ((0 ∷ 0 ∷ 0 ∷ 0 ∷ []) ∷ []))
    × (substitute_call 2 0 (0 ∷ 1 ∷ 1 ∷ 0 ∷ []) (1 ∷ 0 ∷ 0 ∷ 0 ∷ 0 ∷ 0 ∷ 1 ∷ 0 ∷ []) (7 ∷ 7 ∷ 7 ∷ 7 ∷ []) ≡ answered (accepted (2 ∷ [])) ((1 ∷ 0 ∷ 1 ∷ 0 ∷ []) ∷ []))
    -- a refusal gives its number alone
    × (product_call 1 0 (1 ∷ 1 ∷ []) (2 ∷ 1 ∷ []) (7 ∷ 7 ∷ []) ≡ answered (refused 8 []) ((7 ∷ 7 ∷ []) ∷ []))
unfolding call reply after monomial_count sum_table product_table substitute_table table tabulate sum product substitute monomial odd count constant letter bit present held for_unknowns first_no pair_questions substitute_questions letters_fit buffer_questions room_questions bit_questions has_room holds_bits are_bits
lengths_made = (refl, refl, refl, refl, refl, refl)

-- u first, then v
abbrev u_first : List ℕ
u_first = 0 ∷ 1 ∷ 255 ∷ 255 ∷ 255 ∷ 255 ∷ []

-- the total over the unknowns: of `u+v+1` Boole has 1 + v and v, the particular solution 1 and 0, Löwenheim 1 + v + u*v and v + u*v; where
-- there is no solution the state is given, and no total
pub lengths_answered :
    (boole_call 2 0 u_first (0 ∷ 0 ∷ 0 ∷ 0 ∷ []) (1 ∷ 1 ∷ 1 ∷ 0 ∷ []) (7 ∷ 7 ∷ 7 ∷ 7 ∷ 7 ∷ 7 ∷ 7 ∷ 7 ∷ 7 ∷ []) ≡ answered (accepted (3 ∷ [])) ((1 ∷ 0 ∷ 1 ∷ 0 ∷ 0 ∷ 0 ∷ 1 ∷ 0 ∷ 7 ∷ []) ∷ []))
    × (particular_call 2 0 u_first (0 ∷ 0 ∷ 0 ∷ 0 ∷ []) (1 ∷ 1 ∷ 1 ∷ 0 ∷ []) (7 ∷ 7 ∷ 7 ∷ 7 ∷ 7 ∷ 7 ∷ 7 ∷ 7 ∷ []) ≡ answered (accepted (1 ∷ [])) ((1 ∷ 0 ∷ 0 ∷ 0 ∷ 0 ∷ 0 ∷ 0 ∷ 0 ∷ []) ∷ []))
    × (lowenheim_call 2 0 u_first (0 ∷ 0 ∷ 0 ∷ 0 ∷ []) (1 ∷ 1 ∷ 1 ∷ 0 ∷ []) (7 ∷ 7 ∷ 7 ∷ 7 ∷ 7 ∷ 7 ∷ 7 ∷ 7 ∷ []) ≡ answered (accepted (5 ∷ [])) ((1 ∷ 0 ∷ 1 ∷ 1 ∷ 0 ∷ 0 ∷ 1 ∷ 1 ∷ []) ∷ []))
    × (boole_call 2 0 u_first (0 ∷ 0 ∷ 0 ∷ 0 ∷ []) (1 ∷ 0 ∷ 0 ∷ 0 ∷ []) (7 ∷ 7 ∷ 7 ∷ 7 ∷ 7 ∷ 7 ∷ 7 ∷ 7 ∷ []) ≡ answered (refused 9 (0 ∷ [])) ((7 ∷ 7 ∷ 7 ∷ 7 ∷ 7 ∷ 7 ∷ 7 ∷ 7 ∷ []) ∷ []))
unfolding call reply after total_count monomial_count boole_table particular_table lowenheim_table boole_answers particular lowenheim own_lowenheim answer_from answer_table put_in own_letters table tabulate sum product substitute restrict monomial odd count constant letter bit present held for_unknowns first_no solving_questions order_fits times every_below letters_fit buffer_questions room_questions bit_questions has_room holds_bits are_bits fact_questions has_no_unknown some_state_counts value_in_state table_where_zero where_zero solvable is_zero remains next_condition smallest_blocked smallest_below blocked value within point listed
lengths_answered = (refl, refl, refl, refl)

-- `v*!u`: Boole has u + v + u*v and v, Löwenheim u and u*v, which are shorter, and are handed back as they stand in their buffer
pub own_rows :
    (boole_call 2 0 u_first (0 ∷ 0 ∷ 0 ∷ 0 ∷ []) (0 ∷ 0 ∷ 1 ∷ 1 ∷ []) (7 ∷ 7 ∷ 7 ∷ 7 ∷ 7 ∷ 7 ∷ 7 ∷ 7 ∷ [])
    ≡ answered (accepted (4 ∷ [])) ((0 ∷ 1 ∷ 1 ∷ 1 ∷ 0 ∷ 0 ∷ 1 ∷ 0 ∷ []) ∷ []))
    × (lowenheim_call 2 0 u_first (0 ∷ 0 ∷ 0 ∷ 0 ∷ []) (0 ∷ 0 ∷ 1 ∷ 1 ∷ []) (7 ∷ 7 ∷ 7 ∷ 7 ∷ 7 ∷ 7 ∷ 7 ∷ 7 ∷ 7 ∷ [])
    ≡ answered (accepted (2 ∷ [])) ((0 ∷ 1 ∷ 0 ∷ 0 ∷ 0 ∷ 0 ∷ 0 ∷ 1 ∷ 7 ∷ []) ∷ []))
    × (shorter_part 2 0 (0 ∷ 1 ∷ 1 ∷ 1 ∷ 0 ∷ 0 ∷ 1 ∷ 0 ∷ []) (0 ∷ 1 ∷ 0 ∷ 0 ∷ 0 ∷ 0 ∷ 0 ∷ 1 ∷ 7 ∷ [])
    ≡ 0 ∷ 1 ∷ 0 ∷ 0 ∷ 0 ∷ 0 ∷ 0 ∷ 1 ∷ [])
unfolding call reply after total_count monomial_count boole_table lowenheim_table boole_answers particular lowenheim own_lowenheim answer_from answer_table put_in own_letters table tabulate sum product substitute restrict monomial odd count constant letter bit present held for_unknowns first_no solving_questions order_fits times every_below letters_fit buffer_questions room_questions bit_questions has_room holds_bits are_bits fact_questions has_no_unknown some_state_counts value_in_state table_where_zero where_zero solvable is_zero remains next_condition value within point listed shorter_part part_length takes_lowenheim lowenheim_shorter shorter_refusal shorter_questions
own_rows = (refl, refl, refl)

-- over one unknown: 1 before 4, which goes to both tables before 8 goes to both; what stands behind them is not asked
pub shorter_asked : (shorter_refusal 7 0 [] [] ≡ 1)
    × (shorter_refusal 1 0 (2 ∷ []) (0 ∷ 0 ∷ []) ≡ 4)
    × (shorter_refusal 1 0 (2 ∷ 0 ∷ []) (0 ∷ []) ≡ 4)
    × (shorter_refusal 1 0 (2 ∷ 0 ∷ []) (0 ∷ 0 ∷ []) ≡ 8)
    × (shorter_refusal 1 0 (0 ∷ 0 ∷ []) (0 ∷ 2 ∷ []) ≡ 8)
    × (shorter_refusal 1 0 (0 ∷ 1 ∷ 2 ∷ []) (1 ∷ 0 ∷ 3 ∷ []) ≡ 0)
unfolding shorter_refusal first_no shorter_questions letters_fit buffer_questions room_questions bit_questions has_room holds_bits are_bits
shorter_asked = (refl, refl, refl, refl, refl, refl)

-- what is handed back, and which table it is taken from
pub shorter_rows :
    -- the shorter, whichever it is, without what stands behind it
    (shorter_part 1 0 (0 ∷ 1 ∷ 7 ∷ []) (1 ∷ 1 ∷ []) ≡ (0 ∷ 1 ∷ []))
    × (shorter_part 1 0 (1 ∷ 1 ∷ []) (0 ∷ 1 ∷ 7 ∷ []) ≡ (0 ∷ 1 ∷ []))
    -- 'Boole's if the totals tie'
    × (shorter_part 1 0 (0 ∷ 1 ∷ 7 ∷ []) (1 ∷ 0 ∷ []) ≡ (0 ∷ 1 ∷ []))
    -- what stands behind the tables is not counted
    × (shorter_part 1 0 (0 ∷ 1 ∷ 1 ∷ 1 ∷ []) (1 ∷ 1 ∷ []) ≡ (0 ∷ 1 ∷ []))
    -- over two unknowns the totals are over both: Boole's is shorter in u, Löwenheim's in all
    × (shorter_part 2 0 (0 ∷ 0 ∷ 0 ∷ 0 ∷ 1 ∷ 1 ∷ 0 ∷ 0 ∷ []) (1 ∷ 0 ∷ 0 ∷ 0 ∷ 0 ∷ 0 ∷ 0 ∷ 0 ∷ 7 ∷ []) ≡ (1 ∷ 0 ∷ 0 ∷ 0 ∷ 0 ∷ 0 ∷ 0 ∷ 0 ∷ []))
    -- without unknowns, and after a no, there are no bytes, and they are those of Boole's table
    × (shorter_part 0 1 (7 ∷ []) [] ≡ [])
    × (takes_lowenheim 0 1 (7 ∷ []) [] ≡ false)
    × (shorter_part 1 0 (1 ∷ 1 ∷ []) (0 ∷ []) ≡ [])
    × (takes_lowenheim 1 0 (1 ∷ 1 ∷ []) (0 ∷ 2 ∷ []) ≡ false)
    -- the same for callers outside the language: 0 is Boole's, 1 Löwenheim's
    × (which_shorter_call 1 0 (0 ∷ 1 ∷ []) (1 ∷ 0 ∷ []) ≡ answered (accepted (0 ∷ [])) [])
    × (which_shorter_call 1 0 (1 ∷ 1 ∷ []) (1 ∷ 0 ∷ []) ≡ answered (accepted (1 ∷ [])) [])
    × (which_shorter_call 1 0 (1 ∷ 1 ∷ []) (0 ∷ []) ≡ answered (refused 4 []) [])
unfolding call reply shorter_part part_length takes_lowenheim lowenheim_shorter shorter_refusal total_count monomial_count count held present first_no shorter_questions letters_fit buffer_questions room_questions bit_questions has_room holds_bits are_bits
shorter_rows = (refl, refl, refl, refl, refl, refl, refl, refl, refl, refl, refl, refl)
