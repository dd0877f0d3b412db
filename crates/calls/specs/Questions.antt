-- The questions that each call puts, in their order (document 01, 'The questions, and the number if the answer is no'; document 02, C-11 to C-17):
-- 'The first no counts'. U unknowns and G givens, n = U + G; a table has 2 ^ n bytes, an answer or handed buffer U of them. A buffer that
-- is only written comes as its number of bytes.
-- Assumes nothing.
use Rattle.std.specs.Prelude.{Bool, ◌&&◌, ◌||◌, List, [], ◌∷◌, ◌++◌, map, ℕ, ◌+◌, ◌*◌, ◌^◌, eqb, leb, ltb, length}
use Rattle.ring.specs.declared.State.{State}
use Rattle.ring.specs.declared.Choice.{Choice}
use Rattle.ring.specs.Table.{present, held}
use Rattle.tables.specs.declared.Question.TheVariants.{Letters, Route, TextLength, Signs, Declared, Grammar, Solution, Records, Kinds}
use Rattle.tables.specs.declared.Question.TheVariants.{Numbers, Afresh, Output, Rising, Range, Order, Name, Marked, Mask, Handed, FactGivens, FactState}
use Rattle.tables.specs.Questions.{Asked, asks, asks_giving, letters_fit, Lent, reads, writes, bit_questions, buffer_questions, in_range}
use Rattle.grammar.specs.Symbols.{all_signs, all_declared}
use Rattle.grammar.specs.Reader.{grammar_reads}
use Rattle.solution.specs.Fact.{has_no_unknown, some_state_counts}
use Rattle.solution.specs.Condition.{Condition, width, table_where_zero, polynomial}
use Rattle.solution.specs.Order.{order_fits, lent_condition}
use Rattle.solution.specs.Elimination.{handed_solves, solvable, smallest_blocked}
use Rattle.entry.specs.Record.{Record}
use Rattle.entry.specs.Held.{route_of, unknowns_of, givens_of, order_in, held_condition}
use Rattle.entry.specs.Entry.{entry}
use Rattle.entry.specs.Questions.{route_fits, has_end, kinds_fit, numbers_fit, answers_hold}

-- 'Value: 1, 4, 8, 16'
unfoldable pub value_questions : ℕ → ℕ → List ℕ → State → Choice → List Asked
value_questions U G t state choice =
    asks Letters (letters_fit U G)
    ∷ (buffer_questions (reads (2 ^ (U + G)) t ∷ [])
    ++ (asks Range (in_range U G state choice) ∷ []))

-- 'Sum or product of two tables ..: 1, 4, 8, the result going to a further condition buffer'
unfoldable pub pair_questions : ℕ → ℕ → List ℕ → List ℕ → ℕ → List Asked
pair_questions U G a b room =
    asks Letters (letters_fit U G)
    ∷ buffer_questions (reads (2 ^ (U + G)) a ∷ reads (2 ^ (U + G)) b ∷ writes (2 ^ (U + G)) room ∷ [])

-- '.. and handed polynomials put into a condition: 1, 4, 8'
unfoldable pub substitute_questions : ℕ → ℕ → List ℕ → List ℕ → ℕ → List Asked
substitute_questions U G condition handed room =
    asks Letters (letters_fit U G)
    ∷ buffer_questions (reads (2 ^ (U + G)) condition ∷ reads (U * 2 ^ (U + G)) handed ∷ writes (2 ^ (U + G)) room ∷ [])

-- 20: 'has S only declared letters', bits as in a monomial
unfoldable pub mask_declared : ℕ → ℕ → ℕ → Bool
mask_declared U G S = ltb S (2 ^ (U + G))

-- the derivative by S, 'a call .. gives one table, it goes to a further condition buffer': 1, 4, 8, and '20 .. after 8'
unfoldable pub derivative_questions : ℕ → ℕ → List ℕ → ℕ → ℕ → List Asked
derivative_questions U G t S room =
    asks Letters (letters_fit U G)
    ∷ (buffer_questions (reads (2 ^ (U + G)) t ∷ writes (2 ^ (U + G)) room ∷ [])
    ++ (asks Mask (mask_declared U G S) ∷ []))

-- 3: 'Has the text 1 to 200 bytes?'
unfoldable pub has_text_length : List ℕ → Bool
has_text_length text = leb 1 (length text) && leb (length text) 200

-- 'Text: 1, 3, 4, 5, 6, 7'
unfoldable pub text_questions : ℕ → ℕ → List ℕ → ℕ → List Asked
text_questions U G text room =
    asks Letters (letters_fit U G)
    ∷ asks TextLength (has_text_length text)
    ∷ (buffer_questions (writes (2 ^ (U + G)) room ∷ [])
    ++ (asks Signs (all_signs text) ∷ asks Declared (all_declared U G text) ∷ asks Grammar (grammar_reads text) ∷ []))

-- '22, has g no unknown; 23, is g 0 in some state': what is put to a fact
unfoldable pub fact_questions : ℕ → ℕ → List ℕ → List Asked
fact_questions U G fact =
    asks FactGivens (has_no_unknown U (U + G) (present fact))
    ∷ asks FactState (some_state_counts U G (present fact))
    ∷ []

-- '9. Has the condition a solution? (a no also gives the state)': the smallest in which every choice gives the condition the value 1
abbrev pub asks_solution : Condition → Asked
asks_solution c =
    asks_giving Solution (solvable (width c) (polynomial c) c.order) ((smallest_blocked c.U c.G (polynomial c)).0 ∷ [])

-- what a solving call is lent: 'a fact, a table g over givens (for 4 and 8 a condition table)', the condition and an answer buffer
abbrev pub solving_buffers : ℕ → ℕ → List ℕ → List ℕ → ℕ → List Lent
solving_buffers U G fact condition room =
    reads (2 ^ (U + G)) fact ∷ reads (2 ^ (U + G)) condition ∷ writes (U * 2 ^ (U + G)) room ∷ []

-- 'Boole, particular solution, own Löwenheim: 1, 4, 8, 9', '17 .. after 2, else 1', and 22 and 23, 'both after 8'
unfoldable pub solving_questions : ℕ → ℕ → List ℕ → List ℕ → List ℕ → ℕ → List Asked
solving_questions U G order fact condition room =
    asks Letters (letters_fit U G)
    ∷ asks Order (order_fits U order)
    ∷ (buffer_questions (solving_buffers U G fact condition room)
    ++ (fact_questions U G fact
    ++ (asks_solution (lent_condition U G order fact condition) ∷ [])))

-- 21: 'does the handed substitution make the condition zero', of the polynomials in the lent buffers; it reads 'f*(1 + g)'
abbrev pub asks_handed : ℕ → ℕ → List ℕ → List ℕ → List ℕ → Asked
asks_handed U G fact condition handed =
    asks Handed (handed_solves U G (present (table_where_zero (U + G) condition fact)) (held (U + G) handed))

-- what the handed form is lent, 'the result going to an answer buffer of its own'
abbrev pub handed_buffers : ℕ → ℕ → List ℕ → List ℕ → List ℕ → ℕ → List Lent
handed_buffers U G fact condition handed room =
    reads (2 ^ (U + G)) fact
    ∷ reads (2 ^ (U + G)) condition
    ∷ reads (U * 2 ^ (U + G)) handed
    ∷ writes (U * 2 ^ (U + G)) room
    ∷ []

-- 'Handed Löwenheim: 1, 4, 8', '21 .. last for the handed form', and 22 and 23, 'both after 8'
unfoldable pub handed_questions : ℕ → ℕ → List ℕ → List ℕ → List ℕ → ℕ → List Asked
handed_questions U G fact condition handed room =
    asks Letters (letters_fit U G)
    ∷ (buffer_questions (handed_buffers U G fact condition handed room)
    ++ (fact_questions U G fact
    ++ (asks_handed U G fact condition handed ∷ [])))

-- the shorter of two answer tables: 'It poses questions 1, 4 and 8'
unfoldable pub shorter_questions : ℕ → ℕ → List ℕ → List ℕ → List Asked
shorter_questions U G boole lowenheim =
    asks Letters (letters_fit U G)
    ∷ buffer_questions (reads (U * 2 ^ (U + G)) boole ∷ reads (U * 2 ^ (U + G)) lowenheim ∷ [])

-- 14: 'Is the output at least as long as what is to be written?'
unfoldable pub output_fits : List ℕ → ℕ → Bool
output_fits made room = leb (length made) room

-- 'Writing: 1, 2, 4, 8, 14', '17 .. after 2', and 22 and 23, 'both after 8'
unfoldable pub write_questions : ℕ → ℕ → ℕ → List ℕ → List ℕ → List ℕ → ℕ → List Asked
write_questions route U G order fact condition room =
    asks Letters (letters_fit U G)
    ∷ asks Route (route_fits route)
    ∷ asks Order (order_fits U order)
    ∷ (buffer_questions (reads (2 ^ (U + G)) fact ∷ reads (2 ^ (U + G)) condition ∷ [])
    ++ (fact_questions U G fact
    ++ (asks Output (output_fits (entry route (lent_condition U G order fact condition)) room) ∷ [])))

-- 10, 11, 1, 2, 12, 17: what is put to the records of an entry one by one; 17 comes 'after all of 12 when reading'
unfoldable pub record_questions : List Record → List Asked
record_questions rs =
    asks Records (has_end rs)
    ∷ asks Kinds (kinds_fit rs)
    ∷ asks Letters (letters_fit (unknowns_of rs) (givens_of rs))
    ∷ asks Route (route_fits (route_of rs))
    ∷ asks Numbers (numbers_fit rs)
    ∷ asks Order (order_fits (unknowns_of rs) (order_in rs))
    ∷ []

-- what reading and audit put to the records of an entry: 22 and 23 come 'after 17 when reading'
unfoldable pub entry_questions : List Record → List Asked
entry_questions rs = record_questions rs ++ fact_questions (unknowns_of rs) (givens_of rs) (held_condition rs).fact

-- 'Reading: 10, 11, 1, 2, 12, 4', 17, 22 and 23 before 4; 'Reading fills a further condition buffer, under 4, with g'
unfoldable pub read_questions : List Record → ℕ → ℕ → ℕ → List Asked
read_questions rs fact_room room answer_room =
    entry_questions rs
    ++ buffer_questions
    (writes (2 ^ (unknowns_of rs + givens_of rs)) fact_room
    ∷ writes (2 ^ (unknowns_of rs + givens_of rs)) room
    ∷ writes (unknowns_of rs * 2 ^ (unknowns_of rs + givens_of rs)) answer_room
    ∷ [])

-- 'Audit: 10, 11, 1, 2, 12, 13', 17, 22 and 23 before 13
unfoldable pub audit_questions : List Record → List Asked
audit_questions rs = entry_questions rs ++ (asks Afresh (answers_hold rs) ∷ [])

-- 15: 'Is the route above the one before?' Where `before` is 0 there is none before, and the answer is yes
unfoldable pub route_rises : ℕ → ℕ → Bool
route_rises before route = eqb before 0 || ltb before route

-- 'Walk: the audit's, then 15, per entry'
unfoldable pub walk_questions : ℕ → List Record → List Asked
walk_questions before rs = audit_questions rs ++ (asks Rising (route_rises before (route_of rs)) ∷ [])

-- 'The session starts with a U and G, under question 1'
unfoldable pub start_questions : ℕ → ℕ → List Asked
start_questions U G = asks Letters (letters_fit U G) ∷ []

-- 'every step first puts 1 and 8 to the session handed in (8 to its present table and those of marked names)', which are these tables
unfoldable pub session_questions : ℕ → ℕ → List (List ℕ) → List Asked
session_questions U G tables = asks Letters (letters_fit U G) ∷ bit_questions (map (reads (2 ^ (U + G))) tables)

-- 'Adding a table h over those letters, under 4 and 8'
unfoldable pub add_questions : ℕ → ℕ → List (List ℕ) → List ℕ → List Asked
add_questions U G tables h = session_questions U G tables ++ buffer_questions (reads (2 ^ (U + G)) h ∷ [])

-- 18: 'is the name a byte `A` to `D`', which are 65 and 68
unfoldable pub is_name : ℕ → Bool
is_name name = leb 65 name && leb name 68

-- marking: the session's, then 18
unfoldable pub mark_questions : ℕ → ℕ → List (List ℕ) → ℕ → List Asked
mark_questions U G tables name = session_questions U G tables ++ (asks Name (is_name name) ∷ [])

-- returning: then 19, 'when returning, is it marked'
unfoldable pub return_questions : ℕ → ℕ → List (List ℕ) → ℕ → Bool → List Asked
return_questions U G tables name marked = session_questions U G tables ++ (asks Name (is_name name) ∷ asks Marked marked ∷ [])
