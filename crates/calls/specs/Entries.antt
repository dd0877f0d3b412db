-- What writing, reading and auditing an entry do (`writer`, `reader`, `audit`; document 01, 'The archive entry' and 'Audit and volume').
-- Assumes nothing.
use Rattle.std.specs.Prelude.{◌≡◌, List, [], ◌∷◌, ◌++◌, ℕ, length, Result, Ok, Err}
use Rattle.tables.specs.declared.Question.{Question}
use Rattle.tables.specs.Questions.{number}
use Rattle.tables.specs.Answered.{Reply, accepted, refused, Answered, call, ◌into◌}
use Rattle.solution.specs.Condition.{Condition}
use Rattle.solution.specs.Order.{lent_condition}
use Rattle.solution.specs.Elimination.{solved, none, solve, Verdict as Said}
use Rattle.entry.specs.Record.{Record, bytes}
use Rattle.entry.specs.Held.{records, route_of, unknowns_of, givens_of, order_in, held_condition, held_verdict}
use Rattle.entry.specs.Entry.{entry, Archivable}
use Rattle.calls.specs.declared.Verdict.{Verdict}
use Rattle.calls.specs.declared.Verdict.TheVariants.{Solved, None}
use Rattle.calls.specs.declared.Entry.{Entry as Held}
use Rattle.calls.specs.Questions.{write_questions, read_questions, audit_questions}

-- ---- writing: 'the writer is lent the condition table and the output only, solves the condition itself and gives the entry's length'.
-- It is lent the route's fact too
-- the entry of a lent condition
abbrev pub lent_entry : ℕ → ℕ → ℕ → List ℕ → List ℕ → List ℕ → List ℕ
lent_entry route U G order fact condition = entry route (lent_condition U G order fact condition)

abbrev pub write_call : ℕ → ℕ → ℕ → List ℕ → List ℕ → List ℕ → List ℕ → Answered Reply
write_call route U G order fact condition out =
    call (write_questions route U G order fact condition (length out)) (length (lent_entry route U G order fact condition) ∷ [])
    (lent_entry route U G order fact condition into out ∷ [])

-- ---- reading: it 'stops after kind 4 and gives the route, U, G, whether the entry is solved or 'none' and in which state, and the length used;
-- it fills the condition table and, if solved, the answer tables; a 'none' entry leaves the answer buffer untouched'. 'Reading gives' the
-- order, into six bytes that are lent for it, and 'fills a further condition buffer, under 4, with g'
-- the state of a verdict that says 'none'
abbrev pub state_of : {A : Type 0} → Said A → List ℕ
state_of (solved a) = []
state_of (none state) = state.0 ∷ []

-- the answer tables of one that is solved
abbrev pub answers_of : Said (List ℕ) → List ℕ
answers_of (solved a) = a
answers_of (none state) = []

-- the values that reading gives of an entry
unfoldable pub read_values : List Record → List ℕ
read_values rs = route_of rs ∷ unknowns_of rs ∷ givens_of rs ∷ length (bytes rs) ∷ state_of (held_verdict rs)

abbrev pub read_call : List ℕ → List ℕ → List ℕ → List ℕ → List ℕ → Answered Reply
read_call bs order fact condition answers =
    call (read_questions (records bs) (length fact) (length condition) (length answers)) (read_values (records bs))
    (order_in (records bs) into order
    ∷ (held_condition (records bs)).fact into fact
    ∷ (held_condition (records bs)).table into condition
    ∷ answers_of (held_verdict (records bs)) into answers
    ∷ [])

-- the state, if the entry says 'none'
abbrev pub state_said : Verdict → List ℕ
state_said Solved = []
state_said (None state) = state.0 ∷ []

-- this paper's number and values for an entry that was read or audited: the route, U, G, the length used, and the state if it says 'none'
abbrev pub reading : Result Held Question → Reply
reading (Ok held) =
    accepted (held.heading.route ∷ held.heading.unknowns ∷ held.heading.givens ∷ held.heading.used ∷ state_said held.verdict)
reading (Err question) = refused (number question) []

-- ---- audit: it 'reads an entry, solves its condition afresh and compares. Like reading it stops after kind 4 and gives the length used; the
-- bytes that pass are those up to there, and later ones play no part'
abbrev pub audit_call : List ℕ → Answered Reply
audit_call bs = call (audit_questions (records bs)) (read_values (records bs)) []

-- the bytes begin with an entry that the writer makes, whatever stands behind it, and the values are its route, U, G, length and, if it
-- says 'none', state
pub record BeginsWithEntry (bs values : List ℕ) : Type 0 where
  pub route : ℕ
  pub condition : Condition
  pub behind : List ℕ
  pub archivable : Archivable route condition
  pub made : bs ≡ entry route condition ++ behind
  pub given : values ≡ route ∷ condition.U ∷ condition.G ∷ length (entry route condition) ∷ state_of (solve condition)
