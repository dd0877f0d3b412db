-- Demand 3 over the calls: a text is read by `read_text` into a lent condition buffer, `write_entry` is given an order and lent a fact, that
-- buffer and an output, and `read_entry` is lent that output and four buffers more. What a call gives, and what a buffer holds after it, is what
-- its contract says. Lent buffers may be longer than needed and hold any bytes.
-- Assumes nothing.
use Rattle.std.specs.Prelude.{◌≡◌, List, [], ◌∷◌, ◌++◌, ℕ, ◌*◌, ◌^◌, ◌≤◌, length, drop}
use Rattle.ring.specs.declared.State.{State}
use Rattle.tables.specs.Questions.{first_no}
use Rattle.tables.specs.Answered.{accepted, first_buffer, answered}
use Rattle.solution.specs.Condition.{Condition, width}
use Rattle.solution.specs.Order.{order_bytes}
use Rattle.solution.specs.Elimination.{solved, none, solve}
use Rattle.entry.specs.Held.{records}
use Rattle.entry.specs.Entry.{entry}
use Rattle.calls.specs.Questions.{read_questions}
use Rattle.calls.specs.Text.{text_call}
use Rattle.calls.specs.Entries.{write_call, read_call}
use Rattle.demands.specs.Demand3.{Demand3}
use Rattle.demands.specs.UnderFact.{Demand3Where}

-- the condition buffer after `read_text`, and the output after `write_entry`
abbrev pub text_read : ℕ → ℕ → List ℕ → List ℕ → List ℕ
text_read U G text lent = first_buffer (text_call U G text lent)

abbrev pub entry_written : ℕ → ℕ → ℕ → List ℕ → List ℕ → List ℕ → List ℕ → List ℕ
entry_written route U G order fact condition out = first_buffer (write_call route U G order fact condition out)

-- reading the bytes e, lent four buffers, gives the condition c, with its order and its fact, and the verdict on it
pub record GivesBack (route : ℕ) (c : Condition) (e order fact condition answers : List ℕ) : Type 0 where
  -- solved: reading gives the route, U, G and the length used; the order's bytes, the tables of the fact and the condition and the answer
  -- tables are at the fronts of their buffers, and every further byte is as it was
  pub same_answers : (tables : List ℕ) → solve c ≡ solved tables
      → read_call e order fact condition answers
      ≡ answered (accepted (route ∷ c.U ∷ c.G ∷ length (entry route c) ∷ []))
      ((order_bytes c.order ++ drop 6 order)
      ∷ (c.fact ++ drop (length c.fact) fact)
      ∷ (c.table ++ drop (length c.table) condition)
      ∷ (tables ++ drop (length tables) answers)
      ∷ [])
  -- 'none': reading gives the state too, and the answer buffer is untouched
  pub same_state : (state : State) → solve c ≡ none state
      → read_call e order fact condition answers
      ≡ answered (accepted (route ∷ c.U ∷ c.G ∷ length (entry route c) ∷ state.0 ∷ []))
      ((order_bytes c.order ++ drop 6 order)
      ∷ (c.fact ++ drop (length c.fact) fact)
      ∷ (c.table ++ drop (length c.table) condition)
      ∷ answers
      ∷ [])

-- `write_entry`, given the order and lent the fact, the condition buffer and the output, archives the condition c
pub record OverTheCalls (route : ℕ) (c : Condition) (order fact condition out : List ℕ) : Type 0 where
  -- demand 3 holds of what the output then holds ..
  pub demand : Demand3 c (entry_written route c.U c.G order fact condition out)
  -- .. and so does demand 3 in document 02's own words for a fact ..
  pub under_fact : Demand3Where c (entry_written route c.U c.G order fact condition out)
  -- .. which is the entry at its front, and every further byte as it was; writing gives the entry's length
  pub entry_is_written : write_call route c.U c.G order fact condition out
      ≡ answered (accepted (length (entry route c) ∷ [])) ((entry route c ++ drop (length (entry route c)) out) ∷ [])
  -- reading it is refused for buffers that are too short alone ..
  pub read_if_room : (fact_room room answer_room : ℕ) → 2 ^ width c ≤ fact_room → 2 ^ width c ≤ room → c.U * 2 ^ width c ≤ answer_room
      → first_no (read_questions (records (entry_written route c.U c.G order fact condition out)) fact_room room answer_room) ≡ 0
  -- .. and, unless refused, gives the same order, fact, condition and verdict
  pub reads_back : (order₂ fact₂ condition₂ answers₂ : List ℕ)
      → first_no (read_questions (records (entry_written route c.U c.G order fact condition out)) (length fact₂) (length condition₂)
      (length answers₂)) ≡ 0
      → GivesBack route c (entry_written route c.U c.G order fact condition out) order₂ fact₂ condition₂ answers₂
