-- A session as a caller outside the language keeps it (document 02, C-12): a block of 5,126 bytes. Byte 0 is U and byte 1 is G; the 1,024
-- bytes behind them are the present table; then comes for each name, `A` first, a byte that is 1 if it is marked, and 1,024 bytes for its table.
-- A block that holds a session gives it back (`session_back`), and the block after any list of steps holds the session after it
-- (`block_exactly`, both in `proofs/Histories.antt`).
-- Assumes nothing.
use Rattle.std.specs.Prelude.{List, [], ◌∷◌, ◌++◌, ℕ, get_or, take, drop, Result, Ok, Err}
use Rattle.ring.specs.Letters.{digit}
use Rattle.ring.specs.Table.{present}
use Rattle.tables.specs.Answered.{Reply, Answered, answered, first_buffer}
use Rattle.tables.specs.declared.Question.{Question}
use Rattle.calls.specs.Operations.{outcome}
use Rattle.session.specs.declared.Mark.{Mark}
use Rattle.session.specs.declared.Session.{Session}
use Rattle.session.specs.declared.Step.{Step}
use Rattle.session.specs.Session.{start_step, add_step, mark_step, return_step}
use Rattle.session.specs.History.{History, step_from}

-- the name whose 1,025 bytes the list begins with: it is marked if the first is 1, and not if that is any other byte
unfoldable pub mark_in : List ℕ → Mark
mark_in bytes = record { set = present bytes 0; table = take 1024 (drop 1 bytes) }

-- the session that a block holds, whatever its bytes are
unfoldable pub session_in : List ℕ → Session
session_in block =
    record {
      unknowns = get_or block 0 0;
      givens = get_or block 1 0;
      table = take 1024 (drop 2 block);
      marks = mark_in (drop 1026 block) ∷ mark_in (drop 2051 block) ∷ mark_in (drop 3076 block) ∷ mark_in (drop 4101 block) ∷ [];
    }

-- the bytes of names
unfoldable pub mark_bytes : List Mark → List ℕ
mark_bytes [] = []
mark_bytes (m ∷ ms) = digit m.set ∷ (m.table ++ mark_bytes ms)

-- the bytes of a session
unfoldable pub session_bytes : Session → List ℕ
session_bytes s = s.unknowns ∷ s.givens ∷ (s.table ++ mark_bytes s.marks)

-- a block after a step: the session after it, or every byte as it was
abbrev pub block_after : Result Unit Question → Session → List ℕ → List ℕ
block_after (Ok done) after block = session_bytes after
block_after (Err question) after block = block

-- a step on the session that a block holds
abbrev pub step_on : List ℕ → Step → Answered Reply
step_on block step = answered (outcome step.outcome) (block_after step.outcome step.session block ∷ [])

-- the start writes the block in any case: 'a refused start hands back the new session of U = 0 and G = 0'
abbrev pub start_block : ℕ → ℕ → Answered Reply
start_block U G = answered (outcome (start_step U G).outcome) (session_bytes (start_step U G).session ∷ [])

abbrev pub add_block : List ℕ → List ℕ → Answered Reply
add_block block h = step_on block (add_step (session_in block) h)

abbrev pub mark_block : List ℕ → ℕ → Answered Reply
mark_block block name = step_on block (mark_step (session_in block) name)

abbrev pub return_block : List ℕ → ℕ → Answered Reply
return_block block name = step_on block (return_step (session_in block) name)

-- ---- a block after every list of steps, the latest first, from a start
unfoldable pub block_from : ℕ → ℕ → History → List ℕ
block_from U G [] = first_buffer (start_block U G)
block_from U G (action ∷ before) = first_buffer (step_on (block_from U G before) (step_from (session_in (block_from U G before)) action))
