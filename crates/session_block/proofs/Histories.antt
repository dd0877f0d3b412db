-- A block that holds a session gives it back (`session_back`), and so the block after any list of steps, from any start, holds the session
-- after that list (`block_exactly`): a caller who keeps the block keeps the session.
-- Assumes nothing.
use mathlib.Core.Path.{◌≡◌, refl, sym, ap, ◌∙◌}
use mathlib.Core.Bool.{true, false}
use mathlib.Core.Logic.{◌⊎◌, inl, inr}
use mathlib.Core.List.{List, [], ◌∷◌}
use Prim.Native.Nat.{ℕ, ◌+◌, ◌^◌, ◌≤◌}
use lib.ListN.{length, take, drop}
use lib.Seq.{take_at, drop_at, drop-drop}
use Rattle.ring.specs.Table.{present}
use Rattle.ring.proofs.Bool.{bit-digit, bool_cases}
use Rattle.tables.specs.Questions.{letters_fit}
use Rattle.tables.specs.Answered.{first_buffer}
use Rattle.tables.proofs.Questions.{letters_small, pow_small}
use Rattle.std.specs.Prelude.{Result, Ok, Err}
use Rattle.tables.specs.declared.Question.{Question}
use Rattle.session.specs.declared.Mark.{Mark}
use Rattle.session.specs.declared.Session.{Session}
use Rattle.session.specs.History.{Action, History, step_from, session_after, session_of}
use Rattle.session.proofs.Tables.{list_long, mark_long}
use Rattle.session.proofs.History.{history_exactly, refused_start, refused_unchanged}
use Rattle.session_block.specs.Block.{mark_in, session_in, mark_bytes, session_bytes, block_after, step_on, block_from}

-- ---- a session that is put into a block and taken out again
-- a name is at the front of the names' bytes, the others behind it
module _ (m : Mark) (ms : List Mark) (l : length m.table ≡ 1024) where
  mark_back : mark_in (mark_bytes (m ∷ ms)) ≡ m
  unfolding mark_in mark_bytes present
  mark_back = rw (bit-digit m.set, take_at m.table (mark_bytes ms) 1024 l)

  names_behind : drop 1025 (mark_bytes (m ∷ ms)) ≡ mark_bytes ms
  unfolding mark_bytes
  names_behind = drop_at m.table (mark_bytes ms) 1024 l

module _ (U G : ℕ) (t : List ℕ) (a b c d : Mark) (lt : length t ≡ 1024) where
  abbrev session : Session
  session = record { unknowns = U; givens = G; table = t; marks = a ∷ b ∷ c ∷ d ∷ [] }

  abbrev block : List ℕ
  block = session_bytes session

  behind_table : drop 1026 block ≡ mark_bytes (a ∷ b ∷ c ∷ d ∷ [])
  unfolding session_bytes
  behind_table = drop_at t (mark_bytes (a ∷ b ∷ c ∷ d ∷ [])) 1024 lt

  table_back : take 1024 (drop 2 block) ≡ t
  unfolding session_bytes
  table_back = take_at t (mark_bytes (a ∷ b ∷ c ∷ d ∷ [])) 1024 lt

  pub session_back : length a.table ≡ 1024 → length b.table ≡ 1024 → length c.table ≡ 1024 → length d.table ≡ 1024
      → session_in (session_bytes session) ≡ session
  unfolding session_in session_bytes
  session_back la lb lc ld =
      let behind_a : drop 2051 block ≡ mark_bytes (b ∷ c ∷ d ∷ [])
      = sym (drop-drop 1025 1026 block) ∙ ap (drop 1025) behind_table ∙ names_behind a (b ∷ c ∷ d ∷ []) la in
      let behind_b : drop 3076 block ≡ mark_bytes (c ∷ d ∷ [])
      = sym (drop-drop 1025 2051 block) ∙ ap (drop 1025) behind_a ∙ names_behind b (c ∷ d ∷ []) lb in
      let behind_c : drop 4101 block ≡ mark_bytes (d ∷ []) = sym (drop-drop 1025 3076 block) ∙ ap (drop 1025) behind_b ∙ names_behind c (d ∷ []) lc in
      let a_back : mark_in (drop 1026 block) ≡ a = ap mark_in behind_table ∙ mark_back a (b ∷ c ∷ d ∷ []) la in
      let b_back : mark_in (drop 2051 block) ≡ b = ap mark_in behind_a ∙ mark_back b (c ∷ d ∷ []) lb in
      let c_back : mark_in (drop 3076 block) ≡ c = ap mark_in behind_b ∙ mark_back c (d ∷ []) lc in
      let d_back : mark_in (drop 4101 block) ≡ d = ap mark_in behind_c ∙ mark_back d [] ld in
      rw (table_back, a_back, b_back, c_back, d_back)

-- ---- every list of steps
-- the session of a history fits its block
history_back : (U G : ℕ) → letters_fit U G ≡ true → (history : History) → session_in (session_bytes (session_of U G history)) ≡ session_of U G history
unfolding session_of
history_back U G fits history =
    let h : 2 ^ (U + G) ≤ 1024 = pow_small (2 ^ (U + G)) (U + G) refl (letters_small U G fits) in
    session_back U G _ _ _ _ _ (list_long (U + G) _ h) (mark_long (U + G) _ h) (mark_long (U + G) _ h) (mark_long (U + G) _ h)
    (mark_long (U + G) _ h)

-- a step on a block that holds a session and gives it back leaves the session after it
step_kept : (s : Session) (action : Action) → session_in (session_bytes s) ≡ s
    → first_buffer (step_on (session_bytes s) (step_from (session_in (session_bytes s)) action)) ≡ session_bytes (step_from s action).session
step_kept s action e = ap (λ (t : Session). first_buffer (step_on (session_bytes s) (step_from t action))) e ∙ go (step_from s action).outcome refl
  where
    go : (o : Result Unit Question) → (step_from s action).outcome ≡ o
        → block_after o (step_from s action).session (session_bytes s) ≡ session_bytes (step_from s action).session
    go (Ok done) f = refl
    go (Err question) f = ap session_bytes (sym (refused_unchanged s action question f))

-- from a start that hands back the new session of U and G
from_start : (U G u g : ℕ) → letters_fit U G ≡ true → ((history : History) → session_after u g history ≡ session_of U G history)
    → (history : History) → block_from u g history ≡ session_bytes (session_after u g history)
unfolding block_from session_after
from_start U G u g fits exactly [] = refl
from_start U G u g fits exactly (action ∷ before) =
    let back : session_in (session_bytes (session_after u g before)) ≡ session_after u g before = rw (exactly before) (history_back U G fits before) in
    ap (λ (b : List ℕ). first_buffer (step_on b (step_from (session_in b) action))) (from_start U G u g fits exactly before)
    ∙ step_kept (session_after u g before) action back

none_fits : letters_fit 0 0 ≡ true
unfolding letters_fit
none_fits = refl

-- the block after every list of steps holds the session after it, whatever U and G the start was given
pub block_exactly : (U G : ℕ) (history : History) → block_from U G history ≡ session_bytes (session_after U G history)
block_exactly U G history = go (bool_cases (letters_fit U G))
  where
    go : (letters_fit U G ≡ true) ⊎ (letters_fit U G ≡ false) → block_from U G history ≡ session_bytes (session_after U G history)
    go (inl fits) = from_start U G U G fits (history_exactly U G fits) history
    go (inr f) = from_start 0 0 U G none_fits (refused_start U G f) history
