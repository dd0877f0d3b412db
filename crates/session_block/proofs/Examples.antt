-- Where the parts of a session stand in its block, by computation: U before G, the present table at 2, the names 1,025 bytes apart from 1,026
-- on, and which bytes mark a name.
-- Assumes nothing.
use mathlib.Core.Path.{◌≡◌, refl}
use mathlib.Core.Bool.{true, false}
use mathlib.Core.List.{List, [], ◌∷◌}
use Prim.Native.Nat.{ℕ}
use lib.ListN.{length, take, drop, replicate}
use Rattle.ring.specs.Table.{present}
use Rattle.session.specs.declared.Session.{Session}
use Rattle.session.specs.Session.{empty_table, unmarked}
use Rattle.session_block.specs.Block.{mark_in, mark_bytes, session_bytes}

-- a table of 1,024 bytes that begins with these two
abbrev pub room : ℕ → ℕ → List ℕ
room a b = a ∷ b ∷ replicate 1022 0

-- U = 1 and G = 0, with B and D marked
abbrev pub sample : Session
sample =
    record {
      unknowns = 1;
      givens = 0;
      table = room 1 1;
      marks = unmarked ∷ record { set = true; table = room 0 1 } ∷ unmarked ∷ record { set = true; table = room 1 0 } ∷ [];
    }

pub sample_bytes : (length (session_bytes sample) ≡ 5126)
    × (take 5 (session_bytes sample) ≡ 1 ∷ 0 ∷ 1 ∷ 1 ∷ 0 ∷ [])
    × (take 4 (drop 1025 (session_bytes sample)) ≡ 0 ∷ 0 ∷ 0 ∷ 0 ∷ [])
    × (take 4 (drop 2050 (session_bytes sample)) ≡ 0 ∷ 1 ∷ 0 ∷ 1 ∷ [])
    × (take 4 (drop 3075 (session_bytes sample)) ≡ 0 ∷ 0 ∷ 0 ∷ 0 ∷ [])
    × (take 4 (drop 4100 (session_bytes sample)) ≡ 0 ∷ 1 ∷ 1 ∷ 0 ∷ [])
unfolding session_bytes mark_bytes unmarked empty_table
sample_bytes = (refl, refl, refl, refl, refl, refl)

pub bytes_mark : ((mark_in (0 ∷ room 0 1)).set ≡ false) × ((mark_in (1 ∷ room 0 1)).set ≡ true) × ((mark_in (2 ∷ room 0 1)).set ≡ false)
unfolding mark_in present
bytes_mark = (refl, refl, refl)
