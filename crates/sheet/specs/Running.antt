-- How far a run of `sheet` has come: how many bytes were read, how many were written, and what is carried.
-- No contract of the C library says which bytes a read gives and that those of a write go out, so what is said of a run is said of some
-- input of as many bytes as were read, and of the number of bytes that were written.
-- Assumes nothing.
use Rattle.std.specs.Prelude.{◌≡◌, List, ℕ, ◌+◌, ◌-◌, ◌<◌, length, take, Option, Some, None, Result, Ok, Err}
use Rattle.sheet_lines.specs.Sheet.{sheet}
use Rattle.sheet_lines.specs.Pieces.{Carried, carry_all, prints_all}
use Rattle.sheet.specs.declared.Progress.{Progress}

-- what a piece of the input does, where the run has come to `before` and c is carried
pub record Advances (before : Progress) (c : Carried) (piece : List ℕ) (after : Progress) (c' : Carried) : Type 0 where
  pub all_read : after.read ≡ before.read + length piece
  pub all_written : after.written ≡ before.written + length (prints_all c piece)
  pub carries : c' ≡ carry_all c piece

-- what is done with what a read gave, unless the run stops: all its bytes are printed, and at the end of the input, where it gave none, the
-- run goes no further and all stays; a read that failed is never taken
abbrev pub Takes : {E : Type 0} → Result ℕ E → List ℕ → Progress → Carried → Option Progress → Carried → Type 0
Takes (Ok n) room before c (Some after) c' = (0 < n) × Advances before c (take n room) after c'
Takes (Ok n) room before c None c' = (n ≡ 0) × (c' ≡ c)
Takes (Err e) room before c step c' = ⊥

-- what a read and its taking do: a piece at the front of the room is printed, or the input has ended
abbrev pub Steps : List ℕ → Progress → Carried → Option Progress → Carried → Type 0
Steps room before c (Some after) c' = (before.read < after.read) × Advances before c (take (after.read - before.read) room) after c'
Steps room before c None c' = c' ≡ c

-- a run that has ended has written what `sheet` prints for its input
pub record Ran (read written : ℕ) : Type 0 where
  pub input : List ℕ
  pub all_read : read ≡ length input
  pub all_written : written ≡ length (sheet input)
