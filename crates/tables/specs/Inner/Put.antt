-- Bytes put into an output at a place, as the writer and the programs put them one part behind another.
-- Assumes nothing.
use Rattle.std.specs.Prelude.{◌≡◌, List, ℕ, ◌+◌, ◌≤◌, length}
use Rattle.std.proofs.lemmas.List.Edits.{sets}

-- `new` is `old` with the bytes vs from the place `at` on, all of them inside, and `next` is the place behind them
pub record Put (old : List ℕ) (at : ℕ) (vs : List ℕ) (next : ℕ) (new : List ℕ) : Type 0 where
  pub place : next ≡ at + length vs
  pub inside : next ≤ length old
  pub bytes : new ≡ sets old at vs
