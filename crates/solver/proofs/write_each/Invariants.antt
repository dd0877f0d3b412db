-- `solver::write_each` meets its contract: the tables of the unknowns below x are written, and counted. Assumes nothing.
use Rattle.std.proofs.Common.{◌≡◌, Bool, ℕ, ◌-◌, ◌*◌, ◌^◌, ◌≤◌, length}
use Rattle.ring.specs.Length.{total_count}
use Rattle.tables.proofs.Filled.{filled}
use Rattle.solver.specs.Inner.Words.{MakesValues, made_by}
use Rattle.solver.proofs.Tables.{answer_byte}
use Rattle.solver.proofs.write_each.Given as goal

abbrev pub invariant-loop-x : goal.invariant-loop-x
invariant-loop-x g l = record {
  room : length l.own ≡ 2 ^ (l.letters.n - 6);
  size : length l.answers ≡ length l.initial.answers;
  small : l.total ≤ l.x * 1024;
  made : (h : ℕ → Bool → ℕ → Bool) → MakesValues l.letters (goal.F-post g l.take) h
      → (l.answers ≡ filled (l.x * l.letters.table_len) (answer_byte l.letters.n (made_by l.letters h l.parts)) l.initial.answers)
      × (l.total ≡ total_count l.x l.letters.n (made_by l.letters h l.parts));
}
