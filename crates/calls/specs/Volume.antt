-- Volumes (document 01, 'Audit and volume'): 'A volume is entries end to end, routes rising; no bytes is a volume of 0 entries.'
-- Assumes nothing.
use Rattle.std.specs.Prelude.{List, [], ◌++◌, ℕ, suc, ◌<◌}
use Rattle.solution.specs.Condition.{Condition}
use Rattle.entry.specs.Entry.{entry, Archivable}

-- the bytes are so many entries end to end, each as the writer makes it, with rising routes above `before`, the last of them `last`
pub data Entries : ℕ → ℕ → ℕ → List ℕ → Type 0 where
  no_entry : {before : ℕ} → Entries before before 0 []
  one_more : {before last count : ℕ} {behind : List ℕ} (route : ℕ) (c : Condition)
      → Archivable route c → before < route → Entries route last count behind → Entries before last (suc count) (entry route c ++ behind)

-- a volume of so many entries: every route is above 0
pub record IsVolume (count : ℕ) (bs : List ℕ) : Type 0 where
  pub last : ℕ
  pub entries : Entries 0 last count bs
