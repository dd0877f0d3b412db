-- What stands before the monomials of an entry, and the entry that was listed behind it.
-- Assumes nothing.
use Rattle.std.specs.Prelude.{List, ℕ}
use Rattle.entry.specs.Record.{Record, bytes}
use Rattle.writer.specs.declared.heads.Heads.{Heads}
use Rattle.writer.specs.declared.Listing.{Listing}
use Rattle.writer.specs.Inner.Steps.{archived_heads, entry_from}

-- what stands between the start and the condition
abbrev pub heads_of : Heads → List Record
heads_of h = archived_heads h.ordered.letters.unknowns h.ordered.letters.n h.ordered.order h.fact.now

-- the bytes of the entry that was listed
abbrev pub entry_of : Heads → Listing → List ℕ → List ℕ
entry_of h found codes = bytes (entry_from h.route h.ordered.letters.unknowns h.ordered.letters.givens (heads_of h) found codes)
