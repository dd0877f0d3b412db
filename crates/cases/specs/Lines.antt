-- What is done with the lines of an input.
use Rattle.std.specs.Prelude.{ℕ, List, ◌==◌}
use Rattle.std.specs.List.{FoldsTo, slice_split}
use Rattle.std.specs.Fn.{CalledAt}
use denote.Param.Members.{Mut}
use denote.Ref.{Bor}

-- f was called at each line of the bytes in turn, and each call may have answered r
abbrev pub RunsEachLine : {F R : Type 0} → Mut F (Bor (List ℕ) × Unit {0}) R → F → R → List ℕ → Type 0
RunsEachLine {F} g f r bytes = (last : F) × FoldsTo (λ now line next. CalledAt g now line r next) f (slice_split (λ byte. byte == 10) bytes) last
