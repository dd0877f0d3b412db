-- What `walk` prints for a file, by how it was loaded: 'a missing or longer file prints `unreadable`' (document 01, 'Programs').
-- Assumes nothing.
use Rattle.std.specs.Prelude.{List, ℕ, ◌<◌, Option, Some, None, Result, Ok, Err, take}
use Rattle.printing.specs.Print.{unreadable_line}
use Rattle.walk_file.specs.declared.LoadError.{LoadError}
use Rattle.walk_file.specs.Walk.{walk_printed}

-- 'at most 65,536 bytes': the room has one more, so that a longer file is seen
abbrev pub room_length : ℕ
room_length = 65537

-- a file that ended leaves room; none is the length of one that is too long, and a file that cannot be read has an error in its place
abbrev pub loaded_within : Result (Option ℕ) LoadError → Type 0
loaded_within (Ok (Some n)) = n < room_length
loaded_within (Ok None) = Unit {0}
loaded_within (Err e) = Unit {0}

-- for a file whose bytes stand at the front of the room
unfoldable pub loaded_printed : Result (Option ℕ) LoadError → List ℕ → List ℕ
loaded_printed (Ok (Some n)) room = walk_printed (take n room)
loaded_printed (Ok None) room = unreadable_line
loaded_printed (Err e) room = unreadable_line
