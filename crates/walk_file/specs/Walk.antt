-- What `walk` prints (document 01, 'Programs'): it 'reads the volume named `volume` of at most 65,536 bytes and prints the count, or `refused`,
-- the number and the count passed; a missing or longer file prints `unreadable`. The walk starts at place 0.'
-- Assumes nothing.
use Rattle.std.specs.Prelude.{cond, List, ℕ, leb, length}
use Rattle.calls.specs.Walk.{walk_reply}
use Rattle.printing.specs.Print.{unreadable_line, reply_line}

-- for the bytes of the file
unfoldable pub walk_printed : List ℕ → List ℕ
walk_printed volume = cond (leb (length volume) 65536) (reply_line (walk_reply volume 0)) unreadable_line
