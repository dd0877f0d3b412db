-- The lines of words and numbers, part by part.
-- Assumes nothing.
use mathlib.Core.Path.{◌∙◌}
use mathlib.Core.List.{List, [], ◌∷◌, ◌++◌, append_assoc}
use Prim.Native.Nat.{ℕ, ◌+◌, ◌<◌}
use lib.ListN.{length, set}
use Rattle.tables.specs.Inner.Put.{Put}
use Rattle.tables.specs.Answered.{accepted}
use Rattle.tables.proofs.Put.{put_both, put_one, put_same}
use Rattle.printing.specs.Print.{line_feed, decimal, refused_word, spaced, refused_line, reply_line}

-- the number behind the word, and the end of the line
pub refused_put : (number : ℕ) {old new : List ℕ} {at next : ℕ} → Put old at (refused_word ++ (32 ∷ decimal number)) next new
    → next < length old
    → Put old at (refused_line number []) (next + 1) (set new next line_feed)
unfolding refused_line spaced
refused_put number p h = put_same (put_one p h line_feed) (append_assoc refused_word (32 ∷ decimal number) (line_feed ∷ []))

-- the same with one number more
pub refused_behind_put : (number passed : ℕ) {old mid new : List ℕ} {at next last : ℕ}
    → Put old at (refused_word ++ (32 ∷ decimal number)) next mid
    → Put mid next (32 ∷ decimal passed) last new → last < length old
    → Put old at (refused_line number (passed ∷ [])) (last + 1) (set new last line_feed)
unfolding refused_line spaced
refused_behind_put number passed p q h =
    put_same (put_one (put_both p q) h line_feed)
    (append_assoc (refused_word ++ (32 ∷ decimal number)) (32 ∷ decimal passed) (line_feed ∷ [])
    ∙ append_assoc refused_word (32 ∷ decimal number) (32 ∷ (decimal passed ++ (line_feed ∷ []))))

-- a count alone
pub count_put : (count : ℕ) {old new : List ℕ} {at next : ℕ} → Put old at (decimal count) next new → next < length old
    → Put old at (reply_line (accepted (count ∷ []))) (next + 1) (set new next line_feed)
unfolding reply_line spaced
count_put count p h = put_one p h line_feed
