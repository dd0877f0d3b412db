-- The line that a walk prints, by its answer.
-- Assumes nothing.
use mathlib.Core.Path.{◌≡◌, sym, ap, ◌∙◌}
use mathlib.Core.List.{List, [], ◌∷◌}
use Prim.Native.Nat.{ℕ, ◌≤◌, ◌<◌}
use lib.ListN.{length}
use borrow.Author.Tests.{le-leb, lt-leb}
use Rattle.tables.specs.Answered.{Reply, accepted, Answered, answered}
use Rattle.std.specs.Prelude.{Result, Ok, Err}
use Rattle.tables.specs.Questions.{number}
use Rattle.calls.specs.declared.Stopped.{Stopped}
use Rattle.calls.specs.Walk.{walk_reply, walk_call, walked}
use Rattle.printing.specs.Print.{unreadable_line, refused_line, reply_line}
use Rattle.walk_file.specs.Walk.{walk_printed}

module _ (volume : List ℕ) where
  pub walk_long : 65536 < length volume → unreadable_line ≡ walk_printed volume
  unfolding walk_printed
  walk_long h = rw (lt-leb (length volume) 65536 h)

  given : (r : Result ℕ Stopped) → answered (walked r) [] ≡ walk_call volume 0 → walked r ≡ walk_reply volume 0
  given r e = ap (λ (a : Answered Reply). a.gives) e

  module _ (h : length volume ≤ 65536) {r : Result ℕ Stopped} (e : answered (walked r) [] ≡ walk_call volume 0) where
    pub walk_count : {count : ℕ} → r ≡ Ok count → reply_line (accepted (count ∷ [])) ≡ walk_printed volume
    unfolding walk_printed
    walk_count er = rw (le-leb (length volume) 65536 h) (ap reply_line (ap walked (sym er) ∙ given r e))

    pub walk_refused : {stopped : Stopped} → r ≡ Err stopped
        → refused_line (number stopped.question) (stopped.passed ∷ []) ≡ walk_printed volume
    unfolding walk_printed reply_line
    walk_refused er = rw (le-leb (length volume) 65536 h) (ap reply_line (ap walked (sym er) ∙ given r e))
