-- A sheet in pieces is the sheet: what is carried from byte to byte is enough, although at most 301 bytes of a line are kept.
-- `sheet_in_pieces` is the headline. Behind it: what is printed for the bytes that come, with the line that has begun in front of them, is
-- what is printed for the lines of all of them; and a line of over 300 bytes is unreadable, cut to 301 bytes as well as whole.
-- Assumes nothing.
use mathlib.Core.Path.{◌≡◌, refl, sym, ap, ap₂, ◌∙◌}
use mathlib.Core.Bool.{true, false}
use mathlib.Core.List.{List, [], ◌∷◌, ◌++◌, append_assoc, append-nil}
use mathlib.Core.Logic.{◌⊎◌, inl, inr}
use Prim.Native.Nat.{ℕ, suc, ◌≤◌, ◌<◌}
use native.Mathlib.Decide.{dec_le}
use native.Mathlib.Omega.{arith}
use lib.Dec.{eqb}
use lib.ListN.{length, take, length-append, length-take}
use lib.Seq.{take_all}
use borrow.Author.Tests.{lt-leb, ne_eqb}
use Rattle.ring.proofs.Bool.{bool_cases}
use Rattle.printing.specs.Print.{line_feed, unreadable_line}
use Rattle.std.specs.Prelude.{None}
use Rattle.sheet_lines.specs.Fields.{is_readable, read_line}
use Rattle.sheet_lines.specs.Sheet.{printed_for, last_for, printed, last_behind, in_front, lines_of, printed_lines, sheet}
use Rattle.sheet_lines.specs.Pieces.{Carried, kept_length, carry, prints, carry_all, prints_all, prints_last, nothing_carried, joined}
use Rattle.sheet_lines.specs.Pieces.{prints_pieces}

-- ---- one piece behind another
pub carry-append : (c : Carried) (xs ys : List ℕ) → carry_all c (xs ++ ys) ≡ carry_all (carry_all c xs) ys
unfolding carry_all
carry-append c [] ys = refl
carry-append c (x ∷ xs) ys = carry-append (carry c x) xs ys

pub prints-append : (c : Carried) (xs ys : List ℕ) → prints_all c (xs ++ ys) ≡ prints_all c xs ++ prints_all (carry_all c xs) ys
unfolding carry_all prints_all
prints-append c [] ys = refl
prints-append c (x ∷ xs) ys =
    ap (λ (l : List ℕ). prints c x ++ l) (prints-append (carry c x) xs ys)
    ∙ sym (append_assoc (prints c x) (prints_all (carry c x) xs) (prints_all (carry_all (carry c x) xs) ys))

-- ---- a line that is too long
too_long : (line : List ℕ) → 300 < length line → read_line line ≡ None
unfolding read_line is_readable
too_long line h = rw (lt-leb (length line) 300 h)

-- cut or whole, such a line gives the same
cut : {A : Type 0} (f : List ℕ → A) (a : A) → ((line : List ℕ) → read_line line ≡ None → f line ≡ a) → (begun line : List ℕ)
    → f (take kept_length begun ++ line) ≡ f (begun ++ line)
cut {A} f a unreadable begun line = go (dec_le (length begun) 301)
  where
    go : Dec (length begun ≤ 301) → f (take kept_length begun ++ line) ≡ f (begun ++ line)
    go (yes h) = ap (λ (l : List ℕ). f (l ++ line)) (take_all 301 begun h)
    go (no h) =
        unreadable (take kept_length begun ++ line)
        (too_long (take kept_length begun ++ line) (omega (arith, length-append (take kept_length begun) line, length-take 301 begun)))
        ∙ sym (unreadable (begun ++ line) (too_long (begun ++ line) (omega (arith, length-append begun line))))

module _ (last : ℕ) (begun line : List ℕ) where
  cut_printed : printed last (take kept_length begun ++ line) ≡ printed last (begun ++ line)
  unfolding printed printed_for
  cut_printed = cut (printed last) unreadable_line (λ l e. rw e) begun line

  cut_last : last_behind last (take kept_length begun ++ line) ≡ last_behind last (begun ++ line)
  unfolding last_behind last_for
  cut_last = cut (last_behind last) last (λ l e. rw e) begun line

  cut_first : (lines : List (List ℕ))
      → printed_lines last ((take kept_length begun ++ line) ∷ lines) ≡ printed_lines last ((begun ++ line) ∷ lines)
  unfolding printed_lines
  cut_first lines = ap₂ (λ (l : List ℕ) (r : ℕ). l ++ printed_lines r lines) cut_printed cut_last

-- ---- bytes in front of the first line
prepend : List ℕ → List (List ℕ) → List (List ℕ)
prepend [] lines = lines
prepend (b ∷ begun) lines = in_front b (prepend begun lines)

prepend_line : (begun line : List ℕ) (lines : List (List ℕ)) → prepend begun (line ∷ lines) ≡ (begun ++ line) ∷ lines
unfolding prepend in_front
prepend_line [] line lines = refl
prepend_line (b ∷ begun) line lines = ap (in_front b) (prepend_line begun line lines)

prepend_none : (b : ℕ) (begun : List ℕ) → prepend (b ∷ begun) [] ≡ (b ∷ begun) ∷ []
unfolding prepend in_front
prepend_none b [] = refl
prepend_none b (x ∷ begun) = ap (in_front b) (prepend_none x begun)

prepend_more : (begun : List ℕ) (b : ℕ) (lines : List (List ℕ)) → prepend begun (in_front b lines) ≡ prepend (begun ++ (b ∷ [])) lines
unfolding prepend
prepend_more [] b lines = refl
prepend_more (x ∷ begun) b lines = ap (in_front x) (prepend_more begun b lines)

cut_prepend : (last : ℕ) (begun : List ℕ) (lines : List (List ℕ))
    → printed_lines last (prepend (take kept_length begun) lines) ≡ printed_lines last (prepend begun lines)
cut_prepend last begun (line ∷ lines) =
    ap (printed_lines last) (prepend_line (take kept_length begun) line lines) ∙ cut_first last begun line lines
    ∙ ap (printed_lines last) (sym (prepend_line begun line lines))
cut_prepend last [] [] = refl
cut_prepend last (b ∷ begun) [] =
    ap (printed_lines last) (prepend_none b (take 300 begun) ∙ ap (λ (l : List ℕ). l ∷ []) (sym (append-nil (b ∷ take 300 begun))))
    ∙ cut_first last (b ∷ begun) [] []
    ∙ ap (printed_lines last) (ap (λ (l : List ℕ). l ∷ []) (append-nil (b ∷ begun)) ∙ sym (prepend_none b begun))

-- ---- the input, behind what is carried
abbrev from : ℕ → List ℕ → Carried
from last begun = record { last = last; begun = begun }

at_end : (last : ℕ) (begun : List ℕ) → prints_last (from last begun) ≡ printed_lines last (prepend begun [])
unfolding prints_last printed_lines prepend
at_end last [] = refl
at_end last (b ∷ begun) =
    rw (ne_eqb (suc (length begun)) 0 (λ e. omega arith))
    (sym (ap (printed_lines last) (prepend_none b begun) ∙ append-nil (printed last (b ∷ begun))))

line_ends : (last : ℕ) (begun : List ℕ) (lines : List (List ℕ))
    → printed last begun ++ printed_lines (last_behind last begun) (prepend [] lines) ≡ printed_lines last (prepend begun ([] ∷ lines))
unfolding printed_lines prepend
line_ends last begun lines = sym (ap (printed_lines last) (prepend_line begun [] lines ∙ ap (λ (l : List ℕ). l ∷ lines) (append-nil begun)))

whole : (bytes : List ℕ) (last : ℕ) (begun : List ℕ)
    → prints_all (from last begun) bytes ++ prints_last (carry_all (from last begun) bytes) ≡ printed_lines last (prepend begun (lines_of bytes))
unfolding prints_all carry_all lines_of carry prints
whole [] last begun = at_end last begun
whole (b ∷ bytes) last begun =
    go (bool_cases (eqb b line_feed)) (whole bytes (last_behind last begun) []) (whole bytes last (take kept_length (begun ++ (b ∷ []))))
  where
    go : (eqb b line_feed ≡ true) ⊎ (eqb b line_feed ≡ false)
        → prints_all (from (last_behind last begun) []) bytes ++ prints_last (carry_all (from (last_behind last begun) []) bytes)
        ≡ printed_lines (last_behind last begun) (prepend [] (lines_of bytes))
        → prints_all (from last (take kept_length (begun ++ (b ∷ [])))) bytes ++ prints_last
        (carry_all (from last (take kept_length (begun ++ (b ∷ [])))) bytes)
        ≡ printed_lines last (prepend (take kept_length (begun ++ (b ∷ []))) (lines_of bytes))
        → prints_all (from last begun) (b ∷ bytes) ++ prints_last (carry_all (from last begun) (b ∷ bytes))
        ≡ printed_lines last (prepend begun (lines_of (b ∷ bytes)))
    go (inl e) ended on =
        rw e
        (append_assoc (printed last begun) (prints_all (from (last_behind last begun) []) bytes)
        (prints_last (carry_all (from (last_behind last begun) []) bytes))
        ∙ ap (λ (l : List ℕ). printed last begun ++ l) ended
        ∙ line_ends last begun (lines_of bytes))
    go (inr e) ended on =
        rw e (on ∙ cut_prepend last (begun ++ (b ∷ [])) (lines_of bytes)
        ∙ ap (printed_lines last) (sym (prepend_more begun b (lines_of bytes))))

pieces_whole : (c : Carried) (pieces : List (List ℕ))
    → prints_pieces c pieces ≡ prints_all c (joined pieces) ++ prints_last (carry_all c (joined pieces))
unfolding prints_pieces joined prints_all carry_all
pieces_whole c [] = refl
pieces_whole c (piece ∷ pieces) =
    ap (λ (l : List ℕ). prints_all c piece ++ l) (pieces_whole (carry_all c piece) pieces)
    ∙ rw (carry-append c piece (joined pieces), prints-append c piece (joined pieces))
    (sym (append_assoc (prints_all c piece) (prints_all (carry_all c piece) (joined pieces))
    (prints_last (carry_all (carry_all c piece) (joined pieces)))))

-- however an input comes in pieces, what is printed for them one after another, with at most 301 bytes of a line kept, is the sheet
pub sheet_in_pieces : (pieces : List (List ℕ)) → prints_pieces nothing_carried pieces ≡ sheet (joined pieces)
unfolding sheet prepend
sheet_in_pieces pieces = pieces_whole nothing_carried pieces ∙ whole (joined pieces) 0 []
