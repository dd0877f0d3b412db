-- What a line, a byte and a piece of the input do: the code's steps, in the terms of `Pieces`.
-- Assumes nothing.
use mathlib.Core.Path.{◌≡◌, refl, sym, ap, ◌∙◌}
use mathlib.Core.Bool.{true, false, true≢false}
use mathlib.Core.List.{List, [], ◌∷◌, ◌++◌, append-nil}
use mathlib.Core.Logic.{◌⊎◌, inl, inr}
use Prim.Native.Nat.{ℕ, ◌+◌, ◌-◌, ◌≤◌, ◌<◌}
use native.Mathlib.Numerals.{add-one}
use native.Mathlib.Decide.{dec_lt}
use native.Mathlib.Omega.{arith}
use lib.ListN.{length, get_or, take, drop, length-append}
use lib.Seq.{take-suc, take_all, take-append-le}
use borrow.Author.Tests.{eq-eqb, ne_eqb}
use Rattle.ring.proofs.Bool.{bool_cases}
use Rattle.tables.specs.Inner.Put.{Put}
use Rattle.tables.proofs.Put.{put_none, put_both, put_same}
use Rattle.tables.proofs.Slices.{rest_of}
use Rattle.printing.specs.Print.{unreadable_line}
use Rattle.sheet_lines.specs.declared.Line.{Line}
use Rattle.std.specs.Prelude.{◌==◌, ◌≢◌, ◌↔◌, min, Bool, Option, Some, None, IsOk, OnOk, Result, Ok, Err}
use Rattle.std.proofs.Math.Nat.{min-le_left}
use Rattle.std.proofs.lemmas.Bool.Decides.{nat_tests}
use Rattle.std.proofs.lemmas.List.{length-take}
use Rattle.sheet_lines.specs.declared.Printed.{Printed}
use Rattle.sheet_lines.specs.declared.Fed.{Fed}
use Rattle.sheet_lines.specs.Fields.{is_readable, fields, read_line}
use Rattle.sheet_lines.specs.Sheet.{printed_for, last_for, printed, last_behind}
use Rattle.sheet_lines.specs.Pieces.{Carried, kept_length, carry, prints, carry_all, prints_all, prints_last}
use Rattle.sheet_lines.specs.Inner.Feeding.{line_room, Answers, PrintsLine, Took, Feeds}
use Rattle.sheet_lines.proofs.Fields.{readable_fits}
use Rattle.sheet_lines.proofs.Pieces.{carry-append, prints-append}

-- ---- what a test of the number of bytes kept tells
pub counted_yes : (n m : ℕ) {r : Bool} → r ≡ (n == m) → r ≡ true → n ≡ m
counted_yes n m e t = grind (arith, nat_tests)

pub counted_no : (n m : ℕ) {r : Bool} → r ≡ (n == m) → r ≡ false → n ≢ m
counted_no n m e t = grind (arith, nat_tests)

-- as many bytes as are kept, or all, fit
pub first_fits : (n : ℕ) (bytes : List ℕ) → n ≡ min 301 (length bytes) → 0 + length (take n bytes) ≤ 301
first_fits n bytes e = omega (arith, e, min-le_left 301 (length bytes), min-le_left n (length bytes), length-take n bytes)

-- what fits is taken
pub fitted : {A E P Q : Type 0} (r : Result A E) → (IsOk r ↔ P) → P → OnOk r Q → Q
fitted (Ok _) iff p q = q
fitted (Err _) iff p q = absurd (true≢false (sym (iff.1 p)))

-- ---- a line
module _ (line : List ℕ) {r : Option Line} (e : r ≡ read_line line) where
  -- the text begins within the line
  pub text_inside : {l : Line} → r ≡ Some l → l.text ≤ length line
  unfolding read_line fields
  text_inside {l} er = go (bool_cases (is_readable line))
    where
      go : (is_readable line ≡ true) ⊎ (is_readable line ≡ false) → l.text ≤ length line
      go (inl t) =
          let s : read_line line ≡ Some (fields line) = rw t in
          let f = readable_fits line {r = true} (sym t) refl refl in
          let p : l ≡ fields line = cc in
          omega (arith, f, ap (λ (x : Line). x.text) p)
      go (inr t) =
          let s : read_line line ≡ None = rw t in
          cc

  module _ (last : ℕ) (out : List ℕ) (at : ℕ) where
    pub prints_answer : {l : Line} → r ≡ Some l → {p : Printed} {new : List ℕ}
        → Answers last l (take (length line - l.text) (drop l.text line)) out at p new
        → PrintsLine last line out at p new
    unfolding printed printed_for last_behind last_for
    prints_answer {l} er {p} {new} a =
        let is : read_line line ≡ Some l = sym e ∙ er in
        let b : Answers last l (drop l.text line) out at p new = rw (rest_of l.text line) at a in
        record { last_is = rw is b.last_is; put = rw is b.put }

    pub prints_unreadable : r ≡ None → {next : ℕ} {new : List ℕ} → Put out at unreadable_line next new
        → PrintsLine last line out at (record { last = last; next = next }) new
    unfolding printed printed_for last_behind last_for
    prints_unreadable er p =
        let is : read_line line ≡ None = sym e ∙ er in
        record { last_is = rw is; put = rw is p }

-- ---- a byte
module _ (c : Carried) (byte : ℕ) (out : List ℕ) (at : ℕ) where
  pub took_line : byte ≡ 10 → {p : Printed} {new : List ℕ} → PrintsLine c.last c.begun out at p new
      → Took c (byte ∷ []) out at 1 p.next (record { last = p.last; begun = [] }) new
  unfolding carry_all prints_all carry prints
  took_line e a =
      record {
        within = omega arith;
        carries = rw (eq-eqb byte 10 e, a.last_is);
        prints = put_same a.put (sym (rw (eq-eqb byte 10 e) (append-nil (printed c.last c.begun))));
      }

  module _ (n : byte ≡ 10 → ⊥) (room : at ≤ length out) where
    pub took_kept : length c.begun < 301
        → Took c (byte ∷ []) out at 1 at (record { last = c.last; begun = c.begun ++ (byte ∷ []) }) out
    unfolding carry_all prints_all carry prints
    took_kept l =
        let short : take kept_length (c.begun ++ (byte ∷ [])) ≡ c.begun ++ (byte ∷ []) =
        take_all 301 (c.begun ++ (byte ∷ [])) (omega (arith, length-append c.begun (byte ∷ []))) in
        record {
          within = omega arith;
          carries = rw (ne_eqb byte 10 n, short);
          prints = rw (ne_eqb byte 10 n) (put_none out at room);
        }

    pub took_full : length c.begun ≡ 301 → Took c (byte ∷ []) out at 1 at c out
    unfolding carry_all prints_all carry prints
    took_full l =
        let cut : take kept_length (c.begun ++ (byte ∷ [])) ≡ c.begun = take-append-le 301 c.begun (byte ∷ []) (omega arith)
        ∙ take_all 301 c.begun (omega arith) in
        record {
          within = omega arith;
          carries = rw (ne_eqb byte 10 n, cut);
          prints = rw (ne_eqb byte 10 n) (put_none out at room);
        }

-- ---- a piece
module _ (c : Carried) (piece out : List ℕ) (at : ℕ) where
  pub took_none : at ≤ length out → Took c piece out at 0 at c out
  unfolding carry_all prints_all
  took_none room = record { within = omega arith; carries = refl; prints = put_none out at room }

  pub took_more : {used next₁ next₂ : ℕ} {c₁ c₂ : Carried} {out₁ out₂ : List ℕ} → used < length piece
      → Took c piece out at used next₁ c₁ out₁
      → Took c₁ (get_or piece used 0 ∷ []) out₁ next₁ 1 next₂ c₂ out₂
      → Took c piece out at (used + 1) next₂ c₂ out₂
  took_more {used} {next₁} {next₂} {c₁} {c₂} {out₁} {out₂} l t s =
      let b : ℕ = get_or piece used 0 in
      let split : take (used + 1) piece ≡ take used piece ++ (b ∷ []) = rw add-one (take-suc piece used 0 l) in
      record {
        within = omega arith;
        carries = s.carries ∙ ap (λ (x : Carried). carry_all x (b ∷ [])) t.carries ∙ sym (carry-append c (take used piece) (b ∷ []))
            ∙ ap (carry_all c) (sym split);
        prints =
            put_same (put_both t.prints s.prints)
            (ap (λ (x : Carried). prints_all c (take used piece) ++ prints_all x (b ∷ [])) t.carries
            ∙ sym (prints-append c (take used piece) (b ∷ []))
            ∙ ap (prints_all c) (sym split));
      }

-- ---- the end of the input
module _ (c : Carried) (out : List ℕ) (at : ℕ) where
  pub last_none : length c.begun ≡ 0 → at ≤ length out → Put out at (prints_last c) at out
  unfolding prints_last
  last_none z h = rw z (put_none out at h)

  pub last_line : (length c.begun ≡ 0 → ⊥) → {p : Printed} {new : List ℕ} → PrintsLine c.last c.begun out at p new
      → Put out at (prints_last c) p.next new
  unfolding prints_last
  last_line n p = rw (ne_eqb (length c.begun) 0 n) p.put

-- a piece moves on wherever the output has room for a line
module _ (c : Carried) (piece out : List ℕ) (r : Fed) (c' : Carried) (out' : List ℕ) (f : Feeds c piece out 0 r c' out') where
  none_printed : r.used ≡ 0 → r.next ≡ 0
  unfolding prints_all
  none_printed z = let place : r.next ≡ 0 + length (prints_all c (take 0 piece)) = rw z at f.took.prints.place in place

  pub feeds_some : line_room ≤ length out → 0 < length piece → 0 < r.used
  feeds_some room some = go (dec_lt 0 r.used)
    where
      go : Dec (0 < r.used) → 0 < r.used
      go (yes h) = h
      go (no h) = let z : r.used ≡ 0 = omega arith in absurd (omega (arith, f.stops (omega arith), none_printed z))
