-- A piece is printed part by part, and an input piece by piece: what each part does, put behind what those before it did.
-- Assumes nothing.
use mathlib.Core.Path.{◌≡◌, refl, sym, ap, ◌∙◌}
use mathlib.Core.List.{List, [], ◌∷◌, ◌++◌, append_assoc, append-nil}
use Prim.Native.Nat.{ℕ, ◌+◌, ◌-◌}
use native.Mathlib.Omega.{arith}
use lib.ListN.{length, take, drop, length-append}
use Rattle.std.proofs.lemmas.List.{take-append-drop}
use Rattle.tables.proofs.Slices.{rest_of}
use Rattle.sheet_lines.specs.declared.Fed.{Fed}
use Rattle.sheet_lines.specs.Sheet.{sheet}
use Rattle.sheet_lines.specs.Pieces.{Carried, carry_all, prints_all, prints_last, nothing_carried, joined, prints_pieces}
use Rattle.sheet_lines.specs.Inner.Feeding.{Feeds}
use Rattle.sheet_lines.proofs.Pieces.{carry-append, prints-append, sheet_in_pieces}
use Rattle.sheet.specs.declared.Progress.{Progress}
use Rattle.sheet.specs.Running.{Advances, Ran}

-- nothing of a piece
pub advances_none : (before : Progress) (c : Carried) → Advances before c [] before c
unfolding carry_all prints_all
advances_none before c = record { all_read = omega arith; all_written = omega arith; carries = refl }

-- one piece behind another
pub advances_both : {p₀ p₁ p₂ : Progress} {c₀ c₁ c₂ : Carried} {xs ys : List ℕ} → Advances p₀ c₀ xs p₁ c₁ → Advances p₁ c₁ ys p₂ c₂
    → Advances p₀ c₀ (xs ++ ys) p₂ c₂
advances_both {p₀ = p₀} {c₀ = c₀} {c₁ = c₁} {c₂ = c₂} {xs = xs} {ys = ys} a b =
    let prints : prints_all c₀ (xs ++ ys) ≡ prints_all c₀ xs ++ prints_all c₁ ys =
    prints-append c₀ xs ys ∙ ap (λ (c : Carried). prints_all c₀ xs ++ prints_all c ys) (sym a.carries) in
    record {
      all_read = omega (arith, a.all_read, b.all_read, length-append xs ys);
      all_written = omega (arith, a.all_written, b.all_written, ap length prints, length-append (prints_all c₀ xs) (prints_all c₁ ys));
      carries = b.carries ∙ ap (λ (c : Carried). carry_all c ys) a.carries ∙ sym (carry-append c₀ xs ys);
    }

-- the part of a piece that is behind what is left of it
pub record Passed (before : Progress) (c : Carried) (piece rest : List ℕ) (written : ℕ) (c' : Carried) : Type 0 where
  pub front : List ℕ
  pub whole : front ++ rest ≡ piece
  pub all_written : written ≡ before.written + length (prints_all c front)
  pub carries : c' ≡ carry_all c front

module _ (before : Progress) (c : Carried) (piece : List ℕ) where
  -- before any part of a piece
  pub piece_starts : Passed before c piece piece before.written c
  unfolding carry_all prints_all
  piece_starts = record { front = []; whole = refl; all_written = omega arith; carries = refl }

  -- one more part, as far as there was room
  pub piece_more : (rest : List ℕ) (written₁ written₂ : ℕ) (c₁ c₂ : Carried) (out out' : List ℕ) (r : Fed)
      → Passed before c piece rest written₁ c₁ → Feeds c₁ rest out 0 r c₂ out' → written₂ ≡ written₁ + r.next
      → Passed before c piece (take (length rest - r.used) (drop r.used rest)) written₂ c₂
  piece_more rest written₁ written₂ c₁ c₂ out out' r a f w =
      let part : List ℕ = take r.used rest in
      let prints : prints_all c (a.front ++ part) ≡ prints_all c a.front ++ prints_all c₁ part =
      prints-append c a.front part ∙ ap (λ (x : Carried). prints_all c a.front ++ prints_all x part) (sym a.carries) in
      record {
        front = a.front ++ part;
        whole = append_assoc a.front part (take (length rest - r.used) (drop r.used rest)) ∙ ap (λ (l : List ℕ). a.front ++ l) (ap (λ (l : List ℕ). take r.used rest ++ l) (rest_of r.used rest) ∙ take-append-drop r.used rest) ∙ a.whole;
        all_written = omega (
          arith,
          w,
          a.all_written,
          f.took.prints.place,
          ap length prints,
          length-append (prints_all c a.front) (prints_all c₁ part),
        );
        carries = f.took.carries ∙ ap (λ (x : Carried). carry_all x part) a.carries ∙ sym (carry-append c a.front part);
      }

  pub piece_ends : (rest : List ℕ) (read written : ℕ) (c₁ : Carried) → Passed before c piece rest written c₁ → length rest ≡ 0
      → read ≡ before.read + length piece
      → Advances before c piece (record { read = read; written = written }) c₁
  piece_ends [] read written c₁ a z e =
      let all : a.front ≡ piece = sym (append-nil a.front) ∙ a.whole in
      record { all_read = e; all_written = rw all at a.all_written; carries = rw all at a.carries }
  piece_ends (x ∷ rest) read written c₁ a z e = absurd (omega arith)

-- how far a run has come, behind some input
pub record Reached (after : Progress) (c : Carried) : Type 0 where
  pub input : List ℕ
  pub by : Advances (record { read = 0; written = 0 }) nothing_carried input after c

pub reached_start : Reached (record { read = 0; written = 0 }) nothing_carried
reached_start = record { input = []; by = advances_none _ _ }

pub reached_more : {p₁ p₂ : Progress} {c₁ c₂ : Carried} {piece : List ℕ} → Reached p₁ c₁ → Advances p₁ c₁ piece p₂ c₂ → Reached p₂ c₂
reached_more {piece = piece} p a = record { input = p.input ++ piece; by = advances_both p.by a }

-- a whole input is one piece
whole : (input : List ℕ) → prints_all nothing_carried input ++ prints_last (carry_all nothing_carried input) ≡ sheet input
unfolding prints_pieces joined
whole input = sheet_in_pieces (input ∷ []) ∙ ap sheet (append-nil input)

pub reached_end : {after : Progress} {total : ℕ} {c : Carried} → Reached after c → total ≡ after.written + length (prints_last c)
    → Ran after.read total
reached_end {c = c} p t =
    let all : sheet p.input ≡ prints_all nothing_carried p.input ++ prints_last c =
    sym (whole p.input) ∙ ap (λ (x : Carried). prints_all nothing_carried p.input ++ prints_last x) (sym p.by.carries) in
    record {
      input = p.input;
      all_read = omega (arith, p.by.all_read);
      all_written = omega (arith, t, p.by.all_written, ap length all, length-append (prints_all nothing_carried p.input) (prints_last c));
    }
