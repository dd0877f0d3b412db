-- A line taken apart: what each test of the code tells of `read_line`.
-- Assumes nothing.
use mathlib.Core.Path.{◌≡◌, refl}
use mathlib.Core.Bool.{Bool, true, false, not}
use mathlib.Core.List.{List, [], ◌∷◌, ◌++◌}
use Prim.Native.Nat.{ℕ, ◌+◌, ◌-◌, ◌*◌, ◌≤◌, ◌<◌}
use native.Mathlib.Numerals.{add-one}
use native.Mathlib.Omega.{arith}
use lib.Dec.{eqb, leb}
use lib.ListN.{length, get_or, take, drop, length-drop}
use lib.Seq.{take-suc, get_or-drop}
use borrow.Author.Tests.{leb-true, eqb-true}
use Rattle.ring.proofs.Bool.{and_left, and_right}
use Rattle.tables.proofs.Questions.{failed, passed}
use Rattle.grammar.specs.Symbols.{space}
use Rattle.std.specs.Prelude.{Some, None}
use Rattle.std.specs.Char.{is_ascii_digit}
use Rattle.sheet_lines.specs.Fields.{digits_ahead, number_behind, has_letters, is_readable, fields, read_line}

-- ---- the number that digits say
number_snoc : (xs : List ℕ) (n x : ℕ) → number_behind n (xs ++ (x ∷ [])) ≡ 10 * number_behind n xs + (x - 48)
unfolding number_behind
number_snoc [] n x = refl
number_snoc (y ∷ xs) n x = number_snoc xs (10 * n + (y - 48)) x

pub number_more : (xs : List ℕ) (i : ℕ) {n d : ℕ} → i < length xs → n ≡ number_behind 0 (take i xs) → d ≡ get_or xs i 0 - 48
    → 10 * n + d ≡ number_behind 0 (take (i + 1) xs)
number_more xs i l en ed = rw (en, ed, add-one i, take-suc xs i 0 l, number_snoc) refl

-- ---- what stands between the route and the text
-- they take five bytes
pub letters-length : (s : List ℕ) → has_letters s ≡ true → 5 ≤ length s
unfolding has_letters
letters-length s h =
    go s (eqb-true _ _ (and_right (is_ascii_digit (get_or s 3 0)) _
    (and_right (eqb (get_or s 2 0) space) _ (and_right (is_ascii_digit (get_or s 1 0)) _ (and_right (eqb (get_or s 0 0) space) _ h)))))
  where
    go : (s : List ℕ) → get_or s 4 0 ≡ 32 → 5 ≤ length s
    go [] e = absurd (omega arith)
    go (a ∷ []) e = absurd (omega arith)
    go (a ∷ (b ∷ [])) e = absurd (omega arith)
    go (a ∷ (b ∷ (c ∷ []))) e = absurd (omega arith)
    go (a ∷ (b ∷ (c ∷ (d ∷ [])))) e = absurd (omega arith)
    go (a ∷ (b ∷ (c ∷ (d ∷ (f ∷ s))))) e = omega arith

-- ---- the whole line
module _ (line : List ℕ) where
  -- what is known of a readable line
  pub record Fits (k : ℕ) : Type 0 where
    pub some : 1 ≤ k
    pub few : k ≤ 3
    pub room : k + 5 ≤ length line

  pub readable_fits : {r : Bool} {k : ℕ} → r ≡ is_readable line → not r ≡ false → k ≡ digits_ahead line → Fits k
  unfolding is_readable
  readable_fits e t f =
      rw f
      (let h : is_readable line ≡ true = passed e t in
      let behind = and_right (leb (length line) 300) _ h in
      let further = and_right (leb 1 (digits_ahead line)) _ behind in
      let letters = letters-length (drop (digits_ahead line) line) (and_right (leb (digits_ahead line) 3) _ further) in
      record {
        some = leb-true _ _ (and_left (leb 1 (digits_ahead line)) _ behind);
        few = leb-true _ _ (and_left (leb (digits_ahead line) 3) _ further);
        room = omega (arith, letters, length-drop (digits_ahead line) line);
      })

  pub read_no : {r : Bool} → r ≡ is_readable line → not r ≡ true → None ≡ read_line line
  unfolding read_line
  read_no e t = rw (failed e t)

  pub read_yes : {r : Bool} {k route u g : ℕ} → r ≡ is_readable line → not r ≡ false → k ≡ digits_ahead line
      → route ≡ number_behind 0 (take k line)
      → u ≡ get_or line (k + 1) 0 - 48 → g ≡ get_or line (k + 3) 0 - 48 → Some (record { route = route; unknowns = u; givens = g; text = k + 5 }) ≡ read_line line
  unfolding read_line fields
  read_yes {k = k} e t f er eu eg = rw (passed e t, ← f, get_or-drop k line 1 0, get_or-drop k line 3 0, er, eu, eg)
