-- Records, each on a line: the lines of several are those of each one behind another, and a line takes at most three bytes for each byte of
-- its record.
-- Assumes nothing.
use mathlib.Core.Path.{◌≡◌, refl, sym, ap, ◌∙◌}
use mathlib.Core.Bool.{true}
use mathlib.Core.List.{List, [], ◌∷◌, ◌++◌, append_assoc, map}
use Prim.Native.Nat.{ℕ, ◌+◌, ◌-◌, ◌*◌, ◌/◌, ◌%◌, ◌≤◌, ◌<◌}
use native.Mathlib.Omega.{arith}
use lib.Dec.{eqb, ltb}
use lib.ListN.{length, get_or, length-append}
use borrow.Author.Tests.{ltb-true}
use Rattle.ring.proofs.Bool.{and_left, and_right}
use Rattle.tables.specs.Inner.Put.{Put}
use Rattle.tables.proofs.Put.{put_same}
use Rattle.entry.specs.Record.{Record, size, kind, bytes}
use Rattle.entry.specs.Inner.Codes.{listed_record}
use Rattle.entry.proofs.Back.{is_whole, all_whole}
use Rattle.entry.proofs.Codes.{condition_listed, answer_listed, each, Putting, putting_start, part_fits, putting_more, putting_end}
use Rattle.printing.specs.Print.{line_feed, hexadecimal, record_lines}
use Rattle.printing.proofs.Hexadecimal.{hex_length}

pub lines_append : (rs ss : List Record) → record_lines (rs ++ ss) ≡ record_lines rs ++ record_lines ss
unfolding record_lines
lines_append [] ss = refl
lines_append (r ∷ rs) ss =
    ap (λ (l : List ℕ). hexadecimal r ++ (line_feed ∷ l)) (lines_append rs ss)
    ∙ sym (append_assoc (hexadecimal r) (line_feed ∷ record_lines rs) (record_lines ss))

-- the line of a record
pub line_of : (r : Record) → record_lines (r ∷ []) ≡ hexadecimal r ++ (line_feed ∷ [])
unfolding record_lines
line_of r = refl

pub line_length : (r : Record) → length (record_lines (r ∷ [])) ≡ 2 * length r + 1
unfolding record_lines
line_length r = length-append (hexadecimal r) (line_feed ∷ []) ∙ ap (λ (k : ℕ). k + 1) (hex_length r)

-- 'three bytes for each of an entry's'
pub lines_most : (rs : List Record) → all_whole rs ≡ true → length (record_lines rs) ≤ 3 * length (bytes rs)
unfolding record_lines bytes all_whole
lines_most [] w = omega arith
lines_most (r ∷ rs) w =
    let some : 0 < length r = ltb-true 0 (length r)
    (and_left (ltb 0 (length r)) (eqb (length r) (size (kind r))) (and_left (is_whole r) (all_whole rs) w)) in
    let behind : length (record_lines rs) ≤ 3 * length (bytes rs) = lines_most rs (and_right (is_whole r) (all_whole rs) w) in
    omega (arith, hex_length r, length-append (hexadecimal r) (line_feed ∷ record_lines rs), length-append r (bytes rs))

-- ---- the monomials that numbers stand for
-- what is printed for one
unfoldable pub code_line : ℕ → List ℕ
code_line code = record_lines (listed_record code ∷ [])

pub each_lines : (codes : List ℕ) → each code_line codes ≡ record_lines (map listed_record codes)
unfolding each code_line record_lines
each_lines [] = refl
each_lines (code ∷ codes) =
    append_assoc (hexadecimal (listed_record code)) (line_feed ∷ []) (each code_line codes)
    ∙ ap (λ (l : List ℕ). hexadecimal (listed_record code) ++ (line_feed ∷ l)) (each_lines codes)

-- one of them by its bytes
record_line : {r bs old new : List ℕ} {at next : ℕ} → r ≡ bs → Put old at (hexadecimal bs ++ (line_feed ∷ [])) next new
    → Put old at (record_lines (r ∷ [])) next new
record_line {r} e p = put_same p (sym (line_of r ∙ ap (λ (l : List ℕ). hexadecimal l ++ (line_feed ∷ [])) e))

module _ (code : ℕ) where
  pub condition_room : (at room : ℕ) → code / 1024 ≡ 0 → at + length (record_lines (listed_record code ∷ [])) ≤ room → at + 2 * 3 < room
  condition_room at room z h = omega (arith, line_length (listed_record code), ap length (condition_listed code z))

  pub answer_room_lem : (at room : ℕ) → (code / 1024 ≡ 0 → ⊥) → at + length (record_lines (listed_record code ∷ [])) ≤ room → at + 2 * 4 < room
  answer_room_lem at room n h = omega (arith, line_length (listed_record code), ap length (answer_listed code n))

  pub condition_line : {at r : ℕ} {old new : List ℕ} → code / 1024 ≡ 0
      → Put old at (hexadecimal (2 ∷ code % 1024 % 256 ∷ code % 1024 / 256 ∷ []) ++ (line_feed ∷ [])) r new
      → Put old at (record_lines (listed_record code ∷ [])) r new
  condition_line z p = record_line (condition_listed code z) p

  pub answer_line : {at r : ℕ} {old new : List ℕ} → (code / 1024 ≡ 0 → ⊥)
      → Put old at (hexadecimal (3 ∷ (code / 1024 - 1) ∷ code % 1024 % 256 ∷ code % 1024 / 256 ∷ []) ++ (line_feed ∷ [])) r new
      → Put old at (record_lines (listed_record code ∷ [])) r new
  answer_line n p = record_line (answer_listed code n) p

-- ---- the loop that puts their lines
abbrev pub Printing : List ℕ → List ℕ → ℕ → ℕ → ℕ → List ℕ → Type 0
Printing codes old from p at new = Putting code_line codes old from p at new

pub printing_start : (codes old : List ℕ) (from : ℕ) → from + length (record_lines (map listed_record codes)) ≤ length old
    → Printing codes old from 0 from old
printing_start codes old from h = putting_start code_line codes old from (rw (each_lines codes) h)

module _ {codes old : List ℕ} {from p at : ℕ} {new : List ℕ} (w : Printing codes old from p at new) where
  module _ (l : p < length codes) {code : ℕ} (e : code ≡ get_or codes p 0) where
    pub line_fits : at + length (record_lines (listed_record code ∷ [])) ≤ length new
    unfolding code_line
    line_fits = part_fits w l e

    pub printing_more : {at' : ℕ} {new' : List ℕ} → Put new at (record_lines (listed_record code ∷ [])) at' new'
        → Printing codes old from (p + 1) at' new'
    unfolding code_line
    printing_more q = putting_more w l e q

  pub printing_end : length codes ≤ p → Put old from (record_lines (map listed_record codes)) at new
  printing_end l = put_same (putting_end w l) (each_lines codes)
