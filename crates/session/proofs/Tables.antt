-- The tables of lists of added conditions, in their room of 1,024 bytes, and the four names: what the laws of `History.antt` go by.
-- Assumes nothing.
use mathlib.Core.Path.{◌≡◌, refl, sym, ap, ap₂, ◌∙◌}
use mathlib.Core.Bool.{Bool, true, false, ◌&&◌, cond}
use mathlib.Core.List.{List, [], ◌∷◌, ◌++◌, map}
use Prim.Native.Nat.{ℕ, zero, suc, ◌+◌, ◌-◌, ◌^◌, ◌≤◌, ◌<◌}
use native.Mathlib.Omega.{arith}
use lib.Dec.{eqb}
use lib.ListN.{length, drop, replicate, length-append, length-replicate, get_or-append, replicate-append-replicate}
use lib.Seq.{take_at, drop_at}
use borrow.Author.Tests.{eqb-true}
use Rattle.ring.specs.Polynomial.{Polynomial, constant}
use Rattle.ring.specs.Table.{present, table}
use Rattle.ring.specs.Join.{join, joined, Member, here, behind}
use Rattle.ring.proofs.Bool.{and_left, and_right, never}
use Rattle.ring.proofs.Table.{bits_tabulate, zero_bytes, table_cong, present-table, length-table}
use Rattle.ring.proofs.Join.{join_cong}
use Rattle.tables.specs.Questions.{first_no, reads, holds_bits, bit_questions}
use Rattle.tables.proofs.Bits.{bits_are}
use Rattle.calls.specs.Questions.{is_name}
use Rattle.session.specs.declared.Mark.{Mark}
use Rattle.session.specs.Session.{empty_table, unmarked, marked_tables}
use Rattle.session.specs.History.{History, adds, marks, returns, Stored, nothing, stored, present_list, list_under, list_table, mark_of}
use Rattle.session.proofs.Asked.{name_low, name_high}

-- ---- the four names
-- what holds of A, B, C and D holds of every name
pub each_name : (P : ℕ → Type 0) → P 65 → P 66 → P 67 → P 68 → (name : ℕ) → is_name name ≡ true → P name
each_name P a b c d name e =
    let low : 65 ≤ name = name_low name e in
    let high : name ≤ 68 = name_high name e in
    go (name - 65) (omega arith) (omega arith)
  where
    go : (i : ℕ) → name ≡ 65 + i → i < 4 → P name
    go zero q h = rw q a
    go (suc zero) q h = rw q b
    go (suc (suc zero)) q h = rw q c
    go (suc (suc (suc zero))) q h = rw q d
    go (suc (suc (suc (suc i)))) q h = absurd (omega arith)

-- nothing stands under any other
pub other_name : (n name : ℕ) (history : History) → is_name name ≡ false → list_under n name history ≡ nothing
unfolding list_under
other_name n name [] e = refl
other_name n name (adds h ∷ before) e = other_name n name before e
other_name n name (marks x ∷ before) e = go (is_name x && eqb x name) refl (other_name n name before e)
  where
    go : (b : Bool) → (is_name x && eqb x name) ≡ b → list_under n name before ≡ nothing
        → cond b (stored (present_list n before)) (list_under n name before) ≡ nothing
    go true q ih =
        let same : x ≡ name = eqb-true x name (and_right (is_name x) (eqb x name) q) in
        never (and_left (is_name x) (eqb x name) q) (ap is_name same ∙ e)
    go false q ih = ih
other_name n name (returns x ∷ before) e = other_name n name before e

-- ---- the table of a list
-- it fills its room
pub list_long : (n : ℕ) (list : List (List ℕ)) → 2 ^ n ≤ 1024 → length (list_table n list) ≡ 1024
unfolding list_table
list_long n list h =
    length-append (table n (joined n (map present list))) (replicate (1024 - 2 ^ n) 0)
    ∙ omega (arith, length-table n (joined n (map present list)), length-replicate {A = ℕ} (1024 - 2 ^ n) 0)

pub mark_long : (n : ℕ) (what : Stored) → 2 ^ n ≤ 1024 → length (mark_of n what).table ≡ 1024
unfolding mark_of unmarked empty_table
mark_long n nothing h = refl
mark_long n (stored list) h = list_long n list h

-- 'the empty table' is that of no conditions
pub empty_list : (n : ℕ) → 2 ^ n ≤ 1024 → empty_table ≡ list_table n []
unfolding empty_table list_table table joined constant
empty_list n h =
    let e : 1024 ≡ 2 ^ n + (1024 - 2 ^ n) = omega arith in
    sym
    (ap (λ (t : List ℕ). t ++ replicate (1024 - 2 ^ n) 0) (zero_bytes (2 ^ n))
    ∙ replicate-append-replicate (2 ^ n) (1024 - 2 ^ n) 0 ∙ ap (λ (k : ℕ). replicate k 0) (sym e))

module _ (n : ℕ) (list : List (List ℕ)) where
  -- it holds the conditions joined
  pub present_list_lem : (m : ℕ) → m < 2 ^ n → present (list_table n list) m ≡ joined n (map present list) m
  unfolding list_table present
  present_list_lem m h =
      ap (λ (x : ℕ). eqb x 1)
      (get_or-append (table n (joined n (map present list))) (replicate (1024 - 2 ^ n) 0) 0 m
      (omega (arith, length-table n (joined n (map present list)))))
      ∙ present-table n (joined n (map present list)) m h

  -- its bytes are 0 or 1
  pub list_bits : holds_bits (2 ^ n) (list_table n list) ≡ true
  unfolding holds_bits list_table table
  list_bits =
      let f : Polynomial = joined n (map present list) in
      rw (take_at (table n f) (replicate (1024 - 2 ^ n) 0) (2 ^ n) (length-table n f)) (bits_are (table n f) (bits_tabulate (2 ^ n) f))

  -- 'turns f into f + h + f*h'
  pub list_added : (h : List ℕ)
      → table n (join n (present (list_table n list)) (present h)) ++ drop (2 ^ n) (list_table n list) ≡ list_table n (h ∷ list)
  unfolding list_table joined
  list_added h =
      let f : Polynomial = joined n (map present list) in
      ap₂ ◌++◌
      (table_cong n (join n (present (list_table n list)) (present h)) (join n f (present h))
      (join_cong n (present (list_table n list)) f (present h) (present h) present_list_lem (λ m l. refl)))
      (drop_at (table n f) (replicate (1024 - 2 ^ n) 0) (2 ^ n) (length-table n f))

-- ---- question 8
-- 'those of marked names' are the tables of lists, and pass
pub marks_pass : (n : ℕ) (what : ℕ → Stored) (names : List ℕ)
    → first_no (bit_questions (map (reads (2 ^ n)) (marked_tables (map (λ (name : ℕ). mark_of n (what name)) names)))) ≡ 0
unfolding first_no bit_questions marked_tables mark_of unmarked
marks_pass n what [] = refl
marks_pass n what (x ∷ names) = go (what x) (marks_pass n what names)
  where
    rest : List Mark
    rest = map (λ (name : ℕ). mark_of n (what name)) names

    go : (l : Stored) → first_no (bit_questions (map (reads (2 ^ n)) (marked_tables rest))) ≡ 0
        → first_no (bit_questions (map (reads (2 ^ n)) (marked_tables (mark_of n l ∷ rest)))) ≡ 0
    go nothing ih = ih
    go (stored list) ih = rw (list_bits n list) ih

-- ---- members of a list of tables, and of their polynomials
-- f of a member is a member of the list of these
pub member_map : {A B : Type 0} {a : A} {xs : List A} (f : A → B) → Member a xs → Member (f a) (map f xs)
member_map f here = here
member_map f (behind m) = behind (member_map f m)

-- and there are no others: what holds of f of every member holds of all of them
pub each_mapped : {A B : Type 0} (f : A → B) (xs : List A) (P : B → Type 0) → ((a : A) → Member a xs → P (f a))
    → (b : B) → Member b (map f xs) → P b
each_mapped f [] P h b m = elim m [ ]
each_mapped f (x ∷ xs) P h b here = h x here
each_mapped f (x ∷ xs) P h b (behind m) = each_mapped f xs P (λ a k. h a (behind k)) b m
