-- The questions of a step as the code asks them: 8 of the marked names one after another, and what it means that a session passes its own.
-- Assumes nothing.
use mathlib.Core.Path.{◌≡◌, refl, sym, ap, ◌∙◌}
use mathlib.Core.Bool.{Bool, true, false, cond}
use mathlib.Core.List.{List, [], ◌∷◌, ◌++◌, append_assoc, map}
use Prim.Native.Nat.{ℕ, ◌+◌, ◌-◌, ◌≤◌, ◌<◌}
use native.Mathlib.Numerals.{add-one}
use native.Mathlib.Omega.{arith}
use lib.Dec.{leb}
use lib.ListN.{length, take, drop, get_or, take-append-drop}
use lib.Seq.{take-suc, drop-cons}
use borrow.Author.Tests.{leb-true}
use Rattle.ring.proofs.Bool.{and_left, and_right}
use Rattle.tables.specs.declared.Letters.{Letters}
use Rattle.tables.specs.declared.Question.{Question}
use Rattle.tables.specs.declared.Question.TheVariants as questions
use Rattle.tables.specs.Questions.{Asked, asks, first_no, letters_fit, has_room, holds_bits, reads, room_questions, bit_questions, buffer_questions}
use Rattle.tables.specs.Inner.Passed.{NoneNo, IsFirstNo, AreLetters}
use Rattle.tables.proofs.FirstNo.{number_some, no_to, first_counts, then_further}
use Rattle.tables.proofs.Questions.{held_bits}
use Rattle.tables.proofs.Passed.{letters-table_len}
use Rattle.calls.specs.Questions.{session_questions, add_questions, is_name, mark_questions, return_questions}
use Rattle.session.specs.declared.Mark.{Mark}
use Rattle.session.specs.declared.Session.{Session}
use Rattle.session.specs.Session.{marked_tables, asked_tables}
use Rattle.session.specs.Inner.Asking.{marked_questions}
use Rattle.session.specs.Inner.Passed.{own_questions, PassedOwn, PassedName}

-- ---- 8 of the marked names
marked_append : (k : ℕ) (ms ns : List Mark) → marked_questions k (ms ++ ns) ≡ marked_questions k ms ++ marked_questions k ns
unfolding marked_questions marked_tables bit_questions
marked_append k [] ns = refl
marked_append k (m ∷ ms) ns = go m.set (marked_append k ms ns)
  where
    go : (b : Bool) → marked_questions k (ms ++ ns) ≡ marked_questions k ms ++ marked_questions k ns
        → bit_questions (map (reads k) (cond b (m.table ∷ marked_tables (ms ++ ns)) (marked_tables (ms ++ ns))))
        ≡ bit_questions (map (reads k) (cond b (m.table ∷ marked_tables ms) (marked_tables ms))) ++ marked_questions k ns
    go true ih = ap (λ (qs : List Asked). asks questions.Bits (holds_bits k m.table) ∷ qs) ih
    go false ih = ih

module _ (k : ℕ) (ms : List Mark) (i : ℕ) (d : Mark) (inside : i < length ms) (before : NoneNo (marked_questions k (take i ms))) where
  -- those before the name at i pass, and that name does
  pub marks_more : NoneNo (marked_questions k (get_or ms i d ∷ [])) → NoneNo (marked_questions k (take (i + 1) ms))
  marks_more z =
      rw (add-one, take-suc ms i d inside, marked_append) (then_further (marked_questions k (take i ms)) _ before ∙ z)

  -- or it does not
  pub marks_no : (question : Question) → IsFirstNo (marked_questions k (get_or ms i d ∷ [])) question → IsFirstNo (marked_questions k ms) question
  marks_no question e =
      let m : List Mark = get_or ms i d ∷ [] in
      let rest : List Mark = drop (i + 1) ms in
      let whole : take i ms ++ (m ++ rest) ≡ ms
      = ap (λ (l : List Mark). take i ms ++ l) (rw add-one (sym (drop-cons ms i d inside))) ∙ take-append-drop i ms in
      e ∙ sym (first_counts (marked_questions k m) (marked_questions k rest) (λ z. number_some question (e ∙ z)))
      ∙ ap first_no (sym (marked_append k m rest))
      ∙ sym (then_further (marked_questions k (take i ms)) _ before)
      ∙ ap first_no (sym (marked_append k (take i ms) (m ++ rest)))
      ∙ ap (λ (l : List Mark). first_no (marked_questions k l)) whole

-- ---- names
pub name_low : (name : ℕ) → is_name name ≡ true → 65 ≤ name
unfolding is_name
name_low name e = leb-true 65 name (and_left (leb 65 name) (leb name 68) e)

pub name_high : (name : ℕ) → is_name name ≡ true → name ≤ 68
unfolding is_name
name_high name e = leb-true name 68 (and_right (leb 65 name) (leb name 68) e)

-- ---- what a yes to each question tells, as the code has the answers
module _ (s : Session) where
  pub own_passed : (l : Letters) → AreLetters s.unknowns s.givens l → letters_fit s.unknowns s.givens ≡ true
      → holds_bits l.table_len s.table ≡ true → NoneNo (marked_questions l.table_len s.marks) → PassedOwn s l
  unfolding session_questions bit_questions marked_questions first_no
  own_passed l are fit bits marks =
      let len = letters-table_len s.unknowns s.givens l are in
      record { none_no = rw (fit, rw len at bits) (rw len at marks); letters = are; bits = held_bits l.table_len s.table bits }

  pub own_marks_no : (l : Letters) (question : Question) → AreLetters s.unknowns s.givens l → letters_fit s.unknowns s.givens ≡ true
      → holds_bits l.table_len s.table ≡ true → IsFirstNo (marked_questions l.table_len s.marks) question → IsFirstNo (own_questions s) question
  unfolding session_questions bit_questions marked_questions first_no
  own_marks_no l question are fit bits e = let len = letters-table_len s.unknowns s.givens l are in rw (fit, rw len at bits) (rw len at e)

  -- a no to one of them counts before further questions, and where there is none these count
  pub own_no : (further : List Asked) (question : Question) → IsFirstNo (own_questions s) question
      → IsFirstNo (own_questions s ++ further) question
  own_no further question e = e ∙ sym (first_counts (own_questions s) further (λ z. number_some question (e ∙ z)))

  module _ (name : ℕ) where
    abbrev pub name_questions : List Asked
    name_questions = mark_questions s.unknowns s.givens (asked_tables s) name

    pub name_no : NoneNo (own_questions s) → is_name name ≡ false → IsFirstNo name_questions questions.Name
    unfolding mark_questions
    name_no z e = sym (then_further (own_questions s) (asks questions.Name (is_name name) ∷ []) z ∙ no_to _ _ _ _ e)

    pub name_passed : NoneNo (own_questions s) → is_name name ≡ true → PassedName s name (name - 65)
    unfolding mark_questions first_no
    name_passed z e =
        record {
          none_no = then_further (own_questions s) (asks questions.Name (is_name name) ∷ []) z ∙ rw e;
          place = refl;
          inside = omega (arith, name_low name e, name_high name e);
        }

    -- returning asks what marking asks, and then 19
    module _ (set : Bool) where
      abbrev pub back_questions : List Asked
      back_questions = return_questions s.unknowns s.givens (asked_tables s) name set

      return_also : back_questions ≡ name_questions ++ (asks questions.Marked set ∷ [])
      unfolding return_questions mark_questions
      return_also = sym (append_assoc (own_questions s) (asks questions.Name (is_name name) ∷ []) (asks questions.Marked set ∷ []))

      pub return_name_no : (question : Question) → IsFirstNo name_questions question → IsFirstNo back_questions question
      return_name_no question e =
          rw return_also (e ∙ sym (first_counts name_questions (asks questions.Marked set ∷ []) (λ z. number_some question (e ∙ z))))

      pub return_no : NoneNo name_questions → set ≡ false → IsFirstNo back_questions questions.Marked
      return_no z e = rw return_also (sym (then_further name_questions (asks questions.Marked set ∷ []) z ∙ no_to _ _ _ _ e))

      pub return_yes : NoneNo name_questions → set ≡ true → NoneNo back_questions
      unfolding first_no
      return_yes z e = rw return_also (then_further name_questions (asks questions.Marked set ∷ []) z ∙ rw e)

  -- adding asks 4 and 8 behind the session's own
  module _ (h : List ℕ) (l : Letters) (own : PassedOwn s l) where
    abbrev pub more_questions : List Asked
    more_questions = add_questions s.unknowns s.givens (asked_tables s) h

    add_first : first_no more_questions
        ≡ first_no (asks questions.Room (has_room l.table_len (length h)) ∷ asks questions.Bits (holds_bits l.table_len h) ∷ [])
    unfolding add_questions buffer_questions room_questions bit_questions
    add_first = rw (letters-table_len s.unknowns s.givens l own.letters) (then_further (own_questions s) _ own.none_no)

    pub room_no : has_room l.table_len (length h) ≡ false → IsFirstNo more_questions questions.Room
    unfolding first_no
    room_no room = sym (add_first ∙ rw room)

    pub bits_no : has_room l.table_len (length h) ≡ true → holds_bits l.table_len h ≡ false → IsFirstNo more_questions questions.Bits
    unfolding first_no
    bits_no room bits = sym (add_first ∙ rw (room, bits))

    pub add_yes : has_room l.table_len (length h) ≡ true → holds_bits l.table_len h ≡ true → NoneNo more_questions
    unfolding first_no
    add_yes room bits = add_first ∙ rw (room, bits)
