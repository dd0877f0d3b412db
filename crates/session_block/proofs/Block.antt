-- A session in a block of bytes: what is taken out of it, and what is put into it one part behind another.
-- Assumes nothing.
use mathlib.Core.Path.{◌≡◌, refl, sym, ap, ap₂, ◌∙◌}
use mathlib.Core.Bool.{Bool, true, false, cond}
use mathlib.Core.List.{List, [], ◌∷◌, ◌++◌, append_assoc, append-nil}
use Prim.Native.Nat.{ℕ, ◌+◌, ◌-◌, ◌*◌, ◌≤◌, ◌<◌}
use native.Mathlib.Numerals.{add-one}
use native.Mathlib.Omega.{arith}
use lib.ListN.{length, get_or, set, take, drop, length-append, length-set}
use lib.Seq.{take_at, drop_at, take-suc, take-take, drop-length}
use borrow.Rule.Slice.PartMut.{put_mid, Post-is}
use Rattle.std.specs.Int.{from_bool}
use Rattle.ring.specs.Letters.{digit}
use Rattle.ring.specs.Table.{present}
use Rattle.std.specs.Prelude.{Ok, Err}
use Rattle.tables.specs.declared.Question.TheVariants.{Letters}
use Rattle.tables.specs.Questions.{letters_fit}
use Rattle.tables.proofs.Questions.{letters_small}
use Rattle.calls.specs.Questions.{start_questions}
use Rattle.session.specs.declared.Mark.{Mark}
use Rattle.session.specs.declared.Session.{Session}
use Rattle.session.specs.declared.Step.{Step}
use Rattle.session.specs.Session.{new_session, outcome_of, stepped, start_step}
use Rattle.session.specs.History.{Action, step_from}
use Rattle.session.proofs.History.{letters_stay}
use Rattle.session_block.specs.Inner.Letters.{ByteLetters}
use Rattle.session_block.specs.Block.{mark_in, session_in, mark_bytes, session_bytes}

-- ---- taking out
-- a name looks at its own 1,025 bytes alone
pub mark_front : (bytes : List ℕ) → mark_in (take 1025 bytes) ≡ mark_in bytes
unfolding mark_in present
mark_front [] = refl
mark_front (b ∷ bytes) = rw (take-take 1024 1024 bytes (omega arith))

pub session_taken : (block table : List ℕ) (u g : ℕ) (a b c d : Mark) → u ≡ get_or block 0 0 → g ≡ get_or block 1 0 → table ≡ take 1024 (drop 2 block)
    → a ≡ mark_in (take 1025 (drop 1026 block)) → b ≡ mark_in (take 1025 (drop 2051 block)) → c ≡ mark_in (take 1025 (drop 3076 block))
    → d ≡ mark_in (take 1025 (drop 4101 block))
    → ◌≡◌ {A = Session} (record { unknowns = u; givens = g; table = table; marks = a ∷ b ∷ c ∷ d ∷ [] }) (session_in block)
unfolding session_in
session_taken block table u g a b c d eu eg et ea eb ec ed =
    let a' = ea ∙ mark_front (drop 1026 block) in
    let b' = eb ∙ mark_front (drop 2051 block) in
    let c' = ec ∙ mark_front (drop 3076 block) in
    let d' = ed ∙ mark_front (drop 4101 block) in
    rw (eu, eg, et, a', b', c', d')

-- ---- putting in, one part behind another
-- the first parts stand in `front`, the rest is as it was
pub put_part : (a e : ℕ) (front before bytes part : List ℕ) → a ≤ e → length front ≡ a → bytes ≡ front ++ drop a before
    → put_mid a (e - a) bytes part ≡ (front ++ part) ++ drop e before
put_part a e front before bytes part h l f =
    ap₂ (λ (x y : List ℕ). x ++ (part ++ y)) (ap (take a) f ∙ take_at front (drop a before) a l) rest ∙ sym (append_assoc front part (drop e before))
  where
    rest : drop (e - a) (drop a bytes) ≡ drop e before
    rest = ap (λ (x : List ℕ). drop (e - a) (drop a x)) f ∙ ap (drop (e - a)) (drop_at front (drop a before) a l) ∙ Post-is a e before h

-- a part that is as long as it should be
pub part_long : (a e : ℕ) (front part : List ℕ) → a ≤ e → length front ≡ a → length part ≡ e - a → length (front ++ part) ≡ e
part_long a e front part h l k =
    let s : length (front ++ part) ≡ length front + length part = length-append front part in
    omega (arith, s, l, k)

-- names
names_more : (ms : List Mark) (m : Mark) → mark_bytes (ms ++ (m ∷ [])) ≡ mark_bytes ms ++ (digit m.set ∷ m.table)
unfolding mark_bytes
names_more [] m = ap (λ (t : List ℕ). digit m.set ∷ t) (append-nil m.table)
names_more (k ∷ ms) m =
    ap (λ (t : List ℕ). digit k.set ∷ t)
    (ap (λ (t : List ℕ). k.table ++ t) (names_more ms m) ∙ sym (append_assoc k.table (mark_bytes ms) (digit m.set ∷ m.table)))

-- the first i names stand at the front
pub record NamesPut (ms : List Mark) (i : ℕ) (before bytes : List ℕ) : Type 0 where
  pub front : length (mark_bytes (take i ms)) ≡ i * 1025
  pub bytes_are : bytes ≡ mark_bytes (take i ms) ++ drop (i * 1025) before

pub names_none : (ms : List Mark) (before : List ℕ) → NamesPut ms 0 before before
unfolding mark_bytes
names_none ms before = record { front = refl; bytes_are = refl }

pub names_put : (ms : List Mark) (i : ℕ) (d : Mark) (before bytes part : List ℕ) → i < length ms → NamesPut ms i before bytes
    → part ≡ digit (get_or ms i d).set ∷ (get_or ms i d).table → length part ≡ 1025
    → NamesPut ms (i + 1) before (put_mid (i * 1025) (i * 1025 + 1025 - i * 1025) bytes part)
names_put ms i d before bytes part h p e l =
    record {
      front = ap length next
          ∙ part_long (i * 1025) (i * 1025 + 1025) (mark_bytes (take i ms)) part (omega arith) p.front (omega (arith, l)) ∙ further;
      bytes_are = put_part (i * 1025) (i * 1025 + 1025) (mark_bytes (take i ms)) before bytes part (omega arith) p.front p.bytes_are
          ∙ ap₂ (λ (x : List ℕ) (k : ℕ). x ++ drop k before) (sym next) further;
    }
  where
    next : mark_bytes (take (i + 1) ms) ≡ mark_bytes (take i ms) ++ part
    next =
        ap mark_bytes (rw add-one (take-suc ms i d h)) ∙ names_more (take i ms) (get_or ms i d) ∙ ap (λ (x : List ℕ). mark_bytes (take i ms) ++ x) (sym e)

    further : i * 1025 + 1025 ≡ (i + 1) * 1025
    further = omega arith

nothing_behind : (k : ℕ) (t : List ℕ) → length t ≡ k → drop k t ≡ []
nothing_behind k t e = rw (← e) (drop-length t)

-- ---- a name: its byte, and its table behind it
pub flag_digit : (set : Bool) → from_bool set ≡ digit set
flag_digit true = refl
flag_digit false = refl

first_set : (b : ℕ) (before : List ℕ) → 1 ≤ length before → set before 0 b ≡ (b ∷ []) ++ drop 1 before
first_set b [] h = absurd (omega (arith, h))
first_set b (x ∷ before) h = refl

pub name_put : (b : ℕ) (before part table : List ℕ) (marked : Bool) → length before ≡ 1025 → b ≡ digit marked → part ≡ table
    → put_mid 1 (length (set before 0 b) - 1) (set before 0 b) part ≡ digit marked ∷ table
name_put b before part table marked l e f =
    ap (λ (k : ℕ). put_mid 1 (k - 1) (set before 0 b) part) (length-set before 0 b ∙ l)
    ∙ put_part 1 1025 (b ∷ []) before (set before 0 b) part (omega arith) refl (first_set b before (omega (arith, l)))
    ∙ ap (λ (t : List ℕ). (b ∷ part) ++ t) (nothing_behind 1025 before l) ∙ append-nil (b ∷ part)
    ∙ ap₂ (λ (x : ℕ) (t : List ℕ). x ∷ t) e f

-- ---- a session: its letters, its table, its names
two_set : (u g : ℕ) (before : List ℕ) → 2 ≤ length before → set (set before 0 u) 1 g ≡ (u ∷ g ∷ []) ++ drop 2 before
two_set u g [] h = absurd (omega (arith, h))
two_set u g (x ∷ []) h = absurd (omega (arith, h))
two_set u g (x ∷ y ∷ before) h = refl

pub session_put : (s : Session) (before part names : List ℕ) → length before ≡ 5126 → length s.table ≡ 1024 → part ≡ s.table
    → names ≡ mark_bytes s.marks
    → put_mid 1026 4100 (put_mid 2 1024 (set (set before 0 s.unknowns) 1 s.givens) part) names ≡ session_bytes s
unfolding session_bytes
session_put s before part names l t e en =
    let u = s.unknowns in
    let g = s.givens in
    let size : length part ≡ 1024 = ap length e ∙ t in
    put_part 1026 5126 (u ∷ g ∷ part) before _ names (omega arith) (omega (arith, size))
    (put_part 2 1026 (u ∷ g ∷ []) before _ part (omega arith) refl (two_set u g before (omega (arith, l))))
    ∙ ap (λ (x : List ℕ). (u ∷ g ∷ (part ++ names)) ++ x) (nothing_behind 5126 before l) ∙ append-nil (u ∷ g ∷ (part ++ names))
    ∙ rw (e, en)

-- ---- the letters of a session that comes out of a block are bytes, and stay so
pub letters_after : {r : Step} (s : Session) (action : Action) → r ≡ step_from s action → ByteLetters s → ByteLetters r.session
letters_after s action e letters =
    record { unknowns = rw (e, (letters_stay s action).0) letters.unknowns; givens = rw (e, (letters_stay s action).1) letters.givens }

pub letters_started : {r : Step} (u g : ℕ) → r ≡ start_step u g → ByteLetters r.session
unfolding start_questions outcome_of stepped new_session
letters_started u g e = rw e (go (letters_fit u g) refl)
  where
    go : (b : Bool) → letters_fit u g ≡ b → ByteLetters (stepped (cond b (Ok tt) (Err Letters)) (new_session u g) (new_session 0 0)).session
    go true f = record { unknowns = omega (arith, letters_small u g f); givens = omega (arith, letters_small u g f) }
    go false f = record { unknowns = omega arith; givens = omega arith }
