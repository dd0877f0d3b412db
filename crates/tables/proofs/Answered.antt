-- The two ways out of a call that asks its questions first: refused, with nothing changed, or done, with the answer at the front.
-- `call_refused`, `call_done` and `call-also` build a call's contract, `call_gives` and `call_first` take it apart again.
-- Assumes nothing.
use mathlib.Core.Path.{◌≡◌, refl, sym, ap, ◌∙◌}
use mathlib.Core.Bool.{Bool, true, false}
use mathlib.Core.List.{List, [], ◌∷◌, ◌++◌, map, append-nil}
use Prim.Native.Nat.{ℕ, zero, suc, ◌≤◌}
use native.Mathlib.Omega.{arith}
use lib.ListN.{length, take, drop, take-append-drop}
use lib.Seq.{length-take-le, drop-length}
use Rattle.tables.specs.declared.Question.{Question}
use Rattle.tables.specs.Questions.{Asked, asks_giving, number, first_no}
use Rattle.tables.specs.Answered.{Reply, accepted, refused, reply, after, Answered, answered, Buffer, ◌into◌, call, first_buffer}
use Rattle.tables.proofs.FirstNo.{number_some, no_to, first_counts, then_further}

-- ---- what a call gives
-- the no to each of these questions gives its number alone
abbrev pub gives_nothing : List Asked → Bool
gives_nothing [] = true
gives_nothing (asks_giving question answer [] ∷ rest) = gives_nothing rest
gives_nothing (asks_giving question answer (x ∷ given) ∷ rest) = false

-- every question is answered yes
pub reply_accepted : (questions : List Asked) (values : List ℕ) → first_no questions ≡ 0 → accepted values ≡ reply questions values
unfolding reply first_no
reply_accepted [] values z = refl
reply_accepted (asks_giving question true given ∷ rest) values z = reply_accepted rest values z
reply_accepted (asks_giving question false given ∷ rest) values z = absurd (number_some question z)

-- the questions in front are answered yes
pub reply_behind : (questions further : List Asked) (values : List ℕ) → first_no questions ≡ 0
    → reply further values ≡ reply (questions ++ further) values
unfolding reply first_no
reply_behind [] further values z = refl
reply_behind (asks_giving question true given ∷ rest) further values z = reply_behind rest further values z
reply_behind (asks_giving question false given ∷ rest) further values z = absurd (number_some question z)

-- one of the questions in front, which give their numbers alone, is answered no
pub reply_stops : (questions further : List Asked) (values : List ℕ) → gives_nothing questions ≡ true → (first_no questions ≡ 0 → ⊥)
    → refused (first_no questions) [] ≡ reply (questions ++ further) values
unfolding reply first_no
reply_stops [] further values p n = absurd (n refl)
reply_stops (asks_giving question true [] ∷ rest) further values p n = reply_stops rest further values p n
reply_stops (asks_giving question false [] ∷ rest) further values p n = refl
reply_stops (asks_giving question answer (x ∷ given) ∷ rest) further values p n = absurd (let z : ◌≡◌ {A = Bool} false true = p in never z)
  where
    never : ◌≡◌ {A = Bool} false true → ⊥
    never e = let z : ◌≡◌ {A = ℕ} 0 1 = (cc) in omega arith

-- the question in front is answered no
pub reply_no : (question : Question) (answer : Bool) (given : List ℕ) (rest : List Asked) (values : List ℕ) → answer ≡ false
    → reply (asks_giving question answer given ∷ rest) values ≡ refused (number question) given
unfolding reply
reply_no question answer given rest values e = rw e

-- ---- what becomes of a buffer
pub after_refused : (found : ℕ) (answer lent : List ℕ) → (found ≡ 0 → ⊥) → lent ≡ after found answer lent
unfolding after
after_refused zero answer lent n = absurd (n refl)
after_refused (suc found) answer lent n = refl

-- ---- a call's contract is built
-- the buffers as they were lent
abbrev pub as_lent : List Buffer → List (List ℕ)
as_lent [] = []
as_lent (b ∷ buffers) = b.before ∷ as_lent buffers

lent_refused : (found : ℕ) (buffers : List Buffer) → (found ≡ 0 → ⊥)
    → as_lent buffers ≡ map (λ (b : Buffer). after found b.answer b.before) buffers
lent_refused found [] n = refl
lent_refused found (b ∷ buffers) n =
    ap (λ (bs : List (List ℕ)). b.before ∷ bs) (lent_refused found buffers n)
    ∙ ap (λ (lent : List ℕ). lent ∷ map (λ (b : Buffer). after found b.answer b.before) buffers)
    (after_refused found b.answer b.before n)

-- a no to one of the questions in front, which give their numbers alone: nothing has changed
pub call_stops : (questions further : List Asked) (values : List ℕ) (buffers : List Buffer) (found : ℕ) → gives_nothing questions ≡ true
    → found ≡ first_no questions → (found ≡ 0 → ⊥)
    → answered (refused found []) (as_lent buffers) ≡ call (questions ++ further) values buffers
unfolding call
call_stops questions further values buffers found p e n =
    let some : first_no questions ≡ 0 → ⊥ = λ z. n (e ∙ z) in
    rw (e, reply_stops questions further values p some, first_counts questions further some, lent_refused (first_no questions) buffers some)

-- the same with no further questions
pub call_refused : (questions : List Asked) (values : List ℕ) (buffers : List Buffer) (found : ℕ) → gives_nothing questions ≡ true
    → found ≡ first_no questions → (found ≡ 0 → ⊥) → answered (refused found []) (as_lent buffers) ≡ call questions values buffers
call_refused questions values buffers found p e n = rw (append-nil questions) at (call_stops questions [] values buffers found p e n)

-- the last question is answered no, with what its no gives
pub call_last_no : (questions : List Asked) (question : Question) (answer : Bool) (given values : List ℕ) (buffers : List Buffer)
    → first_no questions ≡ 0 → answer ≡ false
    → answered (refused (number question) given) (as_lent buffers)
    ≡ call (questions ++ (asks_giving question answer given ∷ [])) values buffers
unfolding call
call_last_no questions question answer given values buffers z no_answer =
    let last : List Asked = asks_giving question answer given ∷ [] in
    let found : first_no (questions ++ last) ≡ number question = then_further questions last z ∙ no_to question answer given [] no_answer in
    let some : first_no (questions ++ last) ≡ 0 → ⊥ = λ e. number_some question (sym found ∙ e) in
    rw (
      ← reply_behind questions last values z,
      ← lent_refused
          (first_no (questions ++ last)) buffers some,
      reply_no question answer given [] values no_answer,
    )

-- every question is answered yes: the values, and each buffer as the code leaves it
pub call_done_none : (questions : List Asked) (values : List ℕ) → first_no questions ≡ 0
    → answered (accepted values) [] ≡ call questions values []
unfolding call
call_done_none questions values z = rw (reply_accepted questions values z)

pub call_done : (questions : List Asked) (values answer lent front : List ℕ) (k : ℕ) → first_no questions ≡ 0 → front ≡ answer
    → k ≡ length answer
    → answered (accepted values) ((front ++ drop k lent) ∷ []) ≡ call questions values (answer into lent ∷ [])
unfolding call after
call_done questions values answer lent front k z ef ek = rw (reply_accepted questions values z, z, ef, ek)

-- the same with the values as the code comes to them
pub call_done_giving : (questions : List Asked) (given values answer lent front : List ℕ) (k : ℕ) → given ≡ values → first_no questions ≡ 0
    → front ≡ answer → k ≡ length answer
    → answered (accepted given) ((front ++ drop k lent) ∷ []) ≡ call questions values (answer into lent ∷ [])
call_done_giving questions given values answer lent front k eg z ef ek =
    ap (λ (v : List ℕ). answered (accepted v) ((front ++ drop k lent) ∷ [])) eg ∙ call_done questions values answer lent front k z ef ek

-- the same of a buffer that is filled to its end
pub call_whole : (questions : List Asked) (values answer lent front : List ℕ) → first_no questions ≡ 0 → front ≡ answer
    → length lent ≡ length answer → answered (accepted values) (front ∷ []) ≡ call questions values (answer into lent ∷ [])
call_whole questions values answer lent front z ef size =
    let all : front ++ drop (length lent) lent ≡ front = rw drop-length (append-nil front) in
    rw all at (call_done questions values answer lent front (length lent) z ef size)

-- one buffer more, as it is afterwards
pub call-also : (questions : List Asked) (values answer lent now : List ℕ) (buffers : List Buffer) {gives : Reply} {rest : List (List ℕ)}
    → first_no questions ≡ 0 → now ≡ answer ++ drop (length answer) lent → answered gives rest ≡ call questions values buffers
    → answered gives (now ∷ rest) ≡ call questions values (answer into lent ∷ buffers)
unfolding call after
call-also questions values answer lent now buffers z en e =
    ap (λ (x : Answered Reply). answered x.gives (now ∷ x.lent)) e
    ∙ ap (λ (x : List ℕ). answered (reply questions values) (x ∷ (call questions values buffers).lent))
    (en ∙ sym (ap (λ (q : ℕ). after q answer lent) z))

-- ---- a call's contract is taken apart
module _ (questions : List Asked) (values : List ℕ) where
  pub call_gives : (buffers : List Buffer) {gives : Reply} {lent : List (List ℕ)} → answered gives lent ≡ call questions values buffers
      → gives ≡ reply questions values
  unfolding call
  call_gives buffers e = ap (λ (a : Answered Reply). a.gives) e

  -- the first buffer
  pub call_first : (answer lent : List ℕ) (buffers : List Buffer) {gives : Reply} {now : List ℕ} {rest : List (List ℕ)}
      → answered gives (now ∷ rest) ≡ call questions values (answer into lent ∷ buffers) → now ≡ after (first_no questions) answer lent
  unfolding call
  call_first answer lent buffers e = ap first_buffer e

-- what a reply says of the questions
pub accepted_is : (questions : List Asked) {given : List ℕ} (values : List ℕ) → accepted given ≡ reply questions values
    → (first_no questions ≡ 0) × (given ≡ values)
unfolding reply first_no
accepted_is [] values e = (refl, (cc))
accepted_is (asks_giving question true with_it ∷ rest) values e = accepted_is rest values e
accepted_is (asks_giving question false with_it ∷ rest) values e = let z : ◌≡◌ {A = ℕ} 0 1 = (cc) in absurd (omega arith)

pub refused_is : (questions : List Asked) {found : ℕ} {given : List ℕ} (values : List ℕ) → refused found given ≡ reply questions values
    → (first_no questions ≡ found) × (found ≡ 0 → ⊥)
unfolding reply first_no
refused_is [] values e = let z : ◌≡◌ {A = ℕ} 0 1 = (cc) in absurd (omega arith)
refused_is (asks_giving question true with_it ∷ rest) values e = refused_is rest values e
refused_is (asks_giving question false with_it ∷ rest) {found} values e =
    let same : number question ≡ found = (cc) in (same, λ z. number_some question (same ∙ z))

-- ---- a call that has passed its first questions, on the front of its buffer
pub call_behind : (questions further : List Asked) (values : List ℕ) (buffers : List Buffer) → first_no questions ≡ 0
    → call further values buffers ≡ call (questions ++ further) values buffers
unfolding call
call_behind questions further values buffers z = rw (← reply_behind questions further values z, then_further questions further z)

after_front : (found k : ℕ) (answer lent : List ℕ) → length answer ≡ k → k ≤ length lent
    → after found answer (take k lent) ++ drop k lent ≡ after found answer lent
unfolding after
after_front zero k answer lent e h =
    let none : drop (length answer) (take k lent) ≡ [] = rw (e ∙ sym (length-take-le k lent h)) (drop-length (take k lent)) in
    rw (none, append-nil, e)
after_front (suc found) k answer lent e h = take-append-drop k lent

pub call_front : (questions : List Asked) (values answer lent front : List ℕ) (k : ℕ) {gives : Reply} → length answer ≡ k → k ≤ length lent
    → answered gives (front ∷ []) ≡ call questions values (answer into take k lent ∷ [])
    → answered gives ((front ++ drop k lent) ∷ []) ≡ call questions values (answer into lent ∷ [])
unfolding call
call_front questions values answer lent front k e h done =
    rw (
      call_gives questions values (answer into take k lent ∷ []) done,
      call_first questions values answer (take k lent) [] done,
      after_front (first_no questions) k answer lent e h,
    )

-- the same as the code has it: the question that is answered no first
pub call_no : (questions : List Asked) (values : List ℕ) (buffers : List Buffer) (question : Question) → gives_nothing questions ≡ true
    → number question ≡ first_no questions → answered (refused (number question) []) (as_lent buffers) ≡ call questions values buffers
call_no questions values buffers question p e = call_refused questions values buffers (number question) p e (number_some question)
