-- The headline: the count equals the number of entries passed. Where a walk answers a count, the bytes from its place are so many entries
-- end to end, each the writer's for its condition, with rising routes, and the other way round; where it is refused, so many stand before
-- the entry that is refused.
-- Assumes nothing.
use mathlib.Core.Path.{◌≡◌, refl, sym, ap, ◌∙◌}
use mathlib.Core.Bool.{true, false}
use mathlib.Core.List.{List, [], ◌∷◌, ◌++◌, append_assoc, append-nil}
use mathlib.Core.Logic.{◌⊎◌, inl, inr, ◌↔◌}
use Prim.Native.Nat.{ℕ, zero, suc, ◌+◌, ◌≤◌, ◌<◌}
use native.Mathlib.Nat.{not-suc-le-zero, zero-add}
use native.Mathlib.Omega.{arith}
use lib.Dec.{eqb, leb}
use lib.ListN.{length, drop, length-drop, length-append, take-append-drop, drop_of_length-le}
use lib.Seq.{drop_at}
use borrow.Author.Tests.{eqb-true, leb-true, ltb-true, lt-ltb}
use Rattle.ring.proofs.Bool.{and_left, and_right, bool_cases, or_right}
use Rattle.tables.specs.Answered.{Reply, accepted, refused}
use Rattle.solution.specs.Condition.{Condition}
use Rattle.entry.specs.Record.{AreBytes, bytes}
use Rattle.entry.specs.Entry.{entry, entry_records, Archivable}
use Rattle.entry.specs.Held.{records, route_of, held_condition}
use Rattle.entry.specs.Questions.{route_fits}
use Rattle.entry.proofs.Made.{drop-bytes}
use Rattle.entry.proofs.Theorems.{ReadsBack, reads_back}
use Rattle.calls.specs.Questions.{route_rises}
use Rattle.calls.specs.Volume.{Entries, no_entry, one_more, IsVolume}
use Rattle.calls.specs.Walk.{walk_refusal, at_entry, walk_behind, walk_reply, Ends, at_end, refused_at, Walks}
use Rattle.calls.proofs.Questions.{walk_exactly}
use Rattle.calls.proofs.Entries.{passed_archivable, passed_entry, entry_audited}
use Rattle.calls.proofs.Walk.{passed_some, walk_end, walk_on}

-- ---- from the answer to the entries
-- a route that passes 2 and 15 is above the one before, or above 0
above : (before route : ℕ) → route_fits route ≡ true → route_rises before route ≡ true → before < route
unfolding route_fits route_rises
above before route f r = go (bool_cases (eqb before 0))
  where
    go : (eqb before 0 ≡ true) ⊎ (eqb before 0 ≡ false) → before < route
    go (inl e) = omega (arith, eqb-true before 0 e, leb-true 1 route (and_left (leb 1 route) (leb route 250) f))
    go (inr e) = ltb-true before route (rw e at r)

-- the course of a walk behind so many passed entries, the last with the route `before`
record Course (before passed : ℕ) (bs : List ℕ) (answer : Reply) : Type 0 where
  last : ℕ
  count : ℕ
  front : List ℕ
  rest : List ℕ
  entries : Entries before last count front
  parts : bs ≡ front ++ rest
  ends : Ends last (passed + count) rest answer

stopped : (before passed : ℕ) (bs : List ℕ) {answer : Reply} → Ends before passed bs answer → Course before passed bs answer
stopped before passed bs e =
    let z : passed ≡ passed + 0 = omega arith in
    record { last = before; count = 0; front = []; rest = bs; entries = no_entry; parts = refl; ends = rw (← z) e }

ended : (before passed : ℕ) {answer : Reply} → walk_behind before passed [] ≡ answer → Ends before passed [] answer
ended before passed e = rw (← (sym (walk_end before passed) ∙ e)) at_end

-- the bytes behind the entry that they begin with
abbrev onwards : List ℕ → List ℕ
onwards bs = drop (length (bytes (records bs))) bs

entry_first : (before passed : ℕ) (bs : List ℕ) {answer : Reply} → AreBytes bs → walk_refusal before bs ≡ 0
    → Course (route_of (records bs)) (suc passed) (onwards bs) answer → Course before passed bs answer
entry_first before passed bs are z c =
    let y = (walk_exactly (records bs) before).0 z in
    let a : Archivable (route_of (records bs)) (held_condition (records bs)) = passed_archivable bs y.0 in
    let made : List ℕ = entry (route_of (records bs)) (held_condition (records bs)) in
    let n : suc passed + c.count ≡ passed + suc c.count = omega arith in
    record {
      last = c.last;
      count = suc c.count;
      front = made ++ c.front;
      rest = c.rest;
      entries = one_more _ _ a (above before (route_of (records bs)) a.of_route y.1) c.entries;
      parts = sym (take-append-drop (length (bytes (records bs))) bs)
          ∙ rw (passed_entry bs are y.0, c.parts) (sym (append_assoc made c.front c.rest));
      ends = rw (← n) c.ends;
    }

course : (k before passed : ℕ) (bs : List ℕ) (answer : Reply) → length bs ≤ k → AreBytes bs → walk_behind before passed bs ≡ answer
    → Course before passed bs answer
course zero before passed [] answer h are e = stopped before passed [] (ended before passed e)
course zero before passed (b ∷ bs) answer h are e = absurd (not-suc-le-zero h)
course (suc k) before passed [] answer h are e = stopped before passed [] (ended before passed e)
course (suc k) before passed (b ∷ bs) answer h are e =
    go (walk_refusal before (b ∷ bs)) refl (sym (walk_on before passed (b ∷ bs) (omega arith)) ∙ e)
    (course k (route_of (records (b ∷ bs))) (suc passed) (onwards (b ∷ bs)) answer)
  where
    go : (q : ℕ) → walk_refusal before (b ∷ bs) ≡ q
        → at_entry q passed (walk_behind (route_of (records (b ∷ bs))) (suc passed) (onwards (b ∷ bs))) ≡ answer
        → (length (onwards (b ∷ bs)) ≤ k → AreBytes (onwards (b ∷ bs))
        → walk_behind (route_of (records (b ∷ bs))) (suc passed) (onwards (b ∷ bs)) ≡ answer
        → Course (route_of (records (b ∷ bs))) (suc passed) (onwards (b ∷ bs)) answer)
        → Course before passed (b ∷ bs) answer
    go zero z f ih =
        entry_first before passed (b ∷ bs) are z
        (ih (omega (arith, passed_some before (records (b ∷ bs)) z, length-drop (length (bytes (records (b ∷ bs)))) (b ∷ bs)))
        (drop-bytes (length (bytes (records (b ∷ bs)))) (b ∷ bs) are) f)
    go (suc q) z f ih = stopped before passed (b ∷ bs) (rw (← f) (refused_at {bs = b ∷ bs} (suc q) (omega arith) z (λ x. omega arith)))

-- ---- from the entries to the answer
rises : (before route : ℕ) → before < route → route_rises before route ≡ true
unfolding route_rises
rises before route h = or_right (eqb before 0) (lt-ltb before route h)

entry_some : (route : ℕ) (c : Condition) → 0 < length (entry route c)
unfolding entry entry_records bytes
entry_some route c = omega arith

ends_answered : (last passed : ℕ) (bs : List ℕ) (answer : Reply) → Ends last passed bs answer → walk_behind last passed bs ≡ answer
ends_answered last passed bs answer at_end = walk_end last passed
ends_answered last passed bs answer (refused_at number h e n) = walk_on last passed bs h ∙ go (walk_refusal last bs) _ e
  where
    go : (k : ℕ) (x : Reply) → k ≡ number → at_entry k passed x ≡ refused number (passed ∷ [])
    go zero x f = absurd (n (sym f))
    go (suc k) x f = rw (← f)

-- an entry that the writer makes passes, and the walk goes on behind it
entry-walked : (before passed route : ℕ) (c : Condition) (behind : List ℕ) → Archivable route c → before < route
    → walk_behind before passed (entry route c ++ behind) ≡ walk_behind route (suc passed) behind
entry-walked before passed route c behind a h =
    let bs : List ℕ = entry route c ++ behind in
    let r : ReadsBack route c (records bs) = reads_back route c behind a in
    let up : route_rises before (route_of (records bs)) ≡ true = rw r.of_route (rises before route h) in
    let z : walk_refusal before bs ≡ 0 = (walk_exactly (records bs) before).1 (entry_audited route c behind a, up) in
    let l : 0 < length bs = omega (arith, entry_some route c, length-append (entry route c) behind) in
    walk_on before passed bs l ∙ rw (z, r.of_route, r.used, drop_at (entry route c) behind (length (entry route c)) refl)

back : (before last count passed : ℕ) (front rest : List ℕ) (answer : Reply) → Entries before last count front
    → Ends last (passed + count) rest answer
    → walk_behind before passed (front ++ rest) ≡ answer
back before last count passed front rest answer no_entry e =
    let z : passed + 0 ≡ passed = omega arith in
    ends_answered before passed rest answer (rw z at e)
back before last count passed front rest answer (one_more {count = few} {behind = behind} route c a h es) e =
    let n : passed + suc few ≡ suc passed + few = omega arith in
    ap (walk_behind before passed) (append_assoc (entry route c) behind rest)
    ∙ entry-walked before passed route c (behind ++ rest) a h
    ∙ back route last few (suc passed) behind rest answer es (rw n at e)

-- ---- the headlines
-- whatever the bytes, a walk answers what it comes to, and nothing else
pub walk_exact : (volume : List ℕ) (place : ℕ) (answer : Reply) → AreBytes volume → (walk_reply volume place ≡ answer)
    ↔ Walks (drop place volume) answer
unfolding walk_reply
walk_exact volume place answer are = (to, from)
  where
    to : walk_behind 0 0 (drop place volume) ≡ answer → Walks (drop place volume) answer
    to e =
        let c : Course 0 0 (drop place volume) answer =
        course (length (drop place volume)) 0 0 (drop place volume) answer (omega arith) (drop-bytes place volume are) e in
        record {
          last = c.last;
          count = c.count;
          front = c.front;
          rest = c.rest;
          entries = c.entries;
          parts = c.parts;
          ends = rw (zero-add c.count) at c.ends;
        }

    from : Walks (drop place volume) answer → walk_behind 0 0 (drop place volume) ≡ answer
    from w = rw w.parts (back 0 w.last w.count 0 w.front w.rest answer w.entries (rw (zero-add w.count) w.ends))

-- the count equals the entries passed: a walk answers a count exactly if the bytes from its place are a volume of so many entries
pub count_exact : (volume : List ℕ) (place count : ℕ) → AreBytes volume → (walk_reply volume place ≡ accepted (count ∷ []))
    ↔ IsVolume count (drop place volume)
count_exact volume place count are = (λ e. to ((walk_exact volume place (accepted (count ∷ [])) are).0 e), from)
  where
    whole : {bs front rest : List ℕ} {last n : ℕ} → Entries 0 last n front → bs ≡ front ++ rest → Ends last n rest (accepted (count ∷ []))
        → IsVolume count bs
    whole {front = front} {last = last} es e at_end = record { last = last; entries = rw (e ∙ append-nil front) es }

    to : Walks (drop place volume) (accepted (count ∷ [])) → IsVolume count (drop place volume)
    to w = whole w.entries w.parts w.ends

    from : IsVolume count (drop place volume) → walk_reply volume place ≡ accepted (count ∷ [])
    from v =
        (walk_exact volume place (accepted (count ∷ [])) are).1
        (record {
          last = v.last;
          count = count;
          front = drop place volume;
          rest = [];
          entries = v.entries;
          parts = sym (append-nil (drop place volume));
          ends = at_end;
        })

-- 'A place at or past the end gives 0'
pub past_the_end : (volume : List ℕ) (place : ℕ) → length volume ≤ place → walk_reply volume place ≡ accepted (0 ∷ [])
unfolding walk_reply
past_the_end volume place h = rw (drop_of_length-le volume h) (walk_end 0 0)

-- routes rise and are at most 250, and so no volume has more entries
pub entries_most : {before last count : ℕ} {bs : List ℕ} → before ≤ 250 → Entries before last count bs → before + count ≤ 250
unfolding route_fits
entries_most h no_entry = omega arith
entries_most h (one_more route c a l es) =
    let most : route ≤ 250 = leb-true _ _ (and_right (leb 1 route) (leb route 250) a.of_route) in
    omega (arith, entries_most most es)
