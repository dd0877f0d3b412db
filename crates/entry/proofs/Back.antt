-- Records that are written are read: the bytes of an entry's records, whatever stands behind them, hold these records.
-- By induction on the records: the first is found again, and dropping its bytes leaves those of the rest.
-- Assumes nothing.
use mathlib.Core.Path.{◌≡◌, refl, sym, ap, ◌∙◌}
use mathlib.Core.Bool.{Bool, true, false, ◌&&◌, not, cond}
use mathlib.Core.List.{List, [], ◌∷◌, ◌++◌, append_assoc, map}
use Prim.Native.Nat.{ℕ, zero, suc, ◌≤◌}
use native.Mathlib.Omega.{arith}
use lib.Dec.{eqb, ltb}
use lib.ListN.{length, drop, length-append}
use lib.Seq.{take_at, drop_at}
use borrow.Author.Tests.{le-leb, eqb-true}
use Rattle.ring.specs.Table.{present, held}
use Rattle.order.specs.Order.{monomials}
use Rattle.ring.proofs.Bool.{and_left, and_right, both, never}
use Rattle.ring.specs.Lists.{listed}
use Rattle.solution.specs.Condition.{Condition, width}
use Rattle.solution.specs.Order.{order_bytes}
use Rattle.solution.specs.Elimination.{Verdict, solved, none}
use Rattle.entry.specs.Record.{Record, bytes, fields, widths, size, kind, low_first, body_of, start_record, condition_record}
use Rattle.entry.specs.Record.{answer_record, end_record, order_record, fact_record, is_end, is_default}
use Rattle.entry.specs.Entry.{order_records, fact_records, condition_records, answer_records, verdict_records, entry_records}
use Rattle.entry.specs.Entry.{archived_records, entry}
use Rattle.entry.specs.Held.{next, until_end, records}
use Rattle.entry.proofs.Records.{records-next}

pub bytes-append : (rs ss : List Record) → bytes (rs ++ ss) ≡ bytes rs ++ bytes ss
unfolding bytes
bytes-append [] ss = refl
bytes-append (r ∷ rs) ss = ap (λ (l : List ℕ). r ++ l) (bytes-append rs ss) ∙ sym (append_assoc r (bytes rs) (bytes ss))

-- ---- one record
-- it has bytes, and as many as its kind fixes
abbrev pub is_whole : Record → Bool
is_whole r = ltb 0 (length r) && eqb (length r) (size (kind r))

-- a record behind which others stand
abbrev pub is_inner : Record → Bool
is_inner r = not (is_end r) && is_whole r

pub inner_not_end : (r : Record) → is_inner r ≡ true → is_end r ≡ false
inner_not_end r p = go (is_end r) (and_left (not (is_end r)) (is_whole r) p)
  where
    go : (b : Bool) → not b ≡ true → b ≡ false
    go true e = never e refl
    go false e = refl

inner_whole : (r : Record) → is_inner r ≡ true → is_whole r ≡ true
inner_whole r p = and_right (not (is_end r)) (is_whole r) p

next_whole : (r bs : List ℕ) → is_whole r ≡ true → next (r ++ bs) ≡ r
unfolding next kind
next_whole [] bs p = never p refl
next_whole (b ∷ r) bs p =
    let e : suc (length r) ≡ size b = eqb-true _ _ (and_right (ltb 0 (suc (length r))) (eqb (suc (length r)) (size b)) p) in
    let l : size b ≤ suc (length (r ++ bs)) = omega (arith, length-append r bs) in
    rw (le-leb (size b) (suc (length (r ++ bs))) l) (take_at (b ∷ r) bs (size b) e)

until_inner : (r : Record) (rs : List Record) → is_inner r ≡ true → until_end r rs ≡ r ∷ rs
unfolding until_end kind
until_inner [] rs p = never p refl
until_inner (b ∷ r) rs p = rw (inner_not_end (b ∷ r) p)

until_end_lem : (r : Record) (rs : List Record) → is_whole r ≡ true → is_end r ≡ true → until_end r rs ≡ r ∷ []
unfolding until_end kind
until_end_lem [] rs p e = never p refl
until_end_lem (b ∷ r) rs p e = rw e

records_inner : (r : Record) (bs : List ℕ) → is_inner r ≡ true → records (r ++ bs) ≡ r ∷ records bs
records_inner r bs p =
    records-next (r ++ bs) ∙ rw (next_whole r bs (inner_whole r p), drop_at r bs (length r) refl) (until_inner r (records bs) p)

records_last : (r : Record) (bs : List ℕ) → is_whole r ≡ true → is_end r ≡ true → records (r ++ bs) ≡ r ∷ []
records_last r bs p e = records-next (r ++ bs) ∙ rw (next_whole r bs p) (until_end_lem r (records (drop (length r) (r ++ bs))) p e)

-- ---- inner records and an end
unfoldable pub all_inner : List Record → Bool
all_inner [] = true
all_inner (r ∷ rs) = is_inner r && all_inner rs

inner_append : (rs ss : List Record) → all_inner rs ≡ true → all_inner ss ≡ true → all_inner (rs ++ ss) ≡ true
unfolding all_inner
inner_append [] ss p q = q
inner_append (r ∷ rs) ss p q = both (and_left (is_inner r) (all_inner rs) p) (inner_append rs ss (and_right (is_inner r) (all_inner rs) p) q)

end_whole : (route : ℕ) → is_whole (end_record route) ≡ true
unfolding kind size fields widths body_of low_first
end_whole route = refl

pub end_is : (route : ℕ) → is_end (end_record route) ≡ true
unfolding kind
end_is route = refl

records_back : (ps : List Record) (route : ℕ) (bs : List ℕ) → all_inner ps ≡ true → records (bytes (ps ++ (end_record route ∷ [])) ++ bs) ≡ ps ++ (end_record route ∷ [])
unfolding all_inner bytes
records_back [] route bs p = ap records (append_assoc (end_record route) [] bs) ∙ records_last (end_record route) bs (end_whole route) (end_is route)
records_back (r ∷ ps) route bs p =
    ap records (append_assoc r (bytes (ps ++ (end_record route ∷ []))) bs)
    ∙ records_inner r (bytes (ps ++ (end_record route ∷ [])) ++ bs) (and_left (is_inner r) (all_inner ps) p)
    ∙ ap (λ (l : List Record). r ∷ l) (records_back ps route bs (and_right (is_inner r) (all_inner ps) p))

-- ---- the parts of an entry
start_inner : (route U G : ℕ) → is_inner (start_record route U G) ≡ true
unfolding kind size fields widths body_of low_first
start_inner route U G = refl

order_inner : (c : Condition) → all_inner (order_records c) ≡ true
unfolding order_records order_bytes listed all_inner kind size fields widths body_of low_first
order_inner c = go (is_default c.U (order_bytes c.order))
  where
    go : (b : Bool) → all_inner (cond b [] (order_record c.order ∷ [])) ≡ true
    go true = refl
    go false = refl

fact_inner : (ms : List ℕ) → all_inner (map fact_record ms) ≡ true
unfolding all_inner kind size fields widths body_of low_first
fact_inner [] = refl
fact_inner (m ∷ ms) = fact_inner ms

condition_inner : (ms : List ℕ) → all_inner (map condition_record ms) ≡ true
unfolding all_inner kind size fields widths body_of low_first
condition_inner [] = refl
condition_inner (m ∷ ms) = condition_inner ms

answer_inner : (j : ℕ) (ms : List ℕ) → all_inner (map (answer_record j) ms) ≡ true
unfolding all_inner kind size fields widths body_of low_first
answer_inner j [] = refl
answer_inner j (m ∷ ms) = answer_inner j ms

answers_inner : (j n : ℕ) (a : List ℕ) → all_inner (answer_records j n a) ≡ true
unfolding answer_records all_inner
answers_inner zero n a = refl
answers_inner (suc j) n a =
    inner_append (answer_records j n a) (map (answer_record j) (monomials n (held n a j))) (answers_inner j n a) (answer_inner j (monomials n (held n a j)))

verdict_inner : (U n : ℕ) (v : Verdict (List ℕ)) → all_inner (verdict_records U n v) ≡ true
unfolding verdict_records all_inner kind size fields widths body_of low_first
verdict_inner U n (solved a) = answers_inner U n a
verdict_inner U n (none state) = refl

-- ---- they are whole
unfoldable pub all_whole : List Record → Bool
all_whole [] = true
all_whole (r ∷ rs) = is_whole r && all_whole rs

all_whole_lem : (rs : List Record) (route : ℕ) → all_inner rs ≡ true → all_whole (rs ++ (end_record route ∷ [])) ≡ true
unfolding all_inner all_whole
all_whole_lem [] route p = both (end_whole route) refl
all_whole_lem (r ∷ rs) route p =
    both (inner_whole r (and_left (is_inner r) (all_inner rs) p)) (all_whole_lem rs route (and_right (is_inner r) (all_inner rs) p))

-- ---- an entry
module _ (route : ℕ) (c : Condition) (v : Verdict (List ℕ)) where
  -- all of an entry but its end
  unfoldable pub body : List Record
  body =
      start_record route c.U c.G
      ∷ (order_records c ++ (fact_records c ++ (condition_records c ++ verdict_records c.U (width c) v)))

  pub entry_body : entry_records route c v ≡ body ++ (end_record route ∷ [])
  unfolding entry_records body
  entry_body =
      ap (λ (l : List Record). start_record route c.U c.G ∷ (order_records c ++ (fact_records c ++ l)))
      (sym (append_assoc (condition_records c) (verdict_records c.U (width c) v) (end_record route ∷ [])))
      ∙ ap (λ (l : List Record). start_record route c.U c.G ∷ (order_records c ++ l))
      (sym (append_assoc (fact_records c) (condition_records c ++ verdict_records c.U (width c) v) (end_record route ∷ [])))
      ∙ ap (λ (l : List Record). start_record route c.U c.G ∷ l)
      (sym (append_assoc (order_records c) (fact_records c ++ (condition_records c ++ verdict_records c.U (width c) v))
      (end_record route ∷ [])))

  pub body_inner : all_inner body ≡ true
  unfolding body fact_records condition_records all_inner
  body_inner =
      both (start_inner route c.U c.G)
      (inner_append (order_records c) (fact_records c ++ (condition_records c ++ verdict_records c.U (width c) v)) (order_inner c)
      (inner_append (fact_records c) (condition_records c ++ verdict_records c.U (width c) v)
      (fact_inner (monomials (width c) (present c.fact)))
      (inner_append (condition_records c) (verdict_records c.U (width c) v)
      (condition_inner (monomials (width c) (present c.table))) (verdict_inner c.U (width c) v))))

  -- the records of an entry, with any bytes behind it, are those that it was written from
  pub written-records : (bs : List ℕ) → records (bytes (entry_records route c v) ++ bs) ≡ entry_records route c v
  written-records bs =
      ap (λ (l : List Record). records (bytes l ++ bs)) entry_body ∙ records_back body route bs body_inner ∙ sym entry_body

  -- each of them is whole
  pub written_whole : all_whole (entry_records route c v) ≡ true
  written_whole = ap all_whole entry_body ∙ all_whole_lem body route body_inner

pub records-entry : (route : ℕ) (c : Condition) (bs : List ℕ) → records (entry route c ++ bs) ≡ archived_records route c
unfolding entry
records-entry route c bs = written-records route c _ bs
