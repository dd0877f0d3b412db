-- The handed form: question 21 by values, Löwenheim's answers from the values of the handed polynomials, and the call from what it does on
-- the front of its buffer.
-- Assumes nothing.
use mathlib.Core.Path.{◌≡◌, refl, sym, ap, ap₂, ◌∙◌}
use mathlib.Core.Bool.{Bool, true, false, ◌&&◌, cond, true≢false}
use mathlib.Core.List.{List, [], ◌∷◌, ◌++◌}
use Prim.Native.Nat.{ℕ, ◌+◌, ◌-◌, ◌*◌, ◌/◌, ◌%◌, ◌^◌, ◌≤◌, ◌<◌}
use native.Mathlib.Omega.{arith}
use lib.Dec.{leb}
use lib.ListN.{length, take, drop}
use lib.Seq.{get_or-take}
use borrow.Author.Tests.{lt-ltb, leb-true, leb-false}
use Rattle.ring.specs.Letters.{bit}
use Rattle.ring.specs.Polynomial.{Polynomial, ◌⊕◌, value, letter, sum, substitute}
use Rattle.ring.specs.Table.{present, held, answer_table, for_unknowns}
use Rattle.ring.specs.Length.{total_count}
use Rattle.ring.proofs.Table.{values_back, held-take, answer_table_cong, length-answer_table}
use Rattle.ring.proofs.Value.{product_cong}
use Rattle.tables.specs.declared.Letters.{Letters}
use Rattle.tables.specs.declared.Question.{Question}
use Rattle.tables.specs.declared.Question.TheVariants.{Handed}
use Rattle.tables.specs.Questions.{Asked, asks, number, first_no, letters_fit, has_room, holds_bits, room_questions, bit_questions, buffer_questions}
use Rattle.tables.specs.Answered.{Reply, accepted, refused, answered, ◌into◌, call}
use Rattle.tables.specs.Inner.Passed.{NoneNo, IsFirstNo, AreLetters}
use Rattle.tables.proofs.FirstNo.{number_some, none_no, then_further}
use Rattle.tables.proofs.Questions.{room_enough, held_bits}
use Rattle.tables.proofs.Answered.{call_stops, call_last_no, call_whole, call_behind, call_front}
use Rattle.words.specs.Inner.Words.{words_of, bit_at, First, answer_words}
use Rattle.words.proofs.Letters.{room}
use Rattle.words.proofs.Words.{at_known}
use Rattle.words.proofs.Parts.{points_in, answer_at_lem, part_fits}
use Rattle.polynomials.specs.Inner.LookUp.{put_for}
use Rattle.solution.specs.Condition.{table_where_zero}
use Rattle.solution.specs.Elimination.{lowenheim, handed_solves}
use Rattle.solution.proofs.Blocked.{zero_values, not_zero}
use Rattle.solution.proofs.Handed.{handed_cong}
use Rattle.solution.proofs.UnderFact.{where_front}
use Rattle.solution.proofs.Values.{value-lowenheim}
use Rattle.facts.specs.Inner.Kept.{where_words}
use Rattle.facts.proofs.Asked.{fact_front, fact_stops}
use Rattle.calls.specs.Questions.{fact_questions, asks_handed, handed_questions}
use Rattle.calls.specs.Solving.{handed_table, handed_call}
use Rattle.solver.specs.Inner.Handed.{handed_table_questions, handed_by}
use Rattle.solver.specs.Inner.Words.{part_value, mixed_value}
use Rattle.solver.specs.Inner.Passed.{PassedHanded}
use Rattle.tables.proofs.Passed.{letters-table_len}
use Rattle.solver.proofs.Calls.{part}

-- the front of words
front_at : (d : ℕ) (ws : List ℕ) (p : ℕ) → p < 64 * d → bit_at (take d ws) p ≡ bit_at ws p
unfolding bit_at
front_at d ws p l = let h : p / 64 < d = omega arith in ap (λ (x : ℕ). bit x (p % 64)) (get_or-take d ws (p / 64) 0 h)

-- ---- on words, from tables that have passed the questions before 21
module _ (u g : ℕ) (fact t handed : List ℕ) where
  abbrev n : ℕ
  n = u + g

  abbrev K : ℕ
  K = 2 ^ (u + g - 6)

  -- f*(1 + g)
  abbrev f : Polynomial
  f = present (table_where_zero (u + g) t fact)

  -- 21 is answered no if, with the handed polynomials put in, f*(1 + g) has the value 1 at a point
  module _ (own : List ℕ) (r end : ℕ) (size : length own ≡ 2 ^ (u + g - 6)) (first : First (64 * length own) (bit_at own) r)
      (e : end ≡ 2 ^ (u + g)) (put : (p : ℕ) → p < 2 ^ (u + g)
      → bit_at own p
      ≡ value (u + g) (substitute (u + g) (u + g) (present (table_where_zero (u + g) t fact)) (for_unknowns u (held (u + g) handed))) p) where
    solves_no : r < end → handed_solves u g f (held n handed) ≡ false
    unfolding handed_solves
    solves_no l = go (handed_solves u g f (held n handed)) refl
      where
        go : (b : Bool) → handed_solves u g f (held n handed) ≡ b → b ≡ false
        go true z =
            let inside : r < 2 ^ n = omega arith in
            absurd (true≢false (sym (first.one (omega (arith, room n, size))) ∙ put r inside ∙ zero_values n _ r z))
        go false z = refl

    solves_yes : end ≤ r → handed_solves u g f (held n handed) ≡ true
    unfolding handed_solves
    solves_yes l = go (handed_solves u g f (held n handed)) refl
      where
        go : (b : Bool) → handed_solves u g f (held n handed) ≡ b → b ≡ true
        go true z = refl
        go false z =
            let q = not_zero n (substitute n n f (for_unknowns u (held n handed))) z in
            absurd (true≢false (sym q.2 ∙ sym (put q.0 q.1) ∙ first.zeros q.0 (omega (arith, q.1))))

  -- the values of the handed polynomials are the first of the parts
  handed_at : (k j p : ℕ) (parts : List ℕ) → u ≤ 6 → k ≡ 2 ^ (u + g - 6) → parts ≡ answer_words 6 (2 ^ (u + g - 6)) (put_for u (u + g) handed)
      → j < u → p < 64 * 2 ^ (u + g - 6) → part_value K (take (u * k) parts) j p ≡ value n (held n handed j) p
  unfolding part_value put_for
  handed_at k j p parts few ek ep hj hp =
      let inside : j * (64 * K) + p < 64 * (u * k) = rw ek (omega (arith, points_in j K, part_fits u K j K (u * K) refl hj refl)) in
      front_at (u * k) parts (j * (64 * K) + p) inside
      ∙ answer_at_lem 6 K j p (put_for u n handed) parts ep (omega arith) hp
      ∙ ap (λ (b : Bool). cond b (value n (held n handed j) p) (bit p j)) (lt-ltb j u hj)

  -- Löwenheim's answers from them
  formula_written : (k : ℕ) (parts values : List ℕ) → u ≤ 6 → k ≡ 2 ^ (u + g - 6)
      → parts ≡ answer_words 6 (2 ^ (u + g - 6)) (put_for u (u + g) handed)
      → values ≡ words_of (2 ^ (u + g - 6)) (value (u + g) (present (table_where_zero (u + g) t fact)))
      → answer_table u n (λ j. value n (mixed_value (bit_at values) (part_value K (take (u * k) parts) j) j)) ≡ handed_table u g fact t handed
  unfolding handed_table mixed_value
  formula_written k parts values few ek ep ev =
      values_back u n _ (λ j. mixed_value (bit_at values) (part_value K (take (u * k) parts) j) j) (λ j p hj hp.
      let m : p < 64 * K = omega (arith, room n) in
      ap₂ (λ (x y : Bool). bit p j ⊕ (x && (bit p j ⊕ y))) (at_known K _ values ev p m) (handed_at k j p parts few ek ep hj m)
      ∙ sym (value-lowenheim n f (held n handed) j p (omega arith)))

  length_handed : length (handed_table u g fact t handed) ≡ u * 2 ^ (u + g)
  unfolding handed_table
  length_handed = length-answer_table u (u + g) _

-- ---- as the code comes to it: a no to 22 or 23 ..
module _ (l : Letters) (fact t handed lent : List ℕ) where
  abbrev U : ℕ
  U = l.unknowns

  abbrev G : ℕ
  G = l.givens

  pub fact_refused_by : (question : Question) → IsFirstNo (fact_questions l.unknowns l.givens fact) question
      → answered (refused (number question) []) (lent ∷ []) ≡ handed_by l.unknowns l.givens fact t handed lent
  unfolding handed_by
  fact_refused_by question found =
      fact_stops U G fact (asks_handed U G fact t handed ∷ []) _ (handed_table U G fact t handed into lent ∷ []) (number question) found (number_some question)

  -- .. or the values of f*(1 + g), a copy of them, and the handed polynomials put into the copy
  module _ (asked : NoneNo (fact_questions l.unknowns l.givens fact)) (values copied own : List ℕ) (r : ℕ)
      (where_zero : values ≡ where_words l.n t fact) (same : copied ≡ values) (sized : length own ≡ 2 ^ (l.n - 6))
      (first : First (64 * length own) (bit_at own) r)
      (put_in : (F : Polynomial) → copied ≡ words_of (2 ^ (l.n - 6)) (value l.n F) → (p : ℕ) → p < 2 ^ l.n
      → bit_at own p ≡ value l.n (substitute l.n l.n F (for_unknowns l.unknowns (held l.n handed))) p) where
    taken : values ≡ where_words (U + G) t fact
    taken = rw l.n_is at where_zero

    size : length own ≡ 2 ^ (U + G - 6)
    size = rw l.n_is at sized

    to_end : l.table_len ≡ 2 ^ (U + G)
    to_end = rw l.n_is at l.table_len_is

    put : (p : ℕ) → p < 2 ^ (U + G)
        → bit_at own p
        ≡ value (U + G) (substitute (U + G) (U + G) (present (table_where_zero (U + G) t fact)) (for_unknowns U (held (U + G) handed))) p
    put = rw l.n_is at (put_in (present (table_where_zero l.n t fact)) (same ∙ where_zero))

    pub refused_by : leb l.table_len r ≡ false → answered (refused 21 []) (lent ∷ []) ≡ handed_by l.unknowns l.givens fact t handed lent
    unfolding handed_by
    refused_by below =
        call_last_no (fact_questions U G fact) Handed _ [] _ (handed_table U G fact t handed into lent ∷ []) asked
        (solves_no U G fact t handed own r l.table_len size first to_end put (leb-false _ _ below))

    pub mixed_by : leb l.table_len r ≡ true → (k : ℕ) (parts answers : List ℕ) → k ≡ 2 ^ (l.n - 6)
        → parts ≡ answer_words 6 (2 ^ (l.n - 6)) (put_for l.unknowns l.n handed)
        → answers ≡ answer_table l.unknowns l.n
        (λ j. value l.n (mixed_value (bit_at values) (part_value (2 ^ (l.n - 6)) (take (l.unknowns * k) parts) j) j))
        → (total : ℕ) → total ≡ total_count l.unknowns l.n (held l.n answers) → length lent ≡ l.unknowns * 2 ^ l.n
        → answered (accepted (total ∷ [])) (answers ∷ []) ≡ handed_by l.unknowns l.givens fact t handed lent
    unfolding handed_by
    mixed_by beyond k parts answers ek ep written total counted size-lent =
        let made : answers ≡ handed_table U G fact t handed =
        rw l.n_is at written ∙ formula_written U G fact t handed k parts values l.unknowns_fit (rw l.n_is at ek) (rw l.n_is at ep) taken in
        ap (λ (x : ℕ). answered (accepted (x ∷ [])) (answers ∷ []))
        (rw l.n_is at counted ∙ ap (λ (s : List ℕ). total_count U (U + G) (held (U + G) s)) made)
        ∙ call_whole (fact_questions U G fact ++ (asks_handed U G fact t handed ∷ [])) _ (handed_table U G fact t handed) lent answers
        (then_further (fact_questions U G fact) (asks_handed U G fact t handed ∷ []) asked
        ∙ none_no (asks_handed U G fact t handed ∷ [])
        (solves_yes U G fact t handed own r l.table_len size first to_end put (leb-true _ _ beyond), tt))
        made (rw l.n_is at size-lent ∙ sym (length_handed U G fact t handed))

-- ---- the calls' own buffers, of which the parts that count are lent on
module _ (u g k : ℕ) (fact t handed : List ℕ) (e : k ≡ 2 ^ (u + g)) where
  solved_front : table_where_zero (u + g) (take k t) (take k fact) ≡ table_where_zero (u + g) t fact
  solved_front = rw e (where_front (u + g) t fact)

  test_front : asks_handed u g (take k fact) (take k t) (take (u * k) handed) ≡ asks_handed u g fact t handed
  test_front =
      rw (solved_front, e)
      (ap (asks Handed) (handed_cong u g _ _ _ _ (λ m l. refl) (λ j hj m hm. held-take (u + g) u handed j m hj hm)))

  table_front : handed_table u g (take k fact) (take k t) (take (u * k) handed) ≡ handed_table u g fact t handed
  unfolding handed_table lowenheim sum
  table_front =
      rw (solved_front, e)
      (answer_table_cong u (u + g) _ _ (λ j m hj hm.
      ap (λ (b : Bool). letter j m ⊕ b) (product_cong (u + g) _ _ _ _ (λ i l. refl)
      (λ i l. ap (λ (b : Bool). letter j i ⊕ b) (held-take (u + g) u handed j i hj l)) m)))

-- 1, 4 and 8: what a yes to each tells
module _ (u g : ℕ) (fact t handed : List ℕ) (room : ℕ) (l : Letters) (are : AreLetters u g l) where
  pub passed_handed : letters_fit u g ≡ true → has_room l.table_len (length fact) ≡ true → has_room l.table_len (length t) ≡ true
      → has_room (l.unknowns * l.table_len) (length handed) ≡ true → has_room (l.unknowns * l.table_len) room ≡ true → holds_bits l.table_len fact ≡ true
      → holds_bits l.table_len t ≡ true → holds_bits (l.unknowns * l.table_len) handed ≡ true → PassedHanded u g fact t handed room l
  unfolding handed_table_questions buffer_questions room_questions bit_questions first_no
  passed_handed fit fact_room condition_room handed_room answer_room fact_bits bits handed_bits =
      let handed_fits : has_room (u * l.table_len) (length handed) ≡ true = rw are.unknowns at handed_room in
      let answer_fits : has_room (u * l.table_len) room ≡ true = rw are.unknowns at answer_room in
      let all_bits : holds_bits (u * l.table_len) handed ≡ true = rw are.unknowns at handed_bits in
      record {
        none_no = rw (fit, ← letters-table_len u g l are, fact_room, condition_room, handed_fits, answer_fits, fact_bits, bits, all_bits);
        letters = are;
        fact_room = room_enough l.table_len _ fact_room;
        condition_room = room_enough l.table_len _ condition_room;
        handed_room = room_enough (l.unknowns * l.table_len) _ handed_room;
        answer_room = room_enough (l.unknowns * l.table_len) _ answer_room;
        fact_table = part l fact fact_room fact_bits;
        table = part l t condition_room bits;
        bits = held_bits (l.unknowns * l.table_len) handed handed_bits;
      }

module _ (u g : ℕ) (fact t handed lent : List ℕ) where
  -- 22, 23 and 21, of the lent buffers
  abbrev behind : List Asked
  behind = fact_questions u g fact ++ (asks_handed u g fact t handed ∷ [])

  pub handed_refused : (question : Question) → IsFirstNo (handed_table_questions u g fact t handed (length lent)) question
      → answered (refused (number question) []) (lent ∷ []) ≡ handed_call u g fact t handed lent
  unfolding handed_questions handed_table_questions buffer_questions room_questions bit_questions
  handed_refused question found =
      call_stops (handed_table_questions u g fact t handed (length lent)) behind _ (handed_table u g fact t handed into lent ∷ []) (number question)
      refl found (number_some question)

  work : (k : ℕ) → k ≡ 2 ^ (u + g) → NoneNo (handed_table_questions u g fact t handed (length lent)) → u * k ≤ length lent
      → {gives : Reply} {front : List ℕ}
      → answered gives (front ∷ []) ≡ handed_by u g (take k fact) (take k t) (take (u * k) handed) (take (u * k) lent)
      → answered gives ((front ++ drop (u * k) lent) ∷ []) ≡ handed_call u g fact t handed lent
  unfolding handed_by handed_questions handed_table_questions
  work k e yes_all room {gives} {front} done =
      let asked_front : fact_questions u g (take k fact) ≡ fact_questions u g fact = rw e (fact_front u g fact) in
      let total : List ℕ = total_count u (u + g) (held (u + g) (handed_table u g fact t handed)) ∷ [] in
      let part_done : answered gives (front ∷ []) ≡ call behind total (handed_table u g fact t handed into take (u * k) lent ∷ []) =
      done ∙ rw (asked_front, test_front u g k fact t handed e, table_front u g k fact t handed e) in
      call_front behind total (handed_table u g fact t handed) lent front (u * k) (length_handed u g fact t handed ∙ rw e) room part_done
      ∙ call_behind (handed_table_questions u g fact t handed (length lent)) behind total _ yes_all

  pub handed_done : (l : Letters) → PassedHanded u g fact t handed (length lent) l → {gives : Reply} {front : List ℕ}
      → answered gives (front ∷ [])
      ≡ handed_by l.unknowns l.givens (take l.table_len fact) (take l.table_len t) (take (l.unknowns * l.table_len) handed)
      (take (l.unknowns * l.table_len) lent)
      → answered gives ((front ++ drop (l.unknowns * l.table_len) lent) ∷ []) ≡ handed_call u g fact t handed lent
  handed_done l passed done =
      rw passed.letters.unknowns
      (work l.table_len (letters-table_len u g l passed.letters) passed.none_no (rw passed.letters.unknowns at passed.answer_room)
      (rw (passed.letters.unknowns, passed.letters.givens) at done))
