-- No answer is lost in its code: taken apart, the code that an exported function returns gives back the answer that its contract names,
-- whatever the caller lends. For numbers of questions are bytes, monomials at most 6,144, a state is below 256, an entry has at most 27,709 bytes, and a volume
-- at most 250 entries, since their routes rise.
-- Assumes nothing.
use mathlib.Core.Path.{◌≡◌, refl, sym, ap, ◌∙◌, subst}
use mathlib.Core.Bool.{Bool, true, false, cond}
use mathlib.Core.List.{List, [], ◌∷◌, ◌++◌}
use Prim.Native.Nat.{ℕ, zero, suc, ◌+◌, ◌*◌, ◌/◌, ◌%◌, ◌^◌, ◌≤◌, ◌<◌}
use native.Mathlib.Decide.{ℕ_discrete}
use native.Mathlib.Nat.{mul-le-mul}
use native.Mathlib.Omega.{arith}
use lib.Dec.{leb}
use lib.ListN.{length, drop}
use lib.Pow.{pow_mono}
use borrow.Author.Tests.{leb-true, ne_eqb}
use Rattle.ring.specs.declared.State.{State}
use Rattle.ring.specs.declared.Choice.{Choice}
use Rattle.ring.specs.Polynomial.{value}
use Rattle.ring.specs.Letters.{digit, point}
use Rattle.ring.specs.Table.{present, held}
use Rattle.ring.specs.Length.{monomial_count, total_count}
use Rattle.ring.proofs.Bool.{and_right, digit_lt}
use Rattle.ring.proofs.Length.{total_most}
use Rattle.ring.proofs.Parity.{count_most}
use Rattle.std.specs.Prelude.{Result, Ok, Err}
use Rattle.tables.specs.declared.Question.{Question}
use Rattle.tables.specs.declared.Question.TheVariants.{Letters, Solution, Order}
use Rattle.tables.specs.Questions.{Asked, asks, asks_giving, number, first_no, letters_fit, room_questions, bit_questions}
use Rattle.tables.specs.Questions.{buffer_questions}
use Rattle.tables.specs.Answered.{Reply, accepted, refused, reply}
use Rattle.tables.proofs.FirstNo.{number_within, number_some, first_small, first_other, yes_to, asked_before}
use Rattle.tables.proofs.Answered.{gives_nothing, reply_behind, reply_stops}
use Rattle.tables.proofs.Questions.{letters_small, unknowns_small, givens_small}
use Rattle.solution.specs.Condition.{polynomial}
use Rattle.solution.specs.Order.{order_fits, lent_condition}
use Rattle.solution.specs.Elimination.{Verdict, solved, none, smallest_below, blocked, smallest_blocked}
use Rattle.entry.specs.Record.{Record, AreBytes, bytes}
use Rattle.entry.specs.Held.{records, route_of, unknowns_of, givens_of, held_condition, held_verdict}
use Rattle.entry.specs.Entry.{entry_records}
use Rattle.entry.specs.Questions.{route_fits}
use Rattle.entry.proofs.Bound.{entry_most}
use Rattle.entry.proofs.Canonical.{records_end, held_fits, canonical}
use Rattle.entry.proofs.Records.{records_made}
use Rattle.entry.proofs.Passes.{Passes}
use Rattle.entry.proofs.Verdicts.{VerdictFits}
use Rattle.entry.proofs.Theorems.{entry_bound}
use Rattle.calls.specs.Questions.{value_questions, pair_questions, substitute_questions, derivative_questions, text_questions}
use Rattle.calls.specs.Questions.{shorter_questions, fact_questions, solving_buffers, solving_questions, handed_questions, write_questions, record_questions}
use Rattle.calls.specs.Questions.{entry_questions, read_questions, audit_questions}
use Rattle.calls.specs.Questions.{walk_questions, start_questions, add_questions, mark_questions, return_questions}
use Rattle.calls.specs.Operations.{outcome, value_at}
use Rattle.calls.specs.Shorter.{lowenheim_shorter}
use Rattle.calls.specs.Entries.{lent_entry, read_values, state_of}
use Rattle.calls.specs.Walk.{walk_refusal, walk_reply, Ends, at_end, refused_at, Walks}
use Rattle.calls.proofs.Questions.{written_exactly, writable_archivable, passes_exactly}
use Rattle.calls.proofs.Volume.{walk_exact, entries_most}
use Rattle.session.specs.declared.Session.{Session}
use Rattle.session.specs.Session.{new_session, asked_tables, under, added, marked, returned, outcome_of, stepped, start_step}
use Rattle.session.specs.History.{Action, adds, marks, returns, step_from}
use Rattle.layodegi.specs.Codes.{narrow, code, heading_code, entry_code, numbered, state_in, plain_reply, value_reply, state_reply}
use Rattle.layodegi.specs.Codes.{count_reply, entry_reply}

-- ---- one code
narrow_small : (v : ℕ) → v < 4294967296 → narrow v ≡ v
narrow_small v h = omega arith

numbered_some : (q : ℕ) (values : List ℕ) → (q ≡ 0 → ⊥) → refused q [] ≡ numbered q values
unfolding numbered
numbered_some zero values n = absurd (n refl)
numbered_some (suc q) values n = refl

-- the answer of a call whose questions give their numbers alone
reply-numbered : (questions : List Asked) (values : List ℕ) → gives_nothing questions ≡ true
    → reply questions values ≡ numbered (first_no questions) values
unfolding reply first_no numbered
reply-numbered [] values p = refl
reply-numbered (asks_giving question true [] ∷ rest) values p = reply-numbered rest values p
reply-numbered (asks_giving question false [] ∷ rest) values p = numbered_some (number question) values (number_some question)
reply-numbered (asks_giving question answer (x ∷ given) ∷ rest) values p = let z : ◌≡◌ {A = ℕ} 0 1 = (cc) in absurd (omega arith)

plain_back : (questions : List Asked) → gives_nothing questions ≡ true
    → plain_reply (code (reply questions [])) ≡ reply questions []
unfolding numbered
plain_back questions p = rw (reply-numbered questions [] p) (go (first_no questions) (first_small questions))
  where
    go : (q : ℕ) → q < 256 → plain_reply (code (numbered q [])) ≡ numbered q []
    go zero l = refl
    go (suc n) l = let e : suc n % 256 ≡ suc n = omega arith in rw e

value_back : (questions : List Asked) (v : ℕ) → gives_nothing questions ≡ true
    → (first_no questions ≡ 0 → v < 4294967296)
    → value_reply (code (reply questions (v ∷ []))) ≡ reply questions (v ∷ [])
unfolding numbered
value_back questions v p f = rw (reply-numbered questions (v ∷ []) p) (go (first_no questions) (first_small questions) f)
  where
    go : (q : ℕ) → q < 256 → (q ≡ 0 → v < 4294967296) → value_reply (code (numbered q (v ∷ []))) ≡ numbered q (v ∷ [])
    go zero l small =
        let e : 256 * v % 256 ≡ 0 = omega arith in
        let d : 256 * v / 256 ≡ v = omega arith in
        rw (narrow_small v (small refl), e, d)
    go (suc n) l small = let e : suc n % 256 ≡ suc n = omega arith in rw e

-- question 9 behind questions with other numbers
state_back : (front : List Asked) (answer : Bool) (s v : ℕ) → gives_nothing front ≡ true → (first_no front ≡ 9 → ⊥)
    → (first_no front ≡ 0 → (s < 4294967296) × (v < 4294967296))
    → state_reply (code (reply (front ++ (asks_giving Solution answer (s ∷ []) ∷ [])) (v ∷ [])))
    ≡ reply (front ++ (asks_giving Solution answer (s ∷ []) ∷ [])) (v ∷ [])
unfolding numbered reply
state_back front answer s v p o f = go (ℕ_discrete (first_no front) 0)
  where
    last : List Asked
    last = asks_giving Solution answer (s ∷ []) ∷ []

    earlier : (q : ℕ) → q < 256 → (q ≡ 9 → ⊥) → (q ≡ 0 → ⊥) → state_reply (code (refused q [])) ≡ refused q []
    earlier q l other n =
        let e : q % 256 ≡ q = omega arith in
        rw (e, ne_eqb q 9 other) (sym (numbered_some q (q / 256 ∷ []) n))

    asked_last : (b : Bool) → s < 4294967296 → v < 4294967296
        → state_reply (code (reply (asks_giving Solution b (s ∷ []) ∷ []) (v ∷ []))) ≡ reply (asks_giving Solution b (s ∷ []) ∷ []) (v ∷ [])
    asked_last true l m =
        let e : 256 * v % 256 ≡ 0 = omega arith in
        let d : 256 * v / 256 ≡ v = omega arith in
        rw (narrow_small v m, e, d)
    asked_last false l m =
        let n : (9 + 256 * s) % 256 ≡ 9 = omega arith in
        let d : (9 + 256 * s) / 256 ≡ s = omega arith in
        rw (narrow_small s l, n, d)

    go : Dec (first_no front ≡ 0) → state_reply (code (reply (front ++ last) (v ∷ []))) ≡ reply (front ++ last) (v ∷ [])
    go (yes z) = rw (← reply_behind front last (v ∷ []) z) (asked_last answer (f z).0 (f z).1)
    go (no n) = rw (← reply_stops front last (v ∷ []) p n) (earlier (first_no front) (first_small front) o n)

count_back : (count : ℕ) → count < 4294967296 → count_reply (code (accepted (count ∷ []))) ≡ accepted (count ∷ [])
count_back count h =
    let e : 256 * count % 256 ≡ 0 = omega arith in
    let d : 256 * count / 256 ≡ count = omega arith in
    rw (narrow_small count h, e, d)

passed_back : (number passed : ℕ) → (number ≡ 0 → ⊥) → number < 256 → passed < 4294967296
    → count_reply (code (refused number (passed ∷ []))) ≡ refused number (passed ∷ [])
passed_back number passed some h l =
    let e : (number + 256 * passed) % 256 ≡ number = omega arith in
    let d : (number + 256 * passed) / 256 ≡ passed = omega arith in
    rw (narrow_small passed l, e, d, ne_eqb number 0 some)

-- the values that reading and the audit give, as far as a code has room
record Fit (route U G used : ℕ) (v : Verdict (List ℕ)) : Type 0 where
  of_route : route < 256
  of_unknowns : U < 256
  of_givens : G < 256
  of_length : used < 65536
  of_state : (state : State) → v ≡ none state → state.0 < 256

module _ (route U G used k : ℕ) (hr : route < 256) (hu : U < 256) (hg : G < 256) (hn : used < 65536) where
  abbrev whole : ℕ
  whole = heading_code route U G used + 281474976710656 * k

  low : whole % 256 ≡ 0
  low = omega arith

  back_route : whole / 256 % 256 ≡ route
  back_route = omega arith

  back_unknowns : whole / 65536 % 256 ≡ U
  back_unknowns = omega arith

  back_givens : whole / 16777216 % 256 ≡ G
  back_givens = omega arith

  back_used : whole / 4294967296 % 65536 ≡ used
  back_used = omega arith

  back_state : whole / 281474976710656 ≡ k
  back_state = omega arith

  fields_back : entry_reply whole ≡ accepted (route ∷ U ∷ G ∷ used ∷ state_in k)
  unfolding numbered
  fields_back = rw (low, back_route, back_unknowns, back_givens, back_used, back_state)

module _ (route U G used : ℕ) where
  values_back : (v : Verdict (List ℕ)) → Fit route U G used v
      → entry_reply (entry_code (accepted (route ∷ U ∷ G ∷ used ∷ state_of v))) ≡ accepted (route ∷ U ∷ G ∷ used ∷ state_of v)
  values_back (solved a) f = fields_back route U G used 0 f.of_route f.of_unknowns f.of_givens f.of_length
  values_back (none state) f =
      let l : state.0 < 256 = f.of_state state refl in
      let e : 1 + state.0 % 256 ≡ suc state.0 = omega arith in
      fields_back route U G used (1 + state.0 % 256) f.of_route f.of_unknowns f.of_givens f.of_length
      ∙ ap (λ (k : ℕ). accepted (route ∷ U ∷ G ∷ used ∷ state_in k)) e

  entry_back : (questions : List Asked) (v : Verdict (List ℕ)) → gives_nothing questions ≡ true
      → (first_no questions ≡ 0 → Fit route U G used v)
      → entry_reply (entry_code (reply questions (route ∷ U ∷ G ∷ used ∷ state_of v))) ≡ reply questions (route ∷ U ∷ G ∷ used ∷ state_of v)
  unfolding numbered
  entry_back questions v p f =
      rw (reply-numbered questions (route ∷ U ∷ G ∷ used ∷ state_of v) p) (go (first_no questions) (first_small questions) f)
    where
      go : (q : ℕ) → q < 256 → (q ≡ 0 → Fit route U G used v)
          → entry_reply (entry_code (numbered q (route ∷ U ∷ G ∷ used ∷ state_of v))) ≡ numbered q (route ∷ U ∷ G ∷ used ∷ state_of v)
      go zero l fit = values_back v (fit refl)
      go (suc n) l fit = let e : suc n % 256 ≡ suc n = omega arith in rw e

-- ---- the answers of the calls
-- a number of monomials, in a table or in an answer table over letters that question 1 has passed
count_fits : (U G : ℕ) (t : List ℕ) → letters_fit U G ≡ true → monomial_count (U + G) (present t) < 4294967296
unfolding monomial_count
count_fits U G t e =
    let most : 2 ^ (U + G) ≤ 2 ^ 10 = pow_mono (letters_small U G e) in
    omega (arith, most, count_most (2 ^ (U + G)) (present t))

total_fits : (U G : ℕ) (t : List ℕ) → letters_fit U G ≡ true → total_count U (U + G) (held (U + G) t) < 4294967296
total_fits U G t e =
    let most : 2 ^ (U + G) ≤ 2 ^ 10 = pow_mono (letters_small U G e) in
    let all : U * 2 ^ (U + G) ≤ 6 * 2 ^ 10 = mul-le-mul (unknowns_small U G e) most in
    omega (arith, all, total_most U (U + G) (held (U + G) t))

-- the sum and the product, handed polynomials put into a condition, handed Löwenheim: the number of monomials in what is made
pub pair_decoded : (U G : ℕ) (a b : List ℕ) (room : ℕ) (made : List ℕ)
    → value_reply (code (reply (pair_questions U G a b room) (monomial_count (U + G) (present made) ∷ [])))
    ≡ reply (pair_questions U G a b room) (monomial_count (U + G) (present made) ∷ [])
unfolding pair_questions buffer_questions room_questions bit_questions
pair_decoded U G a b room made =
    value_back (pair_questions U G a b room) _ refl (λ z. count_fits U G made (yes_to Letters (letters_fit U G) [] _ z).0)

pub substitute_decoded : (U G : ℕ) (condition handed : List ℕ) (room : ℕ) (made : List ℕ)
    → value_reply (code (reply (substitute_questions U G condition handed room) (monomial_count (U + G) (present made) ∷ [])))
    ≡ reply (substitute_questions U G condition handed room) (monomial_count (U + G) (present made) ∷ [])
unfolding substitute_questions buffer_questions room_questions bit_questions
substitute_decoded U G condition handed room made =
    value_back (substitute_questions U G condition handed room) _ refl (λ z. count_fits U G made (yes_to Letters (letters_fit U G) [] _ z).0)

pub handed_decoded : (U G : ℕ) (fact condition handed : List ℕ) (room : ℕ) (made : List ℕ)
    → value_reply (code (reply (handed_questions U G fact condition handed room) (total_count U (U + G) (held (U + G) made) ∷ [])))
    ≡ reply (handed_questions U G fact condition handed room) (total_count U (U + G) (held (U + G) made) ∷ [])
unfolding handed_questions buffer_questions room_questions bit_questions fact_questions
handed_decoded U G fact condition handed room made =
    value_back (handed_questions U G fact condition handed room) _ refl (λ z. total_fits U G made (yes_to Letters (letters_fit U G) [] _ z).0)

-- which of two answer tables is the shorter, 0 or 1, and the companion, whose code is its number
pub shorter_decoded : (U G : ℕ) (boole lowenheim : List ℕ)
    → value_reply (code (reply (shorter_questions U G boole lowenheim) (digit (lowenheim_shorter U G boole lowenheim) ∷ [])))
    ≡ reply (shorter_questions U G boole lowenheim) (digit (lowenheim_shorter U G boole lowenheim) ∷ [])
unfolding shorter_questions buffer_questions room_questions bit_questions
shorter_decoded U G boole lowenheim =
    value_back (shorter_questions U G boole lowenheim) _ refl (λ z. omega (arith, digit_lt (lowenheim_shorter U G boole lowenheim)))

-- the derivative and reading a text, which give no value
pub derivative_decoded : (U G : ℕ) (t : List ℕ) (S room : ℕ)
    → plain_reply (code (reply (derivative_questions U G t S room) [])) ≡ reply (derivative_questions U G t S room) []
unfolding derivative_questions buffer_questions room_questions bit_questions
derivative_decoded U G t S room = plain_back (derivative_questions U G t S room) refl

pub text_decoded : (U G : ℕ) (text : List ℕ) (room : ℕ)
    → plain_reply (code (reply (text_questions U G text room) [])) ≡ reply (text_questions U G text room) []
unfolding text_questions buffer_questions room_questions bit_questions
text_decoded U G text room =
    plain_back (text_questions U G text room) refl

-- the value of a table, 0 or 1
pub value_decoded : (U G : ℕ) (t : List ℕ) (state : State) (choice : Choice)
    → value_reply (code (reply (value_questions U G t state choice) (value_at U G t state choice ∷ [])))
    ≡ reply (value_questions U G t state choice) (value_at U G t state choice ∷ [])
unfolding value_questions value_at buffer_questions room_questions bit_questions
value_decoded U G t state choice =
    value_back (value_questions U G t state choice) _ refl
    (λ z. omega (arith, digit_lt (value (U + G) (present t) (point U state choice))))

-- the length written, which is an entry's
pub written_decoded : (route U G : ℕ) (order fact condition : List ℕ) (room : ℕ)
    → value_reply (code (reply (write_questions route U G order fact condition room) (length (lent_entry route U G order fact condition) ∷ [])))
    ≡ reply (write_questions route U G order fact condition room) (length (lent_entry route U G order fact condition) ∷ [])
unfolding write_questions buffer_questions room_questions bit_questions fact_questions
written_decoded route U G order fact condition room =
    value_back (write_questions route U G order fact condition room) _ refl
    (λ z.
    let a = writable_archivable route U G order fact condition room ((written_exactly route U G order fact condition room).0 z) in
    omega (arith, entry_bound route (lent_condition U G order fact condition) a.letters a.of_fact.givens))

-- Boole, the particular solution, own Löwenheim: the total, or the state, which is one of G givens, at most 8
givens_few : (U G : ℕ) → letters_fit U G ≡ true → 2 ^ G ≤ 256
givens_few U G e = pow_mono (givens_small U G e)

smallest_most : (k : ℕ) (test : ℕ → Bool) → smallest_below k test ≤ k
unfolding smallest_below
smallest_most zero test = omega arith
smallest_most (suc k) test = go (test 0) (smallest_most k (λ i. test (suc i)))
  where
    go : (b : Bool) → smallest_below k (λ i. test (suc i)) ≤ k → cond b 0 (suc (smallest_below k (λ i. test (suc i)))) ≤ suc k
    go true l = omega arith
    go false l = omega arith

module _ (U G : ℕ) (order fact condition : List ℕ) (room : ℕ) where
  -- those before question 9
  before_solution : List Asked
  before_solution =
      asks Letters (letters_fit U G)
      ∷ asks Order (order_fits U order)
      ∷ (buffer_questions (solving_buffers U G fact condition room) ++ fact_questions U G fact)

  state_small : first_no before_solution ≡ 0 → (smallest_blocked U G (polynomial (lent_condition U G order fact condition))).0 < 4294967296
  unfolding before_solution smallest_blocked
  state_small z =
      let letters = (yes_to Letters (letters_fit U G) [] _ z).0 in
      let most = smallest_most (2 ^ G) (λ s. blocked U G (polynomial (lent_condition U G order fact condition)) (record { 0 = s })) in
      omega (arith, most, givens_few U G letters)

  pub solving_decoded : (made : List ℕ)
      → state_reply (code (reply (solving_questions U G order fact condition room) (total_count U (U + G) (held (U + G) made) ∷ [])))
      ≡ reply (solving_questions U G order fact condition room) (total_count U (U + G) (held (U + G) made) ∷ [])
  unfolding before_solution solving_questions buffer_questions room_questions bit_questions fact_questions
  solving_decoded made =
      state_back before_solution _ _ _ refl (λ e. omega (arith, e, first_other 9 before_solution refl e))
      (λ z. (state_small z, total_fits U G made (yes_to Letters (letters_fit U G) [] _ z).0))

-- reading and the audit: what passes 10, 11, 1, 2, 12, 17, 22 and 23 is an entry of what it holds
module _ (bs : List ℕ) (are : AreBytes bs) where
  entry_fits : first_no (entry_questions (records bs)) ≡ 0
      → let rs : List Record = records bs in
      Fit (route_of rs) (unknowns_of rs) (givens_of rs) (length (bytes rs)) (held_verdict rs)
  unfolding route_fits held_condition
  entry_fits z =
      let rs : List Record = records bs in
      let p : Passes rs = (passes_exactly rs).0 z in
      let n : unknowns_of rs + givens_of rs ≤ 10 = letters_small _ _ p.letters in
      let c : rs ≡ entry_records (route_of rs) (held_condition rs) (held_verdict rs) =
      canonical rs (records_made bs are) p.kinds (records_end bs) n p.numbers p.order in
      let m : length (bytes rs) ≡ length (bytes (entry_records (route_of rs) (held_condition rs) (held_verdict rs))) =
      ap (λ (l : List Record). length (bytes l)) c in
      record {
        of_route = omega (arith, leb-true (route_of rs) 250 (and_right (leb 1 (route_of rs)) (leb (route_of rs) 250) p.route));
        of_unknowns = omega arith;
        of_givens = omega arith;
        of_length = omega (
          arith,
          entry_most (route_of rs) (held_condition rs) (held_verdict rs) (unknowns_small _ _ p.letters) (givens_small _ _ p.letters) n
              p.fact_letters,
        );
        of_state = λ state e.
            let held = held_fits rs (records_made bs are) p.kinds (records_end bs) n p.numbers p.order in
            let f : state.0 < 2 ^ givens_of rs = subst (VerdictFits (unknowns_of rs) (givens_of rs)) e held in
            omega (arith, givens_few (unknowns_of rs) (givens_of rs) p.letters);
      }

  pub read_decoded : (fact_room room answer_room : ℕ)
      → entry_reply (entry_code (reply (read_questions (records bs) fact_room room answer_room) (read_values (records bs))))
      ≡ reply (read_questions (records bs) fact_room room answer_room) (read_values (records bs))
  unfolding read_questions read_values entry_questions record_questions fact_questions buffer_questions room_questions bit_questions
  read_decoded fact_room room answer_room =
      entry_back _ _ _ _ (read_questions (records bs) fact_room room answer_room) (held_verdict (records bs)) refl
      (λ z. entry_fits (asked_before (entry_questions (records bs)) _ z))

  pub audit_decoded : entry_reply (entry_code (reply (audit_questions (records bs)) (read_values (records bs))))
      ≡ reply (audit_questions (records bs)) (read_values (records bs))
  unfolding audit_questions read_values entry_questions record_questions fact_questions
  audit_decoded =
      entry_back _ _ _ _ (audit_questions (records bs)) (held_verdict (records bs)) refl
      (λ z. entry_fits (asked_before (entry_questions (records bs)) _ z))

-- a walk
walk_below : (before : ℕ) (bs : List ℕ) → walk_refusal before bs < 256
unfolding walk_questions audit_questions entry_questions
walk_below before bs = first_small (walk_questions before (records bs))

ends_back : {last passed : ℕ} {bs : List ℕ} {answer : Reply} → passed ≤ 250 → Ends last passed bs answer → count_reply (code answer) ≡ answer
ends_back {passed = passed} h at_end = count_back passed (omega arith)
ends_back {last = last} {passed = passed} {bs = bs} h (refused_at number l e n) =
    passed_back number passed n (rw e at (walk_below last bs)) (omega arith)

pub walk_decoded : (volume : List ℕ) (place : ℕ) → AreBytes volume → count_reply (code (walk_reply volume place)) ≡ walk_reply volume place
walk_decoded volume place are =
    let w : Walks (drop place volume) (walk_reply volume place) = (walk_exact volume place (walk_reply volume place) are).0 refl in
    let m : 0 + w.count ≤ 250 = entries_most (omega arith) w.entries in
    ends_back (omega (arith, m)) w.ends

-- ---- sessions: a start, and a step from any session
step_back : (done : Result Unit Question) (after before : Session)
    → plain_reply (code (outcome (stepped done after before).outcome)) ≡ outcome (stepped done after before).outcome
unfolding numbered stepped
step_back (Ok done) after before = refl
step_back (Err question) after before = go (number question) (number_within question).0 (number_within question).1
  where
    go : (q : ℕ) → 0 < q → q < 256 → plain_reply (code (refused q [])) ≡ refused q []
    go zero some l = absurd (omega arith)
    go (suc n) some l = let e : suc n % 256 ≡ suc n = omega arith in rw e

pub start_decoded : (U G : ℕ) → plain_reply (code (outcome (start_step U G).outcome)) ≡ outcome (start_step U G).outcome
start_decoded U G = step_back (outcome_of (start_questions U G)) (new_session U G) (new_session 0 0)

pub step_decoded : (s : Session) (action : Action) → plain_reply (code (outcome (step_from s action).outcome)) ≡ outcome (step_from s action).outcome
step_decoded s (adds h) = step_back (outcome_of (add_questions s.unknowns s.givens (asked_tables s) h)) (added s h) s
step_decoded s (marks name) = step_back (outcome_of (mark_questions s.unknowns s.givens (asked_tables s) name)) (marked s name) s
step_decoded s (returns name) =
    step_back (outcome_of (return_questions s.unknowns s.givens (asked_tables s) name (under s name).set)) (returned s name) s
