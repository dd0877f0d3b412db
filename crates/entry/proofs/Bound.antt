-- How long an entry is: 4 bytes of kind 1; 7 of kind 6, or none; 3 for each monomial of the fact, at most 2 ^ G, since it has no unknown;
-- 3 for each monomial of the condition, at most 2 ^ n; 4 for each monomial of each answer, at most U * 2 ^ n, or 2 of kind 5; 2 of kind 4.
-- With U = 6 there are at most 4 givens, and that is 4 + 7 + 3 * 16 + 3 * 1,024 + 4 * 6,144 + 2 = 27,709; with fewer unknowns, and at most
-- 8 givens, the answers take 4,096 less, and the fact at most 720 more.
-- Assumes nothing.
use mathlib.Core.Path.{◌≡◌, refl, sym, ap, ap₂, ◌∙◌}
use mathlib.Core.Bool.{Bool, true, false, cond}
use mathlib.Core.List.{List, [], ◌∷◌, ◌++◌, map}
use mathlib.Core.Logic.{◌⊎◌, inl, inr}
use Prim.Native.Nat.{ℕ, zero, suc, ◌+◌, ◌*◌, ◌^◌, ◌≤◌}
use native.Mathlib.Nat.{add_comm, mul-zero, suc-mul, mul-suc, mul-le-mul}
use native.Mathlib.Omega.{arith}
use lib.Pow.{pow_mono}
use lib.Dec.{ltb}
use lib.ListN.{length, length-append}
use borrow.Author.Tests.{ltb-true, ltb-false}
use Rattle.ring.specs.Polynomial.{Polynomial}
use Rattle.ring.specs.Table.{present, held}
use Rattle.order.specs.Order.{monomials}
use Rattle.order.proofs.Order.{length-monomials}
use Rattle.ring.specs.Lists.{listed}
use Rattle.ring.proofs.Bool.{bool_cases}
use Rattle.ring.proofs.Parity.{count_most}
use Rattle.solution.specs.Fact.{has_no_unknown}
use Rattle.solution.specs.Condition.{Condition, width}
use Rattle.solution.specs.Order.{order_bytes}
use Rattle.solution.specs.Elimination.{Verdict, solved, none}
use Rattle.entry.specs.Record.{Record, fields, body_of, low_first, condition_record, answer_record, end_record, order_record, fact_record}
use Rattle.entry.specs.Record.{is_default, bytes}
use Rattle.entry.specs.Entry.{order_records, fact_records, condition_records, answer_records, verdict_records, entry_records}
use Rattle.solution.proofs.Unknowns.{count_no_unknown}
use Rattle.entry.proofs.Back.{bytes-append}

pub monomials_most : (n : ℕ) (f : Polynomial) → length (monomials n f) ≤ 2 ^ n
monomials_most n f = omega (arith, length-monomials n f, count_most (2 ^ n) f)

pub length-bytes : (rs ss : List Record) → length (bytes (rs ++ ss)) ≡ length (bytes rs) + length (bytes ss)
length-bytes rs ss = ap length (bytes-append rs ss) ∙ length-append (bytes rs) (bytes ss)

-- records of one length
each_bytes : (k : ℕ) (made : ℕ → Record) → ((m : ℕ) → length (made m) ≡ k) → (ms : List ℕ) → length (bytes (map made ms)) ≡ k * length ms
unfolding bytes
each_bytes k made long [] = sym (mul-zero k)
each_bytes k made long (m ∷ ms) =
    length-append (made m) (bytes (map made ms))
    ∙ ap₂ ◌+◌ (long m) (each_bytes k made long ms)
    ∙ add_comm k (k * length ms)
    ∙ sym (mul-suc k (length ms))

pub condition_bytes : (ms : List ℕ) → length (bytes (map condition_record ms)) ≡ 3 * length ms
unfolding fields body_of low_first
condition_bytes = each_bytes 3 condition_record (λ m. refl)

pub fact_bytes : (ms : List ℕ) → length (bytes (map fact_record ms)) ≡ 3 * length ms
unfolding fields body_of low_first
fact_bytes = each_bytes 3 fact_record (λ m. refl)

pub answer_bytes : (j : ℕ) (ms : List ℕ) → length (bytes (map (answer_record j) ms)) ≡ 4 * length ms
unfolding fields body_of low_first
answer_bytes j = each_bytes 4 (answer_record j) (λ m. refl)

-- the order's record, if there is one
pub order-size : (c : Condition) → length (bytes (order_records c)) ≡ cond (is_default c.U (order_bytes c.order)) 0 7
unfolding order_records order_bytes listed bytes fields body_of low_first
order-size c = go (is_default c.U (order_bytes c.order))
  where
    go : (b : Bool) → length (bytes (cond b [] (order_record c.order ∷ []))) ≡ cond b 0 7
    go true = refl
    go false = refl

order_most : (c : Condition) → length (bytes (order_records c)) ≤ 7
order_most c = rw (order-size c) (go (is_default c.U (order_bytes c.order)))
  where
    go : (b : Bool) → cond b 0 7 ≤ 7
    go true = omega arith
    go false = omega arith

-- the condition's records
pub condition_most : (c : Condition) → length (bytes (condition_records c)) ≤ 3 * 2 ^ width c
unfolding condition_records
condition_most c =
    omega (arith, condition_bytes (monomials (width c) (present c.table)), monomials_most (width c) (present c.table))

-- the answers' records
pub answers_most : (j n : ℕ) (a : List ℕ) → length (bytes (answer_records j n a)) ≤ j * (4 * 2 ^ n)
unfolding answer_records bytes
answers_most zero n a = omega arith
answers_most (suc j) n a =
    let e : length (bytes (answer_records (suc j) n a)) ≡ length (bytes (answer_records j n a)) + 4 * length (monomials n (held n a j)) =
    length-bytes (answer_records j n a) (map (answer_record j) (monomials n (held n a j)))
    ∙ ap (λ (k : ℕ). length (bytes (answer_records j n a)) + k) (answer_bytes j (monomials n (held n a j))) in
    let ih : length (bytes (answer_records j n a)) ≤ j * (4 * 2 ^ n) = answers_most j n a in
    omega (arith, monomials_most n (held n a j), suc-mul j (4 * 2 ^ n))

-- the fact's records
fact_most : (c : Condition) → has_no_unknown c.U (width c) (present c.fact) ≡ true → length (bytes (fact_records c)) ≤ 3 * 2 ^ c.G
unfolding fact_records
fact_most c givens =
    omega (
      arith,
      fact_bytes (monomials (width c) (present c.fact)),
      length-monomials (width c) (present c.fact),
      count_no_unknown c.U c.G (present c.fact) givens,
    )

size_most : (n : ℕ) → n ≤ 10 → 2 ^ n ≤ 1024
size_most n hn = pow_mono hn

-- the verdict's records, of at most k unknowns
verdict_most : (U n k : ℕ) → U ≤ suc k → n ≤ 10 → (v : Verdict (List ℕ)) → length (bytes (verdict_records U n v)) ≤ suc k * 4096
unfolding verdict_records bytes fields body_of low_first
verdict_most U n k hu hn (solved a) =
    let q : 4 * 2 ^ n ≤ 4096 = omega (arith, size_most n hn) in
    let p : U * (4 * 2 ^ n) ≤ suc k * 4096 = mul-le-mul hu q in
    omega (arith, answers_most U n a)
verdict_most U n k hu hn (none state) = omega arith

-- an entry is the sum of its parts
pub entry_parts : (route : ℕ) (c : Condition) (v : Verdict (List ℕ))
    → length (bytes (entry_records route c v))
    ≡ 6
    + (length (bytes (order_records c))
    + (length (bytes (fact_records c)) + (length (bytes (condition_records c)) + length (bytes (verdict_records c.U (width c) v)))))
unfolding entry_records bytes fields body_of low_first
entry_parts route c v =
    let end : List Record = end_record route ∷ [] in
    let told : List Record = verdict_records c.U (width c) v in
    omega (
      arith,
      length-bytes (order_records c) (fact_records c ++ (condition_records c ++ (told ++ end))),
      length-bytes (fact_records c) (condition_records c ++ (told ++ end)),
      length-bytes (condition_records c) (told ++ end),
      length-bytes told end,
    )

-- 27,654 without the records of the order and the fact
pub entry_without : (route : ℕ) (c : Condition) (v : Verdict (List ℕ)) → c.U ≤ 6 → width c ≤ 10
    → length (bytes (entry_records route c v)) ≤ 27654 + (length (bytes (order_records c)) + length (bytes (fact_records c)))
entry_without route c v hu hn =
    omega (arith, entry_parts route c v, condition_most c, size_most (width c) hn, verdict_most c.U (width c) 5 hu hn v)

-- over U and G together
pub entry_most : (route : ℕ) (c : Condition) (v : Verdict (List ℕ)) → c.U ≤ 6 → c.G ≤ 8 → width c ≤ 10
    → has_no_unknown c.U (width c) (present c.fact) ≡ true → length (bytes (entry_records route c v)) ≤ 27709
entry_most route c v hu hg hn givens = go (bool_cases (ltb c.U 6))
  where
    go : (ltb c.U 6 ≡ true) ⊎ (ltb c.U 6 ≡ false) → length (bytes (entry_records route c v)) ≤ 27709
    go (inl h) =
        let five : c.U ≤ 5 = omega (arith, ltb-true c.U 6 h) in
        let q : 2 ^ c.G ≤ 256 = pow_mono hg in
        omega (
          arith,
          entry_parts route c v,
          order_most c,
          fact_most c givens,
          condition_most c,
          size_most (width c) hn,
          verdict_most c.U (width c) 4 five hn v,
        )
    go (inr h) =
        let six : 6 ≤ c.U = ltb-false c.U 6 h in
        let four : c.G ≤ 4 = omega arith in
        let q : 2 ^ c.G ≤ 16 = pow_mono four in
        omega (arith, entry_without route c v hu hn, order_most c, fact_most c givens)
