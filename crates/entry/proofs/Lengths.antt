-- How many monomials an entry holds (document 02, C-17). A polynomial has as many as its list in written order is long, and an entry has a
-- record of kind 3 for each monomial of each answer, and no others of that kind.
-- Assumes nothing.
use mathlib.Core.Path.{◌≡◌, refl, sym, ap, ap₂, ◌∙◌}
use mathlib.Core.Bool.{Bool, true, false, cond}
use mathlib.Core.List.{List, [], ◌∷◌, ◌++◌, map}
use Prim.Native.Nat.{ℕ, zero, suc, ◌+◌}
use native.Mathlib.Nat.{zero-add, add_assoc}
use native.Mathlib.Omega.{arith}
use lib.ListN.{length}
use Rattle.ring.specs.Letters.{digit}
use Rattle.ring.specs.Polynomial.{Polynomial}
use Rattle.ring.specs.Table.{present, held}
use Rattle.ring.specs.Length.{monomial_count, total_count}
use Rattle.order.specs.Order.{monomials}
use Rattle.order.proofs.Order.{length-monomials}
use Rattle.solution.specs.Condition.{Condition, width}
use Rattle.solution.specs.Order.{order_bytes}
use Rattle.solution.specs.Elimination.{solved, solve}
use Rattle.entry.specs.Record.{Record, kind, is_answer, answer_record, condition_record, fact_record, order_record, is_default}
use Rattle.entry.specs.Entry.{order_records, fact_records, condition_records, answer_records, verdict_records, entry_records, entry}
use Rattle.entry.specs.Held.{records, answer_count}
use Rattle.entry.proofs.Back.{records-entry}

-- the number of monomials is the length of their list in written order
pub length-written : (n : ℕ) (f : Polynomial) → monomial_count n f ≡ length (monomials n f)
unfolding monomial_count
length-written n f = sym (length-monomials n f)

-- ---- records of kind 3
answers_append : (rs ss : List Record) → answer_count (rs ++ ss) ≡ answer_count rs + answer_count ss
unfolding answer_count
answers_append [] ss = sym (zero-add (answer_count ss))
answers_append (r ∷ rs) ss =
    ap (λ (x : ℕ). digit (is_answer r) + x) (answers_append rs ss) ∙ sym (add_assoc (digit (is_answer r)) (answer_count rs) (answer_count ss))

-- records that are made of monomials, all of one kind
each_counts : (b : Bool) (made : ℕ → Record) → ((m : ℕ) → is_answer (made m) ≡ b) → (ms : List ℕ)
    → answer_count (map made ms) ≡ cond b (length ms) 0
unfolding answer_count
each_counts true made same [] = refl
each_counts false made same [] = refl
each_counts true made same (m ∷ ms) =
    rw (same m) (ap (λ (x : ℕ). 1 + x) (each_counts true made same ms) ∙ (let e : 1 + length ms ≡ suc (length ms) = omega arith in e))
each_counts false made same (m ∷ ms) = rw (same m) (ap (λ (x : ℕ). 0 + x) (each_counts false made same ms))

answers_total : (U n : ℕ) (a : List ℕ) → answer_count (answer_records U n a) ≡ total_count U n (held n a)
unfolding answer_records total_count answer_count kind
answers_total zero n a = refl
answers_total (suc j) n a =
    answers_append (answer_records j n a) (map (answer_record j) (monomials n (held n a j)))
    ∙ ap₂ ◌+◌ (answers_total j n a)
    (each_counts true (answer_record j) (λ m. refl) (monomials n (held n a j)) ∙ sym (length-written n (held n a j)))

module _ (route : ℕ) (c : Condition) (a : List ℕ) where
  none_of-order : answer_count (order_records c) ≡ 0
  unfolding order_records answer_count kind
  none_of-order = go (is_default c.U (order_bytes c.order))
    where
      go : (b : Bool) → answer_count (cond b [] (order_record c.order ∷ [])) ≡ 0
      go true = refl
      go false = refl

  none_of_fact : answer_count (fact_records c) ≡ 0
  unfolding fact_records kind
  none_of_fact = each_counts false fact_record (λ m. refl) (monomials (width c) (present c.fact))

  none_of_condition : answer_count (condition_records c) ≡ 0
  unfolding condition_records kind
  none_of_condition = each_counts false condition_record (λ m. refl) (monomials (width c) (present c.table))

  solved_total : answer_count (entry_records route c (solved a)) ≡ total_count c.U (width c) (held (width c) a)
  unfolding entry_records verdict_records answer_count kind
  solved_total =
      rw (
        answers_append (order_records c),
        answers_append (fact_records c),
        answers_append (condition_records c),
        answers_append (answer_records c.U (width c) a),
        none_of-order,
        none_of_fact,
        none_of_condition,
        answers_total c.U (width c) a,
      )
      (omega arith)

  -- a solved entry, whatever stands behind it, has a record of kind 3 for each monomial of its answers
  pub entry_total : (behind : List ℕ) → solve c ≡ solved a
      → answer_count (records (entry route c ++ behind)) ≡ total_count c.U (width c) (held (width c) a)
  entry_total behind e =
      ap answer_count (records-entry route c behind ∙ ap (entry_records route c) e) ∙ solved_total
