-- How long tables are: the number of monomials is that of the polynomial that a table is made of, and the total over the unknowns of an answer
-- table is the number of its bytes that are 1.
-- Assumes nothing.
use mathlib.Core.Path.{◌≡◌, refl, sym, ap, ap₂, ◌∙◌}
use mathlib.Core.List.{List}
use Prim.Native.Nat.{ℕ, zero, suc, ◌+◌, ◌*◌, ◌^◌, ◌≤◌, ◌<◌}
use native.Mathlib.Nat.{zero-mul, suc-mul}
use native.Mathlib.Omega.{arith}
use lib.ListN.{take}
use Rattle.ring.specs.Polynomial.{Polynomial, count}
use Rattle.ring.specs.Table.{present, table, held, answer_table}
use Rattle.ring.specs.Length.{monomial_count, total_count}
use Rattle.ring.proofs.Parity.{count_cong, count_add, count_most}
use Rattle.ring.proofs.Table.{present-table, held-take, held-answer_table}

pub monomials_cong : (n : ℕ) (f g : Polynomial) → ((m : ℕ) → m < 2 ^ n → f m ≡ g m) → monomial_count n f ≡ monomial_count n g
unfolding monomial_count
monomials_cong n f g e = count_cong (2 ^ n) f g e

-- a table has the monomials of its polynomial
pub monomials-table : (n : ℕ) (f : Polynomial) → monomial_count n (present (table n f)) ≡ monomial_count n f
monomials-table n f = monomials_cong n _ f (present-table n f)

pub total_cong : (U n : ℕ) (a b : ℕ → Polynomial) → ((j m : ℕ) → j < U → m < 2 ^ n → a j m ≡ b j m) → total_count U n a ≡ total_count U n b
unfolding total_count
total_cong zero n a b e = refl
total_cong (suc U) n a b e =
    ap₂ ◌+◌ (total_cong U n a b (λ j m l h. e j m (omega arith) h)) (monomials_cong n (a U) (b U) (λ m h. e U m (omega arith) h))

-- an answer table has those of its polynomials
pub total_answer_table : (U n : ℕ) (a : ℕ → Polynomial) → total_count U n (held n (answer_table U n a)) ≡ total_count U n a
total_answer_table U n a = total_cong U n _ a (held-answer_table U n a)

-- .. and what stands behind it plays no part
pub total_take : (U n : ℕ) (t : List ℕ) → total_count U n (held n (take (U * 2 ^ n) t)) ≡ total_count U n (held n t)
total_take U n t = total_cong U n _ _ (held-take n U t)

-- the total is the number of bytes that are 1, over all U tables
pub total_bytes : (U n : ℕ) (t : List ℕ) → total_count U n (held n t) ≡ count (U * 2 ^ n) (present t)
unfolding total_count monomial_count held count
total_bytes zero n t = rw (zero-mul (2 ^ n))
total_bytes (suc U) n t =
    rw (suc-mul U (2 ^ n))
    (ap (λ (k : ℕ). k + count (2 ^ n) (held n t U)) (total_bytes U n t) ∙ sym (count_add (U * 2 ^ n) (2 ^ n) (present t)))

pub total_most : (U n : ℕ) (a : ℕ → Polynomial) → total_count U n a ≤ U * 2 ^ n
unfolding total_count monomial_count
total_most zero n a = omega arith
total_most (suc U) n a = omega (arith, suc-mul U (2 ^ n), total_most U n a, count_most (2 ^ n) (a U))
