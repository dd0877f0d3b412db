-- Tables of bytes: two with the same values are one, and every function on the points has a table. Then answer tables, U tables one after another.
-- Assumes nothing.
use mathlib.Core.Path.{◌≡◌, refl, sym, ap, ap₂, ◌∙◌}
use mathlib.Core.Bool.{Bool, true, false}
use mathlib.Core.Logic.{◌↔◌}
use mathlib.Core.List.{List, [], ◌∷◌, ◌++◌}
use Prim.Native.Nat.{ℕ, zero, suc, ◌+◌, ◌*◌, ◌/◌, ◌%◌, ◌^◌, ◌<◌}
use native.Mathlib.Nat.{suc-mul, zero-mul}
use native.Mathlib.Omega.{arith}
use lib.Dec.{eqb}
use lib.Arith.{digits_lt}
use lib.Pow.{high, low}
use lib.ListN.{length, get_or, take, drop, replicate}
use lib.Seq.{ext_get_or, get_or-take, get_or-drop, take_at}
use borrow.Author.Tests.{eqb-true, eqb-false}
use Rattle.ring.specs.Letters.{digit}
use Rattle.ring.specs.Polynomial.{Polynomial, value}
use Rattle.ring.specs.Table.{present, IsTable, tabulate, table, values, held, answer_table}
use Rattle.ring.proofs.Lists.{tabulate-listed, listed_add}
use Rattle.ring.proofs.Value.{value_cong, involution, same_values}
use Rattle.ring.proofs.Bool.{digit_lt, bit-digit}

pub length-tabulate : (k : ℕ) (h : ℕ → Bool) → length (tabulate k h) ≡ k
unfolding tabulate
length-tabulate zero h = refl
length-tabulate (suc k) h = ap suc (length-tabulate k (λ i. h (suc i)))

pub get_d_tabulate : (k : ℕ) (h : ℕ → Bool) (i : ℕ) → i < k → get_or (tabulate k h) i 0 ≡ digit (h i)
unfolding tabulate
get_d_tabulate zero h i l = absurd (omega arith)
get_d_tabulate (suc k) h zero l = refl
get_d_tabulate (suc k) h (suc i) l = get_d_tabulate k (λ j. h (suc j)) i (omega arith)

pub bits_tabulate : (k : ℕ) (h : ℕ → Bool) (i : ℕ) → get_or (tabulate k h) i 0 < 2
unfolding tabulate
bits_tabulate zero h i = omega arith
bits_tabulate (suc k) h zero = digit_lt (h 0)
bits_tabulate (suc k) h (suc i) = bits_tabulate k (λ j. h (suc j)) i

pub tabulate_cong : (k : ℕ) (g h : ℕ → Bool) → ((i : ℕ) → i < k → g i ≡ h i) → tabulate k g ≡ tabulate k h
unfolding tabulate
tabulate_cong zero g h e = refl
tabulate_cong (suc k) g h e =
    ap₂ (λ (b : Bool) (l : List ℕ). digit b ∷ l) (e 0 (omega arith))
    (tabulate_cong k (λ i. g (suc i)) (λ i. h (suc i)) (λ i l. e (suc i) (omega arith)))

-- no monomial: each byte is 0
pub zero_bytes : (k : ℕ) → tabulate k (λ m. false) ≡ replicate k 0
unfolding tabulate
zero_bytes zero = refl
zero_bytes (suc k) = ap (λ (t : List ℕ). 0 ∷ t) (zero_bytes k)

tabulate_add : (j k : ℕ) (h : ℕ → Bool) → tabulate (j + k) h ≡ tabulate j h ++ tabulate k (λ i. h (j + i))
tabulate_add j k h =
    tabulate-listed (j + k) h ∙ listed_add j k (λ i. digit (h i))
    ∙ sym (ap₂ ◌++◌ (tabulate-listed j h) (tabulate-listed k (λ i. h (j + i))))

pub present-tabulate : (k : ℕ) (h : ℕ → Bool) (i : ℕ) → i < k → present (tabulate k h) i ≡ h i
unfolding present
present-tabulate k h i l = ap (λ (x : ℕ). eqb x 1) (get_d_tabulate k h i l) ∙ bit-digit (h i)

pub is-table : (n : ℕ) (h : ℕ → Bool) → IsTable n (tabulate (2 ^ n) h)
is-table n h = record { size = length-tabulate (2 ^ n) h; bits = bits_tabulate (2 ^ n) h }

same_bit : (a b : ℕ) → a < 2 → b < 2 → eqb a 1 ≡ eqb b 1 → a ≡ b
same_bit a b ha hb e = go (eqb b 1) refl e
  where
    go : (t : Bool) → eqb b 1 ≡ t → eqb a 1 ≡ t → a ≡ b
    go true p q = eqb-true a 1 q ∙ sym (eqb-true b 1 p)
    go false p q = omega (arith, eqb-false a 1 q, eqb-false b 1 p)

same_present : (n : ℕ) (s t : List ℕ) → IsTable n s → IsTable n t → ((m : ℕ) → m < 2 ^ n → present s m ≡ present t m) → s ≡ t
unfolding present
same_present n s t a b e =
    ext_get_or 0 s t (a.size ∙ sym b.size) (λ i l. same_bit (get_or s i 0) (get_or t i 0) (a.bits i) (b.bits i) (e i (rw a.size at l)))

-- two tables with the same values are one
pub same_table : (n : ℕ) (s t : List ℕ) → IsTable n s → IsTable n t → ((p : ℕ) → p < 2 ^ n → value n (present s) p ≡ value n (present t) p)
    → s ≡ t
same_table n s t a b e = same_present n s t a b (same_values n (present s) (present t) e)

pub values_twice : (n : ℕ) (t : List ℕ) → IsTable n t → values n (values n t) ≡ t
unfolding values
values_twice n t a =
    same_present n _ t (is-table n _) a
    (λ m l. present-tabulate (2 ^ n) (value n (present (tabulate (2 ^ n) (value n (present t))))) m l
    ∙ value_cong n _ _ m (λ p k. present-tabulate (2 ^ n) (value n (present t)) p k)
    ∙ involution n (present t) m l)

-- the table with the values h is what the passage back from them gives
pub table_by-values : (n : ℕ) (f : Polynomial) (h : ℕ → Bool) → ((p : ℕ) → p < 2 ^ n → h p ≡ value n f p)
    → values n (tabulate (2 ^ n) h) ≡ table n f
unfolding values table
table_by-values n f h e =
    tabulate_cong (2 ^ n) _ f (λ m l. value_cong n _ _ m (λ p k. present-tabulate (2 ^ n) h p k ∙ e p k) ∙ involution n f m l)

-- every function on the points is the value of a table, and by `same_table` of one only
pub table_of : (n : ℕ) (h : ℕ → Bool) (p : ℕ) → p < 2 ^ n → value n (present (tabulate (2 ^ n) (value n h))) p ≡ h p
table_of n h p l = value_cong n _ _ p (λ m k. present-tabulate (2 ^ n) (value n h) m k) ∙ involution n h p l

pub table_cong : (n : ℕ) (f g : Polynomial) → ((m : ℕ) → m < 2 ^ n → f m ≡ g m) → table n f ≡ table n g
unfolding table
table_cong n f g e = tabulate_cong (2 ^ n) f g e

-- a table's polynomial is read off its first bytes alone
pub present-take : (k : ℕ) (t : List ℕ) (m : ℕ) → m < k → present (take k t) m ≡ present t m
unfolding present
present-take k t m l = ap (λ (x : ℕ). eqb x 1) (get_or-take k t m 0 l)

-- .. and that of a part of it off the part's bytes
pub present_part : (d start : ℕ) (t : List ℕ) (m : ℕ) → m < d → present (take d (drop start t)) m ≡ present t (start + m)
unfolding present
present_part d start t m l = ap (λ (x : ℕ). eqb x 1) (get_or-take d (drop start t) m 0 l ∙ get_or-drop start t m 0)

pub held-take : (n count : ℕ) (t : List ℕ) (j m : ℕ) → j < count → m < 2 ^ n → held n (take (count * 2 ^ n) t) j m ≡ held n t j m
unfolding held
held-take n count t j m hj hm = present-take (count * 2 ^ n) t (j * 2 ^ n + m) (digits_lt hj hm)

-- what a table and an answer table hold
pub present-table : (n : ℕ) (f : Polynomial) (m : ℕ) → m < 2 ^ n → present (table n f) m ≡ f m
unfolding table
present-table n f m l = present-tabulate (2 ^ n) f m l

-- the empty table has no monomial
pub empty_exactly : (n : ℕ) (f : Polynomial) → (table n f ≡ replicate (2 ^ n) 0) ↔ ((m : ℕ) → m < 2 ^ n → f m ≡ false)
unfolding table
empty_exactly n f = (
  λ e m l. sym (present-table n f m l) ∙ ap (λ (t : List ℕ). present t m) (e ∙ sym (zero_bytes (2 ^ n))) ∙ present-table n (λ m. false) m l,
  λ z. table_cong n f (λ m. false) z ∙ zero_bytes (2 ^ n),
)

pub length-table : (n : ℕ) (f : Polynomial) → length (table n f) ≡ 2 ^ n
unfolding table
length-table n f = length-tabulate (2 ^ n) f

pub held-answer_table : (count n : ℕ) (a : ℕ → Polynomial) (j m : ℕ) → j < count → m < 2 ^ n → held n (answer_table count n a) j m ≡ a j m
unfolding held answer_table
held-answer_table count n a j m hj hm =
    present-tabulate (count * 2 ^ n) _ (j * 2 ^ n + m) (digits_lt hj hm) ∙ ap₂ a (high j n hm) (low j n hm)

pub length-answer_table : (count n : ℕ) (a : ℕ → Polynomial) → length (answer_table count n a) ≡ count * 2 ^ n
unfolding answer_table
length-answer_table count n a = length-tabulate (count * 2 ^ n) _

-- the same at the front of a buffer
pub held_front : (count n : ℕ) (a : ℕ → Polynomial) (rest : List ℕ) (j m : ℕ) → j < count → m < 2 ^ n
    → held n (answer_table count n a ++ rest) j m ≡ a j m
held_front count n a rest j m hj hm =
    sym (held-take n count (answer_table count n a ++ rest) j m hj hm)
    ∙ ap (λ (t : List ℕ). held n t j m) (take_at (answer_table count n a) rest (count * 2 ^ n) (length-answer_table count n a))
    ∙ held-answer_table count n a j m hj hm

-- 'U such tables one after another, unknown 0 first'
pub answer_table_none : (n : ℕ) (a : ℕ → Polynomial) → answer_table 0 n a ≡ []
unfolding answer_table tabulate
answer_table_none n a = ap (λ (k : ℕ). tabulate k (λ i. a (i / 2 ^ n) (i % 2 ^ n))) (zero-mul (2 ^ n))

pub answer_table_last : (U n : ℕ) (a : ℕ → Polynomial) → answer_table (suc U) n a ≡ answer_table U n a ++ table n (a U)
unfolding answer_table table
answer_table_last U n a =
    ap (λ (k : ℕ). tabulate k (λ i. a (i / 2 ^ n) (i % 2 ^ n))) (suc-mul U (2 ^ n))
    ∙ tabulate_add (U * 2 ^ n) (2 ^ n) (λ i. a (i / 2 ^ n) (i % 2 ^ n))
    ∙ ap (λ (l : List ℕ). tabulate (U * 2 ^ n) (λ i. a (i / 2 ^ n) (i % 2 ^ n)) ++ l)
    (tabulate_cong (2 ^ n) _ _ (λ m l. ap₂ a (high U n l) (low U n l)))

pub answer_table_cong : (U n : ℕ) (a b : ℕ → Polynomial) → ((j m : ℕ) → j < U → m < 2 ^ n → a j m ≡ b j m)
    → answer_table U n a ≡ answer_table U n b
answer_table_cong zero n a b e = answer_table_none n a ∙ sym (answer_table_none n b)
answer_table_cong (suc U) n a b e =
    answer_table_last U n a
    ∙ ap₂ ◌++◌ (answer_table_cong U n a b (λ j m l h. e j m (omega arith) h)) (table_cong n (a U) (b U) (λ m l. e U m (omega arith) l))
    ∙ sym (answer_table_last U n b)

-- back to the polynomials that have these values
pub values_back : (u n : ℕ) (a : ℕ → Polynomial) (h : ℕ → ℕ → Bool) → ((j p : ℕ) → j < u → p < 2 ^ n → h j p ≡ value n (a j) p)
    → answer_table u n (λ j. value n (h j)) ≡ answer_table u n a
values_back u n a h e = answer_table_cong u n _ _ (λ j m hj hm. value_cong n _ _ m (λ p hp. e j p hj hp) ∙ involution n (a j) m hm)

-- ---- a list that is known to be a table, or an answer table
pub same_is_table : (n : ℕ) (s t : List ℕ) → s ≡ t → IsTable n t → IsTable n s
same_is_table n s t e h = rw e h

pub answers_length : (count n : ℕ) (a : ℕ → Polynomial) (s : List ℕ) → s ≡ answer_table count n a → length s ≡ count * 2 ^ n
answers_length count n a s e = ap length e ∙ length-answer_table count n a
