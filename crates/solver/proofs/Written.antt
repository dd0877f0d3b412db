-- The tables of each method's answers, from the values of Boole's.
-- Assumes nothing.
use mathlib.Core.Path.{◌≡◌, refl, sym, ap, ap₂, ◌∙◌}
use mathlib.Core.Bool.{Bool, true, false, ◌&&◌}
use mathlib.Core.List.{List}
use Prim.Native.Nat.{ℕ, zero, suc, ◌+◌, ◌-◌, ◌*◌, ◌/◌, ◌^◌, ◌≤◌, ◌<◌}
use native.Mathlib.Nat.{add-zero, mul_assoc, mul_comm, pow-suc}
use native.Mathlib.Numerals.{add-one}
use native.Mathlib.Omega.{arith}
use lib.Pow.{split}
use lib.ListN.{length}
use Rattle.ring.specs.Letters.{bit, assign}
use Rattle.ring.specs.Polynomial.{Polynomial, ◌⊕◌, value}
use Rattle.ring.specs.Table.{answer_table}
use Rattle.ring.proofs.Points.{assign_above, assign-bit, assign_clear}
use Rattle.ring.proofs.Table.{values_back}
use Rattle.words.specs.Inner.Words.{words_of, bit_at, IsWords}
use Rattle.words.proofs.Letters.{room}
use Rattle.words.proofs.Words.{at_known, size_words, words_cong}
use Rattle.solution.specs.Condition.{Condition, width, polynomial}
use Rattle.solution.specs.Elimination.{boole_answers, boole_table, particular_table, lowenheim_table}
use Rattle.solution.specs.Inner.ByPoints.{zero_choice}
use Rattle.solution.proofs.ByPoints.{value-particular, value-own_lowenheim}
use Rattle.words.proofs.Parts.{points_in, answer_at_lem, part_fits}
use Rattle.solver.specs.declared.Method.{Method}
use Rattle.solver.specs.declared.Method.TheVariants.{Boole, Particular, Lowenheim}
use Rattle.solver.specs.Inner.Methods.{table_by, value_words, boole_words}
use Rattle.solver.specs.Inner.Words.{part_value, mixed_value}

-- every unknown at 0, within a word
zero_in : (u a p : ℕ) → u ≤ 6 → zero_choice u (64 * a + p) ≡ 64 * a + zero_choice u p
unfolding zero_choice
zero_in zero a p h = omega arith
zero_in (suc zero) a p h = omega arith
zero_in (suc (suc zero)) a p h = omega arith
zero_in (suc (suc (suc zero))) a p h = omega arith
zero_in (suc (suc (suc (suc zero)))) a p h = omega arith
zero_in (suc (suc (suc (suc (suc zero))))) a p h = omega arith
zero_in (suc (suc (suc (suc (suc (suc zero)))))) a p h = omega arith
zero_in (suc (suc (suc (suc (suc (suc (suc u))))))) a p h = absurd (omega arith)

zero_le : (u p : ℕ) → zero_choice u p ≤ p
unfolding zero_choice
zero_le u p = omega (arith, split p u)

-- .. one unknown after another
pub zeros-start : (x : ℕ) (ws : List ℕ) → IsWords (length ws) ws → x ≡ 0 → ws ≡ words_of (length ws) (λ p. bit_at ws (zero_choice x p))
unfolding zero_choice
zeros-start x ws is e =
    is ∙ words_cong (length ws) _ _
    (λ p l. ap (bit_at ws) (let z : p ≡ p / 2 ^ 0 * 2 ^ 0 = omega arith in z ∙ ap (λ (y : ℕ). p / 2 ^ y * 2 ^ y) (sym e)))

zero_more : (x p : ℕ) → zero_choice x (assign p x false) ≡ zero_choice (x + 1) p
unfolding zero_choice
zero_more x p =
    ap (λ (y : ℕ). y * 2 ^ x) (assign_above p x false)
    ∙ (let e : (p / 2 ^ suc x * 2 + 0) * 2 ^ x ≡ p / 2 ^ suc x * 2 ^ suc x = ap (λ (y : ℕ). y * 2 ^ x) (add-zero (p / 2 ^ suc x * 2))
    ∙ mul_assoc (p / 2 ^ suc x) 2 (2 ^ x) ∙ ap (λ (y : ℕ). p / 2 ^ suc x * y) (mul_comm 2 (2 ^ x) ∙ sym (pow-suc 2 x)) in
    e ∙ ap (λ (y : ℕ). p / 2 ^ y * 2 ^ y) (sym (add-one x)))

assign_le : (p x : ℕ) → assign p x false ≤ p
assign_le p x = go (bit p x) refl
  where
    go : (b : Bool) → bit p x ≡ b → assign p x false ≤ p
    go true e = omega (arith, assign_clear p x e)
    go false e = let same : assign p x false ≡ p = ap (assign p x) (sym e) ∙ assign-bit p x in omega arith

pub zeros_more : (x : ℕ) (ws₀ ws ws' : List ℕ) → ws ≡ words_of (length ws₀) (λ p. bit_at ws₀ (zero_choice x p))
    → ws' ≡ words_of (length ws) (λ p. bit_at ws (assign p x false))
    → ws' ≡ words_of (length ws₀) (λ p. bit_at ws₀ (zero_choice (x + 1) p))
zeros_more x ws₀ ws ws' e e' =
    e' ∙ ap (λ (y : ℕ). words_of y (λ p. bit_at ws (assign p x false))) (size_words (length ws₀) _ ws e)
    ∙ words_cong (length ws₀) _ _
    (λ p l. at_known (length ws₀) _ ws e (assign p x false) (omega (arith, assign_le p x)) ∙ ap (bit_at ws₀) (zero_more x p))

pub zeros_end : (x u : ℕ) (ws₀ ws : List ℕ) → x ≡ u → ws ≡ words_of (length ws₀) (λ p. bit_at ws₀ (zero_choice x p))
    → ws ≡ words_of (length ws₀) (λ p. bit_at ws₀ (zero_choice u p))
zeros_end x u ws₀ ws ex e = e ∙ ap (λ (y : ℕ). words_of (length ws₀) (λ p. bit_at ws₀ (zero_choice y p))) ex

module _ (c : Condition) (values found : List ℕ) (few : c.U ≤ 6) (ev : values ≡ value_words c) (ef : found ≡ boole_words c) where
  abbrev U : ℕ
  U = c.U

  abbrev n : ℕ
  n = width c

  abbrev f : Polynomial
  f = polynomial c

  abbrev K : ℕ
  K = 2 ^ (width c - 6)

  boole_at : (j p : ℕ) → j < U → p < 64 * K → part_value K found j p ≡ value n (boole_answers n f c.order j) p
  unfolding part_value
  boole_at j p hj hp = answer_at_lem U K j p _ found ef hj hp

  boole_written : answer_table U n (λ j. value n (part_value K found j)) ≡ boole_table c
  unfolding boole_table
  boole_written = values_back U n _ (part_value K found) (λ j p hj hp. boole_at j p hj (omega (arith, room n)))

  module _ (zeros : List ℕ) (size : ℕ) (es : size ≡ U * K) (ez : zeros ≡ words_of size (λ i. bit_at found (zero_choice U i))) where
    zero_at : (j p : ℕ) → j < U → p < 2 ^ n → part_value K zeros j p ≡ value n (boole_answers n f c.order j) (zero_choice U p)
    unfolding part_value
    zero_at j p hj hp =
        let m : p < 64 * K = omega (arith, room n) in
        at_known size _ zeros ez (j * (64 * K) + p) (inside j p hj m)
        ∙ ap (bit_at found) (ap (λ (y : ℕ). zero_choice U (y + p)) (points_in j K) ∙ zero_in U (j * K) p few
        ∙ ap (λ (y : ℕ). y + zero_choice U p) (sym (points_in j K)))
        ∙ boole_at j (zero_choice U p) hj (omega (arith, zero_le U p))
      where
        inside : (j p : ℕ) → j < U → p < 64 * K → j * (64 * K) + p < 64 * size
        inside j p hj m = omega (arith, es, points_in j K, part_fits U K j K (U * K) refl hj refl)

    particular-written : answer_table U n (λ j. value n (part_value K zeros j)) ≡ particular_table c
    unfolding particular_table
    particular-written =
        values_back U n _ (part_value K zeros) (λ j p hj hp. zero_at j p hj hp ∙ sym (value-particular U c.G f c.order j p hp))

    lowenheim-written : answer_table U n (λ j. value n (mixed_value (bit_at values) (part_value K zeros j) j)) ≡ lowenheim_table c
    unfolding lowenheim_table mixed_value
    lowenheim-written =
        values_back U n _ (λ j. mixed_value (bit_at values) (part_value K zeros j) j) (λ j p hj hp.
        ap₂ (λ (a b : Bool). bit p j ⊕ (a && (bit p j ⊕ b))) (at_known K _ values ev p (omega (arith, room n))) (zero_at j p hj hp)
        ∙ sym (value-own_lowenheim U c.G f c.order j p (omega arith) hp))

-- the tables of the method that is asked for, as the code comes to them
module _ (c : Condition) (n : ℕ) (en : n ≡ width c) {method : Method} {values found answers : List ℕ} where
  pub boole_by : method ≡ Boole → answers ≡ answer_table c.U n (λ j. value n (part_value (2 ^ (n - 6)) found j)) → c.U ≤ 6
      → values ≡ value_words c → found ≡ boole_words c → answers ≡ table_by method c
  boole_by e ea few ev ef = rw (e) (rw en at ea ∙ boole_written c values found few ev ef)

  module _ {zeros : List ℕ} (size : ℕ) (es : size ≡ c.U * 2 ^ (n - 6)) (ez : zeros ≡ words_of size (λ i. bit_at found (zero_choice c.U i))) where
    pub particular_by : method ≡ Particular → answers ≡ answer_table c.U n (λ j. value n (part_value (2 ^ (n - 6)) zeros j)) → c.U ≤ 6
        → values ≡ value_words c → found ≡ boole_words c → answers ≡ table_by method c
    particular_by e ea few ev ef = rw (e) (rw en at ea ∙ particular-written c values found few ev ef zeros size (rw en at es) ez)

    pub lowenheim_by : method ≡ Lowenheim
        → answers ≡ answer_table c.U n (λ j. value n (mixed_value (bit_at values) (part_value (2 ^ (n - 6)) zeros j) j)) → c.U ≤ 6
        → values ≡ value_words c → found ≡ boole_words c → answers ≡ table_by method c
    lowenheim_by e ea few ev ef = rw (e) (rw en at ea ∙ lowenheim-written c values found few ev ef zeros size (rw en at es) ez)
